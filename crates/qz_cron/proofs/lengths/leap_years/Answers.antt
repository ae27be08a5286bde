use Rattle.qz_cron.specs.declared.lengths.TheConstants.{LEAP_YEARS}
use Rattle.qz_cron.proofs.LongMonths.{leap_words}
use Rattle.qz_cron.proofs.lengths.leap_years.Goals as goal

pub returns : goal.returns
returns c i lt = leap_words c.args.years.now LEAP_YEARS i lt
