use Rattle.std.proofs.Common.{bit_and, refl}
use Rattle.qz_civil.specs.declared.fields.CronFields.{CronFields}
use Rattle.qz_cron.proofs.LongMonths.{month-kept, month-bare}
use Rattle.qz_cron.proofs.lengths.narrowed.Goals as goal

pub returns-clause-kept : goal.returns-clause-kept
returns-clause-kept c =
    let f : CronFields = c.args.fields.now in
    month-kept f (record f { months = bit_and f.months c.months_of.result; years = c.years_of.result }) c.months_of.result refl c.years_of.ensures.kept

pub returns-clause-left : goal.returns-clause-left
returns-clause-left c number =
    let f : CronFields = c.args.fields.now in
    month-bare f (record f { months = bit_and f.months c.months_of.result; years = c.years_of.result }) c.months_of.result c.least_length-length.result number
    (record { months = refl; set_has = c.months_of.ensures; years_have = c.years_of.ensures.left; least = c.least_length-length.ensures })
