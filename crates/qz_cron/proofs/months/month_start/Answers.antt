use Rattle.qz_cron.proofs.Calendar.{some_start, month-ends}
use Rattle.qz_cron.proofs.months.month_start.Goals as goal

pub unwrap-requires : goal.unwrap-requires
unwrap-requires c = some_start c.args.number c.day_of.result c.requires c.day_of.ensures.none

pub returns-clause-value : goal.returns-clause-value
returns-clause-value c = rw c.from.ensures (rw c.unwrap.ensures at c.day_of.ensures.found)

pub returns-clause-bound : goal.returns-clause-bound
returns-clause-bound c = month-ends c.args.number c.from.result c.requires (returns-clause-value c)
