-- The years of the days are years of the library.
use Rattle.std.proofs.Common.{arith}
use Rattle.qz_civil.proofs.DateLemmas.{year_range}
use Rattle.qz_civil.proofs.dates.numbered_date.Goals as goal

pub returns-clause-year : goal.returns-clause-year
returns-clause-year c = year_range c.args.day c.epoch_date.result (omega arith) c.epoch_date.ensures
