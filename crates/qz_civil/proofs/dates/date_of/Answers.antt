-- The library's date has the parts of the day's date.
use Rattle.std.proofs.Common.{arith}
use Rattle.jiff_core.proofs.SignedLemmas.{signed_arith}
use Rattle.qz_civil.specs.Dates.{date_of}
use Rattle.qz_civil.proofs.DateLemmas.{same_date, same_parts}
use Rattle.qz_civil.proofs.dates.date_of.Goals as goal

pub returns-clause-value : goal.returns-clause-value
returns-clause-value c =
    let same = same_date c.args.day c.numbered_date-date.result (omega arith) c.numbered_date-date.ensures.day in
    same_parts _ (date_of c.args.day) (omega (arith, signed_arith)) same.1 same.2
