use Rattle.std.proofs.Common.{w64, FitsSigned, rules, arith}
use Rattle.std.proofs.lemmas.Int.{ints, to_z-of_z}
use Rattle.qz_calendar.proofs.spans.end_of.Goals as goal

pub returns-in-Some-clause-bound : goal.returns-in-Some-clause-bound
returns-in-Some-clause-bound c =
    let fits : FitsSigned w64 c.in-Some.start = search rules in
    let value = rw (to_z-of_z w64 c.in-Some.start fits) at c.to_unsigned.ensures.value in
    let high = c.requires.high c.in-Some.start c.in-Some.is in
    omega (arith, ints)
