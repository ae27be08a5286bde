-- The library takes a real date as it is.
use Rattle.std.proofs.Common.{◌≡◌, arith, pos, to_z, w16}
use Rattle.std.proofs.lemmas.Int.{ints}
use Rattle.jiff_core.proofs.SignedLemmas.{signed_arith}
use Rattle.qz_civil.proofs.DateLemmas.{number-constrained}
use Rattle.qz_civil.proofs.dates.epoch_day_of.Goals as goal

pub returns-clause-value : goal.returns-clause-value
returns-clause-value c =
    let year : to_z w16 c.args.date.year ≡ pos c.args.date.year = omega (arith, ints) in
    let same = number-constrained c.args.date c.constrain.result _ c.requires.date year c.constrain.ensures.year c.constrain.ensures.month c.constrain.ensures.day in
    omega (arith, signed_arith, c.to_unix_epoch_day.ensures.value, same)
