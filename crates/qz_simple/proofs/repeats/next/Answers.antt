use Rattle.std.proofs.Common.{arith}
use Rattle.std.proofs.lemmas.Int.{ints, to_z-of_z}
use Rattle.qz_simple.specs.Simple.{IsCounted}
use Rattle.qz_simple.proofs.RepeatLemmas.{AreNatural, cut_turn, not_counted}
use Rattle.qz_simple.proofs.repeats.next.Goals as goal

-- src/repeats.rt:21:1
pub returns-in-Some : goal.returns-in-Some
returns-in-Some c =
    let n : AreNatural c.args.start c.args.interval c.args.after c.to_unsigned.result c.to_unsigned-2.result c.to_unsigned-3.result =
    record { begins = omega (arith, ints); steps = omega (arith, ints); from = omega (arith, ints) } in
    let counted : IsCounted c.args.count c.in-Some.turn.place = grind (arith, to_z-of_z) in
    cut_turn _ _ _ _ _ _ _ _ _ _ _ n c.in-Some.ensures.first c.in-Some.ensures.moment counted c.before_end.ensures.kept c.before_end.ensures.gone

pub returns-in_default : goal.returns-in_default
returns-in_default c =
    let n : AreNatural c.args.start c.args.interval c.args.after c.to_unsigned.result c.to_unsigned-2.result c.to_unsigned-3.result =
    record { begins = omega (arith, ints); steps = omega (arith, ints); from = omega (arith, ints) } in
    not_counted _ _ _ _ _ _ _ _ _ n c.in-Some.ensures.first (λ is. grind (arith, to_z-of_z))
