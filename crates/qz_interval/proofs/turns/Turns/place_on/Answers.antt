use Rattle.std.proofs.Common.{arith}
use Rattle.qz_interval.proofs.NumberLemmas.{clock-earlier}
use Rattle.qz_interval.proofs.turns.Turns.place_on.Goals as goal

pub returns : goal.returns
returns c = λ k m lt turn.
    let before = rw c.number_of.ensures.value at (c.place_from.ensures.before k lt) in
    let less = clock-earlier c.args.self _ m c.args.clock turn before in
    omega arith
