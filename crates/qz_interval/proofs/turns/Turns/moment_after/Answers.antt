use Rattle.std.proofs.Common.{refl, w64}
use Rattle.std.proofs.lemmas.Int.{to_z-of_z}
use Rattle.qz_interval.proofs.TurnLemmas.{by_clock, never_shown}
use Rattle.qz_interval.proofs.turns.Turns.moment_after.Goals as goal

pub returns-in-Some-clause-none : goal.returns-in-Some-clause-none
returns-in-Some-clause-none c = λ none t turn.
    let after = to_z-of_z w64 c.args.after c.ranges.after in
    by_clock c.args.clock c.requires.valid c.args.self c.args.place c.in-Some.local c.args.after t c.in-Some.ensures.some (rw after at (c.moment_after.ensures.none none)) turn

pub returns-in-None-clause-none : goal.returns-in-None-clause-none
returns-in-None-clause-none c = λ none t turn.
    absurd (never_shown c.args.clock c.requires.valid turn.clock t (c.in-None.ensures.none refl turn.clock turn.turn) turn.at)
