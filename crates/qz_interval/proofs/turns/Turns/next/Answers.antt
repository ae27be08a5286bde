use Rattle.std.proofs.Common.{arith, rules, w64, FitsSigned}
use Rattle.std.proofs.lemmas.Int.{to_z-of_z}
use Rattle.qz_civil.proofs.InstantLemmas.{to_timestamp}
use Rattle.qz_interval.proofs.TurnLemmas.{least_turn, no_turn, passed_first, passed_next}
use Rattle.qz_interval.proofs.turns.Turns.next.Goals as goal

pub loop-place-init : goal.loop-place-init
loop-place-init c =
    let after = to_z-of_z w64 c.args.after c.ranges.after in
    let known = to_timestamp c.args.after c.requires.low c.requires.high in
    let now = rw after at c.at-now.ensures.value in
    rw after (passed_first c.args.clock c.requires.valid c.args.self c.args.after c.place_on.result c.max-place.result known (rw now at c.place_on.ensures) (λ j one lt. omega (arith, c.max-place.ensures)))

pub returns-in-Some : goal.returns-in-Some
returns-in-Some c =
    let f : FitsSigned w64 c.in-Some.ms = search rules in
    let after = to_z-of_z w64 c.args.after c.ranges.after in
    let ms = to_z-of_z w64 c.in-Some.ms f in
    let here = rw after at c.in-Some.ensures.some in
    rw ms (least_turn c.args.clock c.requires.valid c.args.self c.args.after c.in-Some.ms c.loop-place.place (omega arith) (rw after at c.loop-place.invariant) here.0 here.1)

pub loop-place-preserved : goal.loop-place-preserved
loop-place-preserved c = passed_next c.args.clock c.requires.valid c.args.self _ c.loop-place.place c.loop-place.invariant (c.moment_after.ensures.none c.in_default.is)

pub returns : goal.returns
returns c =
    let after = to_z-of_z w64 c.args.after c.ranges.after in
    no_turn c.args.clock c.requires.valid c.args.self c.args.after c.loop-place.place (rw after at c.loop-place.invariant) (λ j m le turn. c.places-place-end.ensures.late j m (omega arith) turn)
