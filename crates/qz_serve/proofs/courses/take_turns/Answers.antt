use Rattle.std.proofs.Common.{◌≡◌, rules, to_z, of_z, w64, map, refl, Some, None}
use Rattle.qz_serve.specs.Going.{state_of_both}
use Rattle.qz_serve.specs.Names.{ours_of}
use Rattle.qz_serve.proofs.Holding.{ends_proceeds, proceeds_as, proceeds_none, proceeds_then}
use Rattle.qz_serve.proofs.Coursing.{declined_named, turn_for, turns_none, turns_more, turns_until}
use Rattle.qz_serve.proofs.Limiting.{if_declined}
use Rattle.qz_serve.proofs.Stopping.{some_as}
use Rattle.qz_serve.proofs.courses.take_turns.Goals as goal

pub turns-init : goal.turns-init
turns-init g c = record { turns = turns_none (g.C.SharedClock.shows c.args.clock.now) (to_z w64 (of_z w64 c.args.until)) c.args.ours.now.nodes.items c.args.ours.now.main (state_of_both c.args.stores) (map (λ list. map (λ b. (g.dyn-1.0.entry b.vtable).1.means b.value) list.items) c.args.jobs.now.items); proceeds = proceeds_none _ _ c.keep_all.ensures c.requires.both_open }

pub take_turn-requires-clause-both_open : goal.take_turn-requires-clause-both_open
take_turn-requires-clause-both_open g c = c.turns.invariant.proceeds.stays refl

pub turns-preserved : goal.turns-preserved
turns-preserved g c =
    record {
      turns = turns_more (g.C.SharedClock.shows c.args.clock.now) (to_z w64 (of_z w64 c.args.until)) c.args.ours.now.nodes.items c.args.ours.now.main None _ _ _ _ _ _ c.turns.invariant.turns (turn_for _ _ _ _ _ None _ _ _ _ c.in-None-cause.is c.in_ok-left.ensures.took);
      proceeds = proceeds_then _ _ _ _ c.turns.invariant.proceeds (proceeds_as _ _ _ _ c.in-None-cause.is c.in_ok-left.ensures.proceeds);
    }

pub returns-in-Some-cause-clause-took : goal.returns-in-Some-cause-clause-took
returns-in-Some-cause-clause-took g c =
    let until : to_z w64 (of_z w64 c.args.until) ≡ c.args.until = search rules in
    turns_until (g.C.SharedClock.shows c.args.clock.now) _ c.args.until c.args.ours.now.nodes.items c.args.ours.now.main (Some c.in-Some-cause.why) _ _ _ _ until (turns_more (g.C.SharedClock.shows c.args.clock.now) (to_z w64 (of_z w64 c.args.until)) c.args.ours.now.nodes.items c.args.ours.now.main (Some c.in-Some-cause.why) _ _ _ _ _ _ c.turns.invariant.turns (turn_for _ _ _ _ _ (Some c.in-Some-cause.why) _ _ _ _ c.in-Some-cause.is c.in_ok-left.ensures.took))

pub returns-in-Some-cause-clause-ends : goal.returns-in-Some-cause-clause-ends
returns-in-Some-cause-clause-ends g c = ends_proceeds (g.C.SharedClock.shows c.args.clock.now) c.args.until (ours_of c.args.ours.now) c.in-Some-cause.why _ _ (proceeds_as _ _ _ _ c.in-Some-cause.is c.in_ok-left.ensures.proceeds)

pub returns-in-Some-cause-clause-proceeds : goal.returns-in-Some-cause-clause-proceeds
returns-in-Some-cause-clause-proceeds g c = proceeds_then _ _ _ _ c.turns.invariant.proceeds (proceeds_as _ _ _ _ c.in-Some-cause.is c.in_ok-left.ensures.proceeds)

pub returns-then-is_over-clause-took : goal.returns-then-is_over-clause-took
returns-then-is_over-clause-took g c =
    let until : to_z w64 (of_z w64 c.args.until) ≡ c.args.until = search rules in
    turns_until (g.C.SharedClock.shows c.args.clock.now) _ c.args.until c.args.ours.now.nodes.items c.args.ours.now.main None _ _ _ _ until (turns_more (g.C.SharedClock.shows c.args.clock.now) (to_z w64 (of_z w64 c.args.until)) c.args.ours.now.nodes.items c.args.ours.now.main None _ _ _ _ _ _ c.turns.invariant.turns (turn_for _ _ _ _ _ None _ _ _ _ c.in-None-cause.is c.in_ok-left.ensures.took))

pub returns-then-is_over-clause-ends : goal.returns-then-is_over-clause-ends
returns-then-is_over-clause-ends g c =
    let until : to_z w64 (of_z w64 c.args.until) ≡ c.args.until = search rules in
    rw until at (c.is_over.ensures c.if-is_over.true)

pub returns-then-is_over-clause-proceeds : goal.returns-then-is_over-clause-proceeds
returns-then-is_over-clause-proceeds g c = proceeds_then _ _ _ _ c.turns.invariant.proceeds (proceeds_as _ _ _ _ c.in-None-cause.is c.in_ok-left.ensures.proceeds)

pub returns-in-Some-cause-clause-declined : goal.returns-in-Some-cause-clause-declined
returns-in-Some-cause-clause-declined g c =
    let until : to_z w64 (of_z w64 c.args.until) ≡ c.args.until = search rules in
    some_as _ _ c.in-Some-cause.why c.in-Some-cause.is
    (if_declined _ c.args.until (ours_of c.args.ours.now) (ours_of c.args.ours.now) (λ name within. within) _ _ _ c.turns.invariant.proceeds.kept.grew _ (declined_named _ _ c.args.until _ _ _ _ _ until refl c.in_ok-left.ensures.declined))
