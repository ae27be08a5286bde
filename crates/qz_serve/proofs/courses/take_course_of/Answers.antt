use Rattle.std.proofs.Common.{◌≡◌, ℕ, List, rules, to_z, of_z, w64, ap, ◌∙◌, map, refl, subst}
use Rattle.std.proofs.lemmas.List.Elements.{Contains-append_left}
use Rattle.std.specs.Prelude.{Contains}
use Rattle.qz_types.specs.Rows.{MemberData}
use Rattle.qz_serve.specs.Names.{ours_of}
use Rattle.qz_serve.proofs.Boarding.{shows_on}
use Rattle.qz_serve.proofs.Holding.{ends_moved, ends_proceeds, moved_short, moved_well, proceeds_as, proceeds_then}
use Rattle.qz_serve.proofs.Coursing.{came_named, course_of_joins, course_of_nodes, course_of_turns, declined_named, ends_named, if_ok_map, nodes_named, turns_until}
use Rattle.qz_serve.proofs.Limiting.{grew_none, if_declined, was_declined}
use Rattle.qz_serve.proofs.Stopping.{some_as}
use Rattle.qz_serve.proofs.courses.take_course_of.Goals as goal

pub returns-in-Err-clause-took : goal.returns-in-Err-clause-took
returns-in-Err-clause-took g c = course_of_joins _ c.args.until _ _ c.in-Err.why _ _ _ (came_named _ _ _ _ _ c.deref.ensures.value c.in-Err.ensures.moves.moved)

pub returns-in-Err-clause-ends : goal.returns-in-Err-clause-ends
returns-in-Err-clause-ends g c = ends_moved (g.C.SharedClock.shows c.args.clock.now) c.args.until (ours_of c.args.ours.now) c.in-Err.why _ _ _ c.in-Err.ensures.moves

pub returns-in-Err-clause-proceeds : goal.returns-in-Err-clause-proceeds
returns-in-Err-clause-proceeds g c = moved_short _ _ c.in-Err.why _ _ c.keep_all.ensures c.in-Err.ensures.moves

pub work_as_nodes-requires-clause-both_open : goal.work_as_nodes-requires-clause-both_open
work_as_nodes-requires-clause-both_open g c κs within = c.in-Ok.ensures.moves.stays c.requires.both_open

pub returns-in-Some-clause-took : goal.returns-in-Some-clause-took
returns-in-Some-clause-took g c =
    let until : to_z w64 (of_z w64 c.args.until) ≡ c.args.until = search rules in
    course_of_nodes _ c.args.until _ _ c.in-Some.why _ _ _ _ _ _ (ap (map (λ (m : MemberData). m.node)) c.deref-2.ensures.value ∙ c.in-Ok.ensures.members ∙ c.deref.ensures.value) (came_named _ _ _ _ _ c.deref.ensures.value c.in-Ok.ensures.moves.moved) (nodes_named _ _ c.args.until _ _ _ _ _ _ until refl c.in_ok-stores.ensures.worked)

pub returns-in-Some-clause-ends : goal.returns-in-Some-clause-ends
returns-in-Some-clause-ends g c = ends_proceeds (g.C.SharedClock.shows c.args.clock.now) c.args.until (ours_of c.args.ours.now) c.in-Some.why _ _ (proceeds_as _ _ _ _ c.in-Some.is c.in_ok-stores.ensures.proceeds)

pub returns-in-Some-clause-proceeds : goal.returns-in-Some-clause-proceeds
returns-in-Some-clause-proceeds g c = proceeds_then _ _ _ _ (moved_well _ _ _ _ c.keep_all.ensures c.requires.both_open c.in-Ok.ensures.moves) (proceeds_as _ _ _ _ c.in-Some.is c.in_ok-stores.ensures.proceeds)

pub take_turns-requires-clause-both_open : goal.take_turns-requires-clause-both_open
take_turns-requires-clause-both_open g c = c.in_ok-stores.ensures.proceeds.stays c.in-None.is

pub returns-clause-took : goal.returns-clause-took
returns-clause-took g c =
    let until : to_z w64 (of_z w64 c.args.until) ≡ c.args.until = search rules in
    if_ok_map _ _ c.take_turns.result (λ r turns.
    let so = turns_until (g.C.SharedClock.shows c.args.clock.now) _ c.args.until c.args.ours.now.nodes.items c.args.ours.now.main r.1 _ _ _ _ until turns in
    course_of_turns (g.C.SharedClock.shows c.args.clock.now) c.args.until c.args.ours.now.nodes.items c.args.ours.now.main r.1 _ so.0 _ _ _ _ _ _ _ (ap (map (λ (m : MemberData). m.node)) c.deref-2.ensures.value ∙ c.in-Ok.ensures.members ∙ c.deref.ensures.value) (came_named _ _ _ _ _ c.deref.ensures.value c.in-Ok.ensures.moves.moved) (nodes_named _ _ c.args.until _ _ _ _ _ _ until refl c.in_ok-stores.ensures.worked) (rw until at (c.in_ok-stores.ensures.ended c.in-None.is)) so.1) c.take_turns.ensures.took

pub returns-clause-ends : goal.returns-clause-ends
returns-clause-ends g c =
    let until : to_z w64 (of_z w64 c.args.until) ≡ c.args.until = search rules in
    if_ok_map _ _ c.take_turns.result (λ r ends. ends_named _ _ c.args.until _ _ _ _ until refl ends) c.take_turns.ensures.ends

pub returns-clause-proceeds : goal.returns-clause-proceeds
returns-clause-proceeds g c = if_ok_map _ _ c.take_turns.result (λ r proceeds. proceeds_then _ _ _ _ (moved_well _ _ _ _ c.keep_all.ensures c.requires.both_open c.in-Ok.ensures.moves) (proceeds_then _ _ _ _ (proceeds_as _ _ _ _ c.in-None.is c.in_ok-stores.ensures.proceeds) proceeds)) c.take_turns.ensures.proceeds

pub returns-in-Err-clause-declined : goal.returns-in-Err-clause-declined
returns-in-Err-clause-declined g c =
    was_declined _ c.args.until c.deref.result.now (ours_of c.args.ours.now) (λ name within. Contains-append_left c.args.ours.now.nodes.items _ name (subst (λ (xs : List (List ℕ)). Contains xs name) c.deref.ensures.value within))
    _ _ _ (grew_none _) c.in-Err.why (c.in-Err.ensures.moves.declined c.args.until)

pub returns-in-Some-clause-declined : goal.returns-in-Some-clause-declined
returns-in-Some-clause-declined g c =
    let until : to_z w64 (of_z w64 c.args.until) ≡ c.args.until = search rules in
    let named = ap (map (λ (m : MemberData). m.node)) c.deref-2.ensures.value ∙ c.in-Ok.ensures.members ∙ c.deref.ensures.value in
    some_as _ _ c.in-Some.why c.in-Some.is
    (if_declined _ c.args.until c.args.ours.now.nodes.items (ours_of c.args.ours.now) (λ name within. Contains-append_left c.args.ours.now.nodes.items _ name within) _ _ _ c.in-Ok.ensures.moves.grew _ (declined_named _ _ c.args.until _ _ _ _ _ until named c.in_ok-stores.ensures.declined))

pub returns-clause-declined : goal.returns-clause-declined
returns-clause-declined g c =
    let until : to_z w64 (of_z w64 c.args.until) ≡ c.args.until = search rules in
    let before = proceeds_then _ _ _ _ (moved_well _ _ _ _ c.keep_all.ensures c.requires.both_open c.in-Ok.ensures.moves) (proceeds_as _ _ _ _ c.in-None.is c.in_ok-stores.ensures.proceeds) in
    if_ok_map _ _ c.take_turns.result (λ r declined. if_declined _ c.args.until (ours_of c.args.ours.now) (ours_of c.args.ours.now) (λ name within. within) _ _ _ before.kept.grew _ (declined_named _ _ c.args.until _ _ _ _ _ until refl declined)) c.take_turns.ensures.declined

pub returns-in-Err-clause-shows : goal.returns-in-Err-clause-shows
returns-in-Err-clause-shows g c = shows_on c.args.board.now _ _ c.in-Err.ensures.moves.grew.triggers c.requires.shows

pub work_as_nodes-requires-clause-shows : goal.work_as_nodes-requires-clause-shows
work_as_nodes-requires-clause-shows g c κs within = shows_on c.args.board.now _ _ c.in-Ok.ensures.moves.grew.triggers c.requires.shows

pub returns-clause-shows : goal.returns-clause-shows
returns-clause-shows g c = if_ok_map _ _ c.take_turns.result (λ r proceeds. shows_on c.work_as_nodes.new.board _ _ proceeds.kept.grew.triggers c.in_ok-stores.ensures.shows) c.take_turns.ensures.proceeds

pub returns-clause-plan : goal.returns-clause-plan
returns-clause-plan g c = if_ok_map _ _ c.take_turns.result (λ r proceeds. c.in_ok-stores.ensures.plan) c.take_turns.ensures.proceeds
