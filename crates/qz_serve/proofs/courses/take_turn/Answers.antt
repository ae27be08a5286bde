use Rattle.std.proofs.Common.{◌≡◌, ◌∷◌, [], rules, to_z, of_z, w64}
use Rattle.std.proofs.lemmas.List.Elements.{Contains-append_right}
use Rattle.qz_serve.specs.Names.{ours_of}
use Rattle.qz_serve.proofs.Holding.{moved_short, moved_well, proceeds_as, proceeds_then}
use Rattle.qz_serve.proofs.Coursing.{declined_named, turn_of_join, turn_of_main, turn_of_leaves}
use Rattle.qz_serve.proofs.Limiting.{grew_none, if_declined, was_declined}
use Rattle.qz_serve.proofs.Stopping.{some_as}
use Rattle.qz_serve.proofs.courses.take_turn.Goals as goal

pub returns-in-Err-clause-took : goal.returns-in-Err-clause-took
returns-in-Err-clause-took g c = turn_of_join _ c.args.until _ _ c.in-Err.why _ _ _ c.in-Err.ensures.moves.moved

pub returns-in-Err-clause-proceeds : goal.returns-in-Err-clause-proceeds
returns-in-Err-clause-proceeds g c = moved_short _ _ c.in-Err.why _ _ c.keep_all.ensures c.in-Err.ensures.moves

pub work_as_main-requires-clause-both_open : goal.work_as_main-requires-clause-both_open
work_as_main-requires-clause-both_open g c = c.in-Ok.ensures.moves.stays c.requires.both_open

pub end_turn-requires : goal.end_turn-requires
end_turn-requires g c = c.in_ok-stores.ensures.proceeds.stays c.in-None.is

pub returns-in-Some-clause-took : goal.returns-in-Some-clause-took
returns-in-Some-clause-took g c =
    let until : to_z w64 (of_z w64 c.args.until) ≡ c.args.until = search rules in
    turn_of_main _ c.args.until _ _ c.in-Some.why c.in-Ok.me _ _ _ _ _ c.in-Ok.ensures.member c.in-Ok.ensures.moves.moved (rw until at c.in_ok-stores.ensures.worked)

pub returns-in-Some-clause-proceeds : goal.returns-in-Some-clause-proceeds
returns-in-Some-clause-proceeds g c = proceeds_then _ _ _ _ (moved_well _ _ _ _ c.keep_all.ensures c.requires.both_open c.in-Ok.ensures.moves) (proceeds_as _ _ _ _ c.in-Some.is c.in_ok-stores.ensures.proceeds)

pub returns-clause-took : goal.returns-clause-took
returns-clause-took g c =
    let until : to_z w64 (of_z w64 c.args.until) ≡ c.args.until = search rules in
    turn_of_leaves _ c.args.until _ _ _ c.in-Ok.me _ _ _ _ _ _ c.in-Ok.ensures.member c.in-Ok.ensures.moves.moved (rw until at c.in_ok-stores.ensures.worked) (rw until at (c.in_ok-stores.ensures.ended c.in-None.is)) c.end_turn.ensures.came

pub returns-clause-proceeds : goal.returns-clause-proceeds
returns-clause-proceeds g c = proceeds_then _ _ _ _ (moved_well _ _ _ _ c.keep_all.ensures c.requires.both_open c.in-Ok.ensures.moves) (proceeds_then _ _ _ _ (proceeds_as _ _ _ _ c.in-None.is c.in_ok-stores.ensures.proceeds) c.end_turn.ensures.proceeds)

pub returns-in-Err-clause-declined : goal.returns-in-Err-clause-declined
returns-in-Err-clause-declined g c =
    was_declined _ c.args.until (c.args.ours.now.main ∷ []) (ours_of c.args.ours.now) (λ name within. Contains-append_right c.args.ours.now.nodes.items _ name within) _ _ _ (grew_none _) c.in-Err.why (c.in-Err.ensures.moves.declined c.args.until)

pub returns-in-Some-clause-declined : goal.returns-in-Some-clause-declined
returns-in-Some-clause-declined g c =
    let until : to_z w64 (of_z w64 c.args.until) ≡ c.args.until = search rules in
    some_as _ _ c.in-Some.why c.in-Some.is
    (if_declined _ c.args.until (c.args.ours.now.main ∷ []) (ours_of c.args.ours.now) (λ name within. Contains-append_right c.args.ours.now.nodes.items _ name within) _ _ _ c.in-Ok.ensures.moves.grew _
    (declined_named _ _ c.args.until _ _ _ _ _ until (λ i. c.in-Ok.ensures.member i ∷ []) c.in_ok-stores.ensures.declined))

pub returns-clause-declined : goal.returns-clause-declined
returns-clause-declined g c =
    let before = proceeds_then _ _ _ _ (moved_well _ _ _ _ c.keep_all.ensures c.requires.both_open c.in-Ok.ensures.moves) (proceeds_as _ _ _ _ c.in-None.is c.in_ok-stores.ensures.proceeds) in
    if_declined _ c.args.until (ours_of c.args.ours.now) (ours_of c.args.ours.now) (λ name within. within) _ _ _ before.kept.grew _ (c.end_turn.ensures.declined c.args.until)
