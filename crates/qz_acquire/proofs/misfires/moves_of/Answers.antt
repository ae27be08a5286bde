use Rattle.std.proofs.Common.{◌≡◌, ◌++◌, ◌∷◌, [], rules, IsTrue, subst, w64, to_z, of_z, ap, ◌∙◌, arith}
use Rattle.std.proofs.lemmas.Int.{to_z-of_z}
use Rattle.std.proofs.lemmas.Grind.{common_steps}
use Rattle.qz_types.specs.Changes.{moved_trigger}
use Rattle.qz_types.specs.Rows.{is_trigger}
use Rattle.qz_model.specs.Misfires.{move_of}
use Rattle.qz_acquire.specs.Moves.{move_for, IsMovable}
use Rattle.qz_acquire.specs.declared.changes.Move.{Move}
use Rattle.qz_acquire.proofs.Missed.{fits, same_move, one_more, all_taken}
use Rattle.qz_acquire.proofs.misfires.moves_of.Goals as goal

pub loop-trigger-preserved : goal.loop-trigger-preserved
loop-trigger-preserved c =
    let m = to_z w64 (of_z w64 c.args.moment) in
    let t = c.trigger-item.result.now in
    let own : c.in_ok-key.key ≡ t.spec.key = c.in_ok-key.ensures ∙ ap (λ r. r.now.spec.key) c.trigger.view_is in
    let made : c.move_of-moved.result ≡ move_of c.args.tables.now.tables m t = c.move_of-moved.ensures.value in
    let one : Move = record { key = c.in_ok-key.key; moved = c.move_of-moved.result } in
    let same : one ≡ move_for c.args.tables.now.tables m t = same_move c.args.tables.now.tables m t c.in_ok-key.key c.move_of-moved.result own made in
    let grown : c.push.new.self.items ≡ c.loop-trigger.moves.items ++ move_for c.args.tables.now.tables m t ∷ [] = c.in_ok-push.ensures.items ∙ ap (λ x. c.loop-trigger.moves.items ++ x ∷ []) same in
    let valid : IsTrue (is_trigger t) = search rules in
    let movable : IsMovable c.args.tables.now.tables m t = subst (λ x. IsTrue (is_trigger (moved_trigger x t))) made (fits t c.move_of-moved.result valid c.move_of-moved.ensures.timing c.move_of-moved.ensures.times) in
    one_more (λ r. r.now) c.args.tables.now.tables (to_z w64 (of_z w64 c.args.moment)) c.args.triggers.now c.loop-trigger.trigger-index c.trigger-item.result c.loop-trigger.moves.items c.push.new.self.items
    c.loop-trigger-test.true c.trigger-item.is grown movable c.loop-trigger.invariant

pub returns-clause-moves : goal.returns-clause-moves
returns-clause-moves c =
    let moment : to_z w64 (of_z w64 c.args.moment) ≡ c.args.moment = grind (arith, common_steps, to_z-of_z) in
    (all_taken (λ r. r.now) c.args.tables.now.tables c.args.moment (to_z w64 (of_z w64 c.args.moment)) c.args.triggers.now c.loop-trigger.trigger-index c.loop-trigger.moves.items moment c.loop-trigger-test.false c.loop-trigger.invariant).0

pub returns-clause-fit : goal.returns-clause-fit
returns-clause-fit c =
    let moment : to_z w64 (of_z w64 c.args.moment) ≡ c.args.moment = grind (arith, common_steps, to_z-of_z) in
    (all_taken (λ r. r.now) c.args.tables.now.tables c.args.moment (to_z w64 (of_z w64 c.args.moment)) c.args.triggers.now c.loop-trigger.trigger-index c.loop-trigger.moves.items moment c.loop-trigger-test.false c.loop-trigger.invariant).1
