use Rattle.std.proofs.Common.{◌≡◌, ℤ, None, map, fold, w64, to_z, of_z, sym, subst, ap, ◌∙◌, arith}
use Rattle.std.proofs.lemmas.Int.{to_z-of_z}
use Rattle.std.proofs.lemmas.Grind.{common_steps}
use Rattle.qz_model.specs.Membership.{node_refusal}
use Rattle.qz_acquire.specs.Moves.{with_move, AreMovable}
use Rattle.qz_acquire.specs.declared.changes.Move.{Move}
use Rattle.qz_acquire.proofs.Moving.{outcome}
use Rattle.qz_acquire.proofs.misfires.prepare_misfires.Goals as goal

pub returns-clause-possible : goal.returns-clause-possible
returns-clause-possible c = subst (AreMovable c.args.tables.now.tables.triggers) (sym c.from_vec.ensures) c.in_ok-moves.ensures.movable

pub returns-clause-ok : goal.returns-clause-ok
returns-clause-ok c =
    let T = c.args.tables.now.tables in
    let moment : to_z w64 (of_z w64 c.args.moment) ≡ c.args.moment = grind (arith, common_steps, to_z-of_z) in
    let clear : node_refusal T c.args.me.now ≡ None = grind (arith, common_steps) in
    outcome T (record T { triggers = fold with_move T.triggers c.from_vec.result; last_moment = c.args.moment }) c.args.moment (to_z w64 (of_z w64 c.args.moment)) c.args.me.now c.from_vec.result c.in_ok-rows.rows clear moment
    (c.from_vec.ensures ∙ c.in_ok-moves.ensures.moves)
    (c.in_ok-rows.ensures ∙ ap (map (λ (move : Move). record { trigger = move.key; next = move.moved.next })) (c.deref.ensures.value ∙ sym c.from_vec.ensures))
    (ap (λ (x : ℤ). record T { triggers = fold with_move T.triggers c.from_vec.result; last_moment = x }) (sym moment))
