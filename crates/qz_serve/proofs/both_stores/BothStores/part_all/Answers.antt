use Rattle.std.proofs.Common.{List, ℕ, subst}
use Rattle.std.proofs.lemmas.List.Elements.{Contains-append_left, Contains-append_right}
use Rattle.std.specs.Prelude.{Contains}
use Rattle.qz_serve.proofs.Lists.{contains_one}
use Rattle.qz_serve.proofs.Moving.{moves_then, moves_wider}
use Rattle.qz_serve.proofs.both_stores.BothStores.part_all.Goals as goal

pub returns-in-Ok : goal.returns-in-Ok
returns-in-Ok g c =
    moves_then _ _ _ _ _ _
    (moves_wider _ c.deref.result.now _ _ _ _ (λ name within. Contains-append_left c.args.ours.now.nodes.items _ name (subst (λ (xs : List (List ℕ)). Contains xs name) c.deref.ensures.value within)) c.in-Ok.ensures)
    (c.part.ensures _ (Contains-append_right c.args.ours.now.nodes.items _ _ (contains_one _)))

pub returns-in-Err : goal.returns-in-Err
returns-in-Err g c =
    moves_wider _ c.deref.result.now _ _ _ _ (λ name within. Contains-append_left c.args.ours.now.nodes.items _ name (subst (λ (xs : List (List ℕ)). Contains xs name) c.deref.ensures.value within)) c.in-Err.ensures
