-- Each of the misfired triggers is moved in its turn.
use Rattle.std.proofs.Common.{◌≡◌, ℤ, List, [], ◌∷◌, map, fold, None, IfSome, IsTrue, Result, Ok, Err, IfOk, refl, sym, ap, ◌∙◌, subst}
use Rattle.std.specs.List.{AllByRecursion}
use Rattle.qz_types.specs.Changes.{moved_trigger}
use Rattle.qz_types.specs.Rows.{TriggerData, MemberData, is_trigger}
use Rattle.qz_types.specs.declared.replies.MovedRow.{MovedRow}
use Rattle.qz_types.specs.declared.replies.Reply.TheVariants as reply
use Rattle.qz_types.specs.Tables.{SchedulerTables}
use Rattle.qz_types.specs.Outcomes.{accepted, unless}
use Rattle.qz_types.specs.Words.{with_trigger}
use Rattle.qz_model.specs.Membership.{node_refusal}
use Rattle.qz_model.specs.Misfires.{misfired_triggers, move_of, with_moved, moved_row, move_each, misfires}
use Rattle.qz_model.proofs.Apart.{HasOtherKey, AreApart}
use Rattle.qz_model.proofs.DueLaws.{IsStoredWaiting}
use Rattle.qz_model.proofs.KeptMisfires.{each_misfired, apart_misfired}
use Rattle.qz_model.proofs.RowPoints.{All-both}
use Rattle.qz_model.proofs.Waiting.{still_waiting}
use Rattle.qz_apply.proofs.Accepted.{same_outcome}
use Rattle.qz_acquire.specs.Moves.{with_move, AreMovable, move_for, IsMovable}
use Rattle.qz_acquire.specs.declared.changes.Move.{Move}
use Rattle.qz_acquire.proofs.Walk.{AreInKeyOrder}

-- what is moved is what the transaction moves
pub moved_each : (T : SchedulerTables) (m : ℤ) (triggers ts : List TriggerData) → fold with_move triggers (map (move_for T m) ts) ≡ fold (with_moved T m) triggers ts
unfolding with_moved
moved_each T m triggers [] = refl
moved_each T m triggers (t ∷ ts) = moved_each T m (with_moved T m triggers t) ts

movable_each : (T : SchedulerTables) (m : ℤ) (U : SchedulerTables) (ts : List TriggerData) → AllByRecursion (IsStoredWaiting U) ts → AreApart ts → AllByRecursion (IsMovable T m) ts → AreMovable U.triggers (map (move_for T m) ts)
movable_each T m U [] each apart fit = tt
movable_each T m U (t ∷ ts) each apart fit =
    let moved : TriggerData → TriggerData = moved_trigger (move_of T m t) in
    let U' : SchedulerTables = record U { triggers = with_trigger t.spec.key moved U.triggers } in (
      subst (λ o. IfSome o (λ u. IsTrue (is_trigger (moved_trigger (move_of T m t) u)))) (sym each.0.stored) fit.0,
      movable_each T m U' ts
          (All-both (IsStoredWaiting U) (HasOtherKey t.spec.key) (IsStoredWaiting U') ts (λ u one other. still_waiting U U' t.spec.key moved u (λ x. refl) refl other one) each.1 apart.0)
          apart.1 fit.1,
    )

-- each move of the misfired triggers makes a valid row
pub movable : (T : SchedulerTables) (m : ℤ) → AreInKeyOrder T.triggers → AllByRecursion (IsMovable T m) (misfired_triggers T m) → AreMovable T.triggers (map (move_for T m) (misfired_triggers T m))
movable T m ordered fit = movable_each T m T (misfired_triggers T m) (each_misfired T m ordered) (apart_misfired T m ordered) fit

-- the reply lists what was moved
pub listed : (T : SchedulerTables) (m : ℤ) (ts : List TriggerData) → map (λ (move : Move). record { trigger = move.key; next = move.moved.next }) (map (move_for T m) ts) ≡ map (moved_row T m) ts
listed T m [] = refl
listed T m (t ∷ ts) = ap (λ rows. moved_row T m t ∷ rows) (listed T m ts)

-- so are those that are made for it
pub movable_answer : {V E : Type 0} (items : V → List Move) (r : Result V E) (T : SchedulerTables) (m : ℤ) (ts : List TriggerData) → AreInKeyOrder T.triggers → ts ≡ misfired_triggers T m
    → IfOk r (λ v. items v ≡ map (move_for T m) ts) → IfOk r (λ _. AllByRecursion (IsMovable T m) ts) → IfOk r (λ v. AreMovable T.triggers (items v))
movable_answer items (Ok v) T m ts ordered these are fit =
    subst (AreMovable T.triggers) (sym (are ∙ ap (map (move_for T m)) these)) (movable T m ordered (subst (AllByRecursion (IsMovable T m)) these fit))
movable_answer items (Err e) T m ts ordered these are fit = tt

-- what an accepted Misfires comes to
pub outcome : (T U : SchedulerTables) (m n : ℤ) (me : MemberData) (moves : List Move) (rows : List MovedRow) → node_refusal T me ≡ None → n ≡ m → moves ≡ map (move_for T n) (misfired_triggers T n)
    → rows ≡ map (λ (move : Move). record { trigger = move.key; next = move.moved.next }) moves
    → U ≡ record T { triggers = fold with_move T.triggers moves; last_moment = n } → misfires T m me ≡ accepted U (reply.Misfired rows)
outcome T U m n me moves rows clear moment these lists leaves =
    let ts = misfired_triggers T n in
    let triggers : fold with_move T.triggers moves ≡ fold (with_moved T n) T.triggers ts = ap (fold with_move T.triggers) these ∙ moved_each T n T.triggers ts in
    let listed_rows : rows ≡ map (moved_row T n) ts = lists ∙ ap (map (λ (move : Move). record { trigger = move.key; next = move.moved.next })) these ∙ listed T n ts in
    let left : U ≡ record T { triggers = fold (with_moved T n) T.triggers ts; last_moment = n } = leaves ∙ ap (λ x. record T { triggers = x; last_moment = n }) triggers in
    ap (λ x. misfires T x me) (sym moment) ∙ ap (λ x. unless x (move_each T n ts)) clear ∙ same_outcome U (record T { triggers = fold (with_moved T n) T.triggers ts; last_moment = n }) (reply.Misfired rows) (reply.Misfired (map (moved_row T n) ts)) left (ap reply.Misfired listed_rows)
