-- Triggers that are stored and wait.
use Rattle.std.proofs.Common.{◌≡◌, ℤ, pos, true, false, Option, Some, None, IsSomeAnd, unwrap_or, refl, sym, ap, ◌∙◌}
use Rattle.std.specs.List.{AllByRecursion}
use Rattle.std.proofs.lemmas.Bool.{and_parts, and_from, false_from_ne_true}
use Rattle.qz_types.specs.Rows.{TriggerData, FiredData}
use Rattle.qz_types.specs.declared.keys.Key.{Key}
use Rattle.qz_types.specs.declared.triggers.TriggerState.TheVariants as state
use Rattle.qz_types.specs.States.{is_acquired, is_acquired_for}
use Rattle.qz_types.specs.Tables.{SchedulerTables, IsMoment}
use Rattle.qz_types.specs.Words.{same_key, trigger_of, with_trigger}
use Rattle.qz_model.specs.Acquiring.{next_time}
use Rattle.qz_model.specs.Invariant.{IsRowOf, AcquiredMatch, is_live_state, TablesValid}
use Rattle.qz_model.proofs.Apart.{HasOtherKey}
use Rattle.qz_model.proofs.Changes.{HasItsTrigger, live_next}
use Rattle.qz_model.proofs.DueLaws.{IsStoredWaiting}
use Rattle.qz_model.proofs.RowPoints.{All-weaker}
use Rattle.qz_model.proofs.RowLaws.{trigger_of-alike, trigger_of-with_other}

-- an acquired row isn't for a trigger that is in another state
no_row_of : (f : FiredData) (t : TriggerData) (o : Option TriggerData) → o ≡ Some t → (t.state ≡ state.Acquired → ⊥) → IsSomeAnd o (IsRowOf f) → ⊥
no_row_of f t None found free row = row
no_row_of f t (Some u) found free row = let taken = row.state in free (cc)

pub none_acquired : (T : SchedulerTables) (t : TriggerData) → AcquiredMatch T.triggers T.fired → trigger_of t.spec.key T.triggers ≡ Some t → (t.state ≡ state.Acquired → ⊥)
    → AllByRecursion (λ f. is_acquired_for t.spec.key f ≡ false) T.fired
unfolding is_acquired_for
none_acquired T t match stored free =
    All-weaker (HasItsTrigger T.triggers) (λ f. is_acquired_for t.spec.key f ≡ false) T.fired
    (λ f has. false_from_ne_true (is_acquired_for t.spec.key f) (λ is.
    let parts = and_parts (is_acquired f.state) (same_key t.spec.key f.trigger) is in
    no_row_of f t (trigger_of f.trigger T.triggers) (sym (trigger_of-alike t.spec.key f.trigger T.triggers parts.1) ∙ stored) free (has parts.0)))
    match.a_trigger

-- so none is for a trigger that waits
pub none_waiting : (T : SchedulerTables) (t : TriggerData) → AcquiredMatch T.triggers T.fired → IsStoredWaiting T t → AllByRecursion (λ f. is_acquired_for t.spec.key f ≡ false) T.fired
none_waiting T t match one = none_acquired T t match one.stored (λ taken. let waits = one.waits in cc)

-- an acquired row is for another trigger
pub other_row : (k : Key) (f : FiredData) → is_acquired_for k f ≡ false → is_acquired f.state ≡ true → same_key k f.trigger ≡ false
unfolding is_acquired_for
other_row k f none taken = false_from_ne_true (same_key k f.trigger) (λ same. let is = and_from (is_acquired f.state) (same_key k f.trigger) taken same in absurd (cc))

next_is : (P : ℤ → Type 0) (o : Option ℤ) → IsSomeAnd o P → o ≡ Some (unwrap_or o (pos 0))
next_is P None is = absurd is
next_is P (Some n) is = refl

-- it has a next time
pub has_next : (T : SchedulerTables) (t : TriggerData) → TablesValid T → IsStoredWaiting T t → t.next ≡ Some (next_time t)
unfolding next_time
has_next T t valid one =
    next_is (IsMoment T.horizon) t.next (live_next T t.spec.key t valid one.stored (ap is_live_state one.waits))

-- another trigger that waits still does
pub still_waiting : (T U : SchedulerTables) (k : Key) (change : TriggerData → TriggerData) (u : TriggerData) → ((x : TriggerData) → (change x).spec.key ≡ x.spec.key)
    → U.triggers ≡ with_trigger k change T.triggers → HasOtherKey k u → IsStoredWaiting T u → IsStoredWaiting U u
still_waiting T U k change u keeps changed other one = record { stored = ap (trigger_of u.spec.key) changed ∙ trigger_of-with_other u.spec.key k change T.triggers keeps other ∙ one.stored; waits = one.waits }
