-- Each due trigger is stored and waits.
use Rattle.std.proofs.Common.{◌≡◌, ℤ, true, not, ◌&&◌, List, [], ◌∷◌, filter, Some, refl}
use Rattle.std.specs.List.{AllByRecursion}
use Rattle.std.proofs.lemmas.Bool.{and_parts}
use Rattle.qz_types.specs.Sorted.{IsAscending}
use Rattle.qz_types.specs.Rows.{TriggerData}
use Rattle.qz_types.specs.declared.triggers.TriggerState.{TriggerState}
use Rattle.qz_types.specs.declared.triggers.TriggerState.TheVariants.{Waiting, Acquired, Complete, Blocked, Paused, PausedBlocked, Error}
use Rattle.qz_types.specs.Tables.{SchedulerTables}
use Rattle.qz_types.specs.Words.{key_cmp, trigger_of}
use Rattle.qz_types.specs.Due.{is_waiting, due_cmp, in_due_order}
use Rattle.qz_model.specs.Due.{is_up_to, is_misfired, is_due, due_triggers}
use Rattle.qz_model.proofs.RowPoints.{All-weaker, All-filter, All-put}
use Rattle.qz_model.proofs.RowLaws.{each_trigger}

pub All-in_due_order : (P : TriggerData → Type 0) (ts : List TriggerData) → AllByRecursion P ts → AllByRecursion P (in_due_order ts)
All-in_due_order P [] all = tt
All-in_due_order P (t ∷ ts) all = All-put due_cmp (λ x. x) P t (in_due_order ts) all.0 (All-in_due_order P ts all.1)

pub waiting_from : (s : TriggerState) → is_waiting s ≡ true → s ≡ Waiting
waiting_from Waiting e = refl
waiting_from Acquired e = absurd (cc)
waiting_from Complete e = absurd (cc)
waiting_from Blocked e = absurd (cc)
waiting_from Paused e = absurd (cc)
waiting_from PausedBlocked e = absurd (cc)
waiting_from Error e = absurd (cc)

-- the trigger is stored and waits
pub record IsStoredWaiting (T : SchedulerTables) (t : TriggerData) : Type 0 where
  pub stored : trigger_of t.spec.key T.triggers ≡ Some t
  pub waits : t.state ≡ Waiting

due_waits : (T : SchedulerTables) (m limit : ℤ) (t : TriggerData) → is_due T m limit t ≡ true → t.state ≡ Waiting
unfolding is_due
due_waits T m limit t due = waiting_from t.state (and_parts _ (is_up_to limit t.next) (and_parts (is_waiting t.state && is_up_to limit t.next) (not (is_misfired T m t)) due).0).0

pub each_due : (T : SchedulerTables) (m limit : ℤ) → IsAscending key_cmp (λ r. r.spec.key) T.triggers → AllByRecursion (IsStoredWaiting T) (due_triggers T m limit)
unfolding due_triggers
each_due T m limit ordered =
    All-in_due_order (IsStoredWaiting T) (filter (is_due T m limit) T.triggers)
    (All-filter (IsStoredWaiting T) (is_due T m limit) T.triggers
    (All-weaker (λ t. trigger_of t.spec.key T.triggers ≡ Some t) (λ t. is_due T m limit t ≡ true → IsStoredWaiting T t) T.triggers
    (λ t found due. record { stored = found; waits = due_waits T m limit t due }) (each_trigger T.triggers ordered)))
