-- What holds of each trigger store.
use Rattle.std.proofs.Common.{◌≡◌, ◌+◌, ◌≤◌, List, [], ◌∷◌, ◌++◌, refl, true, IsTrue, length, sym, subst, arith}
use Rattle.std.proofs.Math.Logic.{∥∥₁_elim}
use Rattle.std.proofs.Props.{props}
use Rattle.std.specs.List.{AllByRecursion, AllByRecursion-prop}
use Rattle.qz_disk.specs.declared.disk.Disk.{Ghosts}
use Rattle.qz_types.specs.Entries.{EntryData, is_entry}
use Rattle.qz_types.specs.Outcomes.{Outcome, accepted, refused, IsAccepted}
use Rattle.qz_types.specs.Tables.{SchedulerTables}
use Rattle.qz_model.specs.History.{tables_left, IsLegalFrom, replay}
use Rattle.qz_model.specs.Transaction.{transaction}
use Rattle.qz_model.specs.Invariant.{TablesValid}
use Rattle.qz_model.proofs.Histories.{valid-replay}
use Rattle.qz_schedule_law.specs.Following.{FollowsSchedules}
use Rattle.qz_schedule_law.proofs.Following.{follows}
use Rattle.qz_trigger_store.specs.Proper.{each_proper}
use Rattle.qz_trigger_store.specs.View.{view, base_of, found_of, added_of, tables_of}
use Rattle.qz_trigger_store.specs.declared.stores.TriggerStore.{TriggerStore}
use Rattle.qz_trigger_store.proofs.Validity.{tables_are_valid}

IsAccepted-prop : (o : Outcome) → IsProp (IsAccepted o)
IsAccepted-prop (accepted T r) p q = refl
IsAccepted-prop (refused x) p q = absurd p

pub IsLegalFrom-prop : (T : SchedulerTables) (es : List EntryData) → IsProp (IsLegalFrom T es)
IsLegalFrom-prop T [] p q = refl
IsLegalFrom-prop T (e ∷ es) p q = λ i. (IsAccepted-prop (transaction T e) p.0 q.0 i, IsLegalFrom-prop (tables_left T (transaction T e)) es p.1 q.1 i)

module _ {D : Type 0} {g : Ghosts D} (s : TriggerStore D g) where
  -- its history is legal
  pub legal : IsLegalFrom (base_of s) (found_of s ++ added_of s)
  legal = ∥∥₁_elim s.store.legal (IsLegalFrom-prop (base_of s) (found_of s ++ added_of s)) (λ l. l)

  each_valid : AllByRecursion (λ e. IsTrue (is_entry e)) (found_of s ++ added_of s)
  each_valid = ∥∥₁_elim s.store.recorded (AllByRecursion-prop (λ e. IsTrue (is_entry e)) (λ e. hlevel props) (found_of s ++ added_of s)) (each_proper (found_of s ++ added_of s))

  -- it begins with valid tables
  pub base_valid : TablesValid (base_of s)
  base_valid = tables_are_valid (base_of s) s.store.base.value.valid

  -- and leaves valid tables, which are those that the store keeps
  pub history_valid : TablesValid (replay (view s).history)
  history_valid = valid-replay (base_of s) (found_of s ++ added_of s) each_valid base_valid legal

  pub tables_valid : TablesValid (tables_of s)
  tables_valid = subst TablesValid (sym s.store.replayed) history_valid

  -- its triggers follow their schedules, since its history is legal
  pub schedules_kept : FollowsSchedules (view s).history
  schedules_kept = follows (base_of s) (found_of s ++ added_of s) base_valid each_valid legal

  -- while it is open, its journal has a payload for each entry at least, those before its base counted
  pub payloads_enough : (view s).is_open ≡ true → (view s).history.base_count + length (view s).history.entries ≤ (view s).payloads
  payloads_enough is_open = omega (arith, s.store.placed is_open, s.store.counted)
