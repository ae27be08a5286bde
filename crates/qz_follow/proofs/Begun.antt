-- A store that was begun: with nothing, or with the tables of a base.
use Rattle.std.proofs.Common.{◌≡◌, ℕ, true, List, [], length, refl, sym, ◌∙◌, ap, subst}
use Rattle.std.specs.Prelude.{Some, None}
use Rattle.qz_disk.specs.Disk.{DiskState}
use Rattle.qz_disk.specs.declared.disk.Disk.{Ghosts}
use Rattle.qz_journal.specs.Commits.{HaveRoom, IsFullFor}
use Rattle.qz_journal.specs.Layout.{end_of}
use Rattle.qz_journal.specs.declared.errors.NewStoreError.{NewStoreError}
use Rattle.qz_journal.specs.declared.errors.NewStoreError.TheVariants as new_store
use Rattle.qz_model.specs.History.{history_of_version}
use Rattle.qz_snapshot.specs.Checkpoints.{snapshot_written}
use Rattle.qz_stores.specs.declared.compacting.CompactError.{CompactError}
use Rattle.qz_stores.specs.declared.compacting.CompactError.TheVariants as compact
use Rattle.qz_types.specs.Entries.{EntryData}
use Rattle.qz_types.specs.Tables.{SchedulerTables, empty}
use Rattle.qz_trigger_store.specs.Bytes.{list_of, IsWhole}
use Rattle.qz_trigger_store.specs.Compacting.{compacted_list, Compacts}
use Rattle.qz_trigger_store.specs.View.{view, version_of, found_of, added_of, opened_of, GoesOnFrom}
use Rattle.qz_trigger_store.specs.declared.stores.TriggerStore.{TriggerStore}
use Rattle.qz_follow.proofs.Promoted.{begun, not_begun}
use Rattle.qz_follow.specs.Promoting.{Begins, Promotes, IsBehindStart, IsOpenWith, list_from, history_from, fault_of, unbegun}
use Rattle.qz_follow.specs.declared.promoting.PromoteFault.TheVariants as fault

-- why none was begun
pub full_of : (x : NewStoreError) (need room : ℕ) → fault_of x ≡ fault.NoRoom need room → ⊥
full_of new_store.Exists need room is = cc
full_of new_store.OtherKind need room is = cc
full_of new_store.NoMemory need room is = cc
full_of new_store.Fault need room is = cc

pub short_of : (x : NewStoreError) (at : ℕ) → fault_of x ≡ fault.Short at → ⊥
short_of new_store.Exists at is = cc
short_of new_store.OtherKind at is = cc
short_of new_store.NoMemory at is = cc
short_of new_store.Fault at is = cc

pub failed_of : (x : NewStoreError) → fault_of x ≡ fault.Fault → x ≡ new_store.Fault
failed_of new_store.Exists is = absurd (cc)
failed_of new_store.OtherKind is = absurd (cc)
failed_of new_store.NoMemory is = absurd (cc)
failed_of new_store.Fault is = refl

pub full_as : (x : CompactError) (need room : ℕ) → unbegun x ≡ fault.NoRoom need room → x ≡ compact.NoRoom need room
full_as compact.Exists need room is = absurd (cc)
full_as compact.OtherKind need room is = absurd (cc)
full_as compact.NoMemory need room is = absurd (cc)
full_as (compact.NoRoom n r) need room is = cc
full_as compact.Fault need room is = absurd (cc)

pub short_as : (x : CompactError) (at : ℕ) → unbegun x ≡ fault.Short at → ⊥
short_as compact.Exists at is = cc
short_as compact.OtherKind at is = cc
short_as compact.NoMemory at is = cc
short_as (compact.NoRoom need room) at is = cc
short_as compact.Fault at is = cc

pub failed_as : (x : CompactError) → unbegun x ≡ fault.Fault → x ≡ compact.Fault
failed_as compact.Exists is = absurd (cc)
failed_as compact.OtherKind is = absurd (cc)
failed_as compact.NoMemory is = absurd (cc)
failed_as (compact.NoRoom need room) is = absurd (cc)
failed_as compact.Fault is = refl

-- with nothing
module _ {D : Type 0} {g : Ghosts D} (v : ℕ) (start : SchedulerTables) (s : TriggerStore D g) (new : start ≡ empty v) where
  pub opens_new : (view s).is_open ≡ true → (view s).history ≡ history_of_version v → version_of s ≡ v → found_of s ≡ [] → added_of s ≡ [] → IsOpenWith v start [] s
  opens_new is_open history version found added = record { is_open = is_open; version_is = version; history = history ∙ ap (λ (T : SchedulerTables). history_from T []) (sym new); found = found; added = added }

  pub whole_new : (b : List ℕ) → IsWhole (list_of v []) b → opened_of s ≡ b → IsWhole (list_from v start []) (opened_of s)
  whole_new b whole opened = subst (IsWhole (list_from v start [])) (sym opened) (subst (λ (T : SchedulerTables). IsWhole (list_from v T []) b) (sym new) whole)

  pub goes_new : GoesOnFrom s (list_of v []) → GoesOnFrom s (list_from v start [])
  goes_new on = subst (λ (T : SchedulerTables). GoesOnFrom s (list_from v T [])) (sym new) on

-- with tables
module _ {D : Type 0} {g : Ghosts D} (v : ℕ) (start T : SchedulerTables) (s : TriggerStore D g) (same : T ≡ start) where
  pub opens_with : (view s).is_open ≡ true → (view s).history ≡ record { base_count = 0; base = T; entries = [] } → version_of s ≡ v → found_of s ≡ [] → added_of s ≡ [] → IsOpenWith v start [] s
  opens_with is_open history version found added = record { is_open = is_open; version_is = version; history = history ∙ ap (λ (U : SchedulerTables). history_from U []) same; found = found; added = added }

  pub whole_with : (b : List ℕ) → IsWhole (compacted_list v T) b → opened_of s ≡ b → IsWhole (list_from v start []) (opened_of s)
  whole_with b whole opened = subst (IsWhole (list_from v start [])) (sym opened) (subst (λ (U : SchedulerTables). IsWhole (list_from v U []) b) same whole)

  pub goes_with : GoesOnFrom s (compacted_list v T) → GoesOnFrom s (list_from v start [])
  goes_with on = subst (λ (U : SchedulerTables). GoesOnFrom s (list_from v U [])) same on

  pub behind_with : ((view s).gate ≡ end_of (snapshot_written T 0 0)) × ((view s).payloads ≡ length (snapshot_written T 0 0)) → HaveRoom (snapshot_written T 0 0) (end_of []) 0 → IsBehindStart start (view s).gate (view s).payloads
  behind_with place room = subst (λ (U : SchedulerTables). IsBehindStart U (view s).gate (view s).payloads) same (place.0, place.1, room)

module _ (v : ℕ) (start T : SchedulerTables) (same : T ≡ start) (s t : DiskState) where
  pub begun_with : Compacts v T None s t → Begins v start s t
  begun_with m = begun v start [] s t (subst (λ (U : SchedulerTables). Compacts v U None s t) same m)

  pub not_begun_with : (entries : List EntryData) (x : CompactError) → Compacts v T (Some x) s t → Promotes v start entries (Some (unbegun x)) s t
  not_begun_with entries x m = not_begun v start entries s t x (subst (λ (U : SchedulerTables). Compacts v U (Some x) s t) same m)

pub lacks_with : (start T : SchedulerTables) (need room : ℕ) → T ≡ start → IsFullFor (snapshot_written T 0 0) (end_of []) 0 need room → IsFullFor (snapshot_written start 0 0) (end_of []) 0 need room
lacks_with start T need room same full = subst (λ (U : SchedulerTables). IsFullFor (snapshot_written U 0 0) (end_of []) 0 need room) same full
