-- A store that begins with payloads, to the first of which slot A leads.
use Rattle.std.specs.Prelude.{⊤, ◌≡◌, ◌⊎◌, ℕ, List, Option, Some, None}
use Rattle.qz_disk.specs.Disk.{DiskState, Only, Stays, Torn, LeavesOnly}
use Rattle.qz_journal.specs.Layout.{IsStore, HasStore, Holds}
use Rattle.qz_journal.specs.Making.{IsFoundNew}
use Rattle.qz_journal.specs.Slots.{slot}
use Rattle.qz_journal.specs.declared.errors.NewStoreError.{NewStoreError}
use Rattle.qz_journal.specs.declared.errors.NewStoreError.TheVariants as new_store

-- The bytes are a store of this version and kind with these payloads. Slot A alone is open, and leads to the first of them.
pub record LeadsToAll (version kind : ℕ) (payloads : List (List ℕ)) (bytes : List ℕ) : Type 0 where
  pub holds : Holds bytes version kind payloads
  pub slot_a : slot 6 bytes ≡ Some 16
  pub slot_b : slot 11 bytes ≡ None

-- they begin as no store of this kind does, or are that one
abbrev pub IsNoneOrAll : ℕ → ℕ → List (List ℕ) → List ℕ → Type 0
IsNoneOrAll version kind payloads bytes = (IsStore kind bytes → ⊥) ⊎ LeadsToAll version kind payloads bytes

-- What became of the disk: the store was begun, and a crash leaves that; or this is why not.
abbrev pub IsBegunOr : ℕ → ℕ → List (List ℕ) → Option NewStoreError → DiskState → DiskState → Type 0
IsBegunOr version kind payloads None old new = LeadsToAll version kind payloads new.content × Only new.content new
IsBegunOr version kind payloads (Some new_store.Exists) old new = Stays old new
IsBegunOr version kind payloads (Some new_store.OtherKind) old new = Stays old new
IsBegunOr version kind payloads (Some new_store.NoMemory) old new = Stays old new
IsBegunOr version kind payloads (Some new_store.Fault) old new = ⊤

-- A store was to be begun with these payloads on an honest disk, and this is why it wasn't, or None. A store of either kind and
-- any version stays as it is, whatever fails and whenever a crash comes. On another disk a crash at any moment leaves any bytes in
-- the first 17, or no store of this kind, or the whole one.
pub record Begins (version kind : ℕ) (payloads : List (List ℕ)) (error : Option NewStoreError) (old new : DiskState) : Type 0 where
  pub found : IsFoundNew old.content kind error
  pub made : IsBegunOr version kind payloads error old new
  pub kept : HasStore kind old.content → Stays old new
  pub kept_at_any_moment : HasStore kind old.content → LeavesOnly old new old.IsImage
  pub any_moment : (bytes : List ℕ) → Only bytes old → LeavesOnly old new (λ b. Torn 0 17 bytes b ⊎ IsNoneOrAll version kind payloads b)
