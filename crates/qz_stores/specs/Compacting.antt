-- What it makes of a disk to begin a store with a snapshot, and what a crash leaves of that.
use Rattle.std.specs.Prelude.{⊤, ◌⊎◌, ℕ, List, [], Option, Some, None}
use Rattle.qz_disk.specs.Disk.{DiskState, Only, Stays, Torn, LeavesOnly}
use Rattle.qz_journal.specs.Layout.{IsStore, HasStore, other_kind}
use Rattle.qz_stores.specs.Kinds.{StoreKind}
use Rattle.qz_stores.specs.Bases.{WholeList, IsWhole}
use Rattle.qz_stores.specs.declared.compacting.CompactError.{CompactError}
use Rattle.qz_stores.specs.declared.compacting.CompactError.TheVariants as compact

-- the whole list of a store that begins with a snapshot of this state, and has no entries
abbrev pub compacted_list : {S E : Type 0} → ℕ → S → WholeList S E
compacted_list version T = record { version = version; start = T; entries = [] }

-- The bytes begin as no store of this kind does, or are one of this version that begins with a snapshot of this state and has no
-- entries.
abbrev pub IsNoneOrBegun : {H S E R : Type 0} → StoreKind H S E R → ℕ → S → List ℕ → Type 0
IsNoneOrBegun k version T bytes = (IsStore k.number bytes → ⊥) ⊎ IsWhole k (compacted_list version T) bytes

-- Why no store was begun on these bytes, or None where one was. That memory, room or the disk failed isn't seen in them; but memory
-- and room are wanted only where there is no store.
abbrev pub IsFoundFree : {H S E R : Type 0} → StoreKind H S E R → List ℕ → Option CompactError → Type 0
IsFoundFree k bytes None = HasStore k.number bytes → ⊥
IsFoundFree k bytes (Some compact.Exists) = IsStore k.number bytes
IsFoundFree k bytes (Some compact.OtherKind) = IsStore (other_kind k.number) bytes
IsFoundFree k bytes (Some compact.NoMemory) = HasStore k.number bytes → ⊥
IsFoundFree k bytes (Some (compact.NoRoom need room)) = HasStore k.number bytes → ⊥
IsFoundFree k bytes (Some compact.Fault) = ⊤

-- What became of the disk: a crash leaves the store and nothing else; or nothing was written, but where the disk failed.
abbrev pub IsCompactedOr : {H S E R : Type 0} → StoreKind H S E R → ℕ → S → Option CompactError → DiskState → DiskState → Type 0
IsCompactedOr k version T None old new = IsWhole k (compacted_list version T) new.content × Only new.content new
IsCompactedOr k version T (Some compact.Exists) old new = Stays old new
IsCompactedOr k version T (Some compact.OtherKind) old new = Stays old new
IsCompactedOr k version T (Some compact.NoMemory) old new = Stays old new
IsCompactedOr k version T (Some (compact.NoRoom need room)) old new = Stays old new
IsCompactedOr k version T (Some compact.Fault) old new = ⊤

-- A store was to be begun on an honest disk with a snapshot of this state, and this is why it wasn't, or None. A store of either kind
-- and any version stays as it is, whatever fails and whenever a crash comes. Else a crash in the call leaves any bytes in the first
-- 17, or no store, or the whole new one.
pub record Compacts {H S E R : Type 0} (k : StoreKind H S E R) (version : ℕ) (T : S) (error : Option CompactError) (old new : DiskState) : Type 0 where
  pub found : IsFoundFree k old.content error
  pub made : IsCompactedOr k version T error old new
  pub kept : HasStore k.number old.content → Stays old new
  pub kept_at_any_moment : HasStore k.number old.content → LeavesOnly old new old.IsImage
  pub any_moment : (bytes : List ℕ) → Only bytes old → LeavesOnly old new (λ b. Torn 0 17 bytes b ⊎ IsNoneOrBegun k version T b)
