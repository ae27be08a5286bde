-- What a look at a disk finds, and what making a store on it does.
use Rattle.std.specs.Prelude.{⊤, ◌≡◌, ℕ, List, [], take, drop, Option, Some, None}
use Rattle.qz_disk.specs.Disk.{DiskState, Only, Stays, Torn, LeavesOnly}
use Rattle.qz_journal.specs.Layout.{IsStore, HasStore, Holds, new_header, other_kind}
use Rattle.qz_journal.specs.declared.errors.NewStoreError.{NewStoreError}
use Rattle.qz_journal.specs.declared.errors.NewStoreError.TheVariants as new_store
use Rattle.qz_journal.specs.declared.fronts.Front.{Front}
use Rattle.qz_journal.specs.declared.fronts.Front.TheVariants as front

-- the bytes begin as a store of this kind does, as one of the other, or as none
abbrev pub HasFront : List ℕ → ℕ → Front → Type 0
HasFront bytes kind front.This = IsStore kind bytes
HasFront bytes kind front.Other = IsStore (other_kind kind) bytes
HasFront bytes kind front.Neither = HasStore kind bytes → ⊥

-- Why no store was made on these bytes, or None where one was. That memory or the disk failed isn't seen in them; but memory
-- is wanted only where there is no store.
abbrev pub IsFoundNew : List ℕ → ℕ → Option NewStoreError → Type 0
IsFoundNew bytes kind None = HasStore kind bytes → ⊥
IsFoundNew bytes kind (Some new_store.Exists) = IsStore kind bytes
IsFoundNew bytes kind (Some new_store.OtherKind) = IsStore (other_kind kind) bytes
IsFoundNew bytes kind (Some new_store.NoMemory) = HasStore kind bytes → ⊥
IsFoundNew bytes kind (Some new_store.Fault) = ⊤

-- An empty store of this version and kind is on the disk, where none was: a new header with both slots closed, and a closed
-- gate. What follows these 17 bytes stays. A crash leaves this and nothing else.
pub record IsNew (version kind : ℕ) (old new : DiskState) : Type 0 where
  pub empty : Holds new.content version kind []
  pub header : take 16 new.content ≡ new_header version kind
  pub keeps : drop 17 new.content ≡ drop 17 old.content
  pub durable : Only new.content new

-- What became of the disk: the store was made, or this is why not.
abbrev pub IsMadeOr : ℕ → ℕ → Option NewStoreError → DiskState → DiskState → Type 0
IsMadeOr version kind None old new = IsNew version kind old new
IsMadeOr version kind (Some new_store.Exists) old new = Stays old new
IsMadeOr version kind (Some new_store.OtherKind) old new = Stays old new
IsMadeOr version kind (Some new_store.NoMemory) old new = Stays old new
IsMadeOr version kind (Some new_store.Fault) old new = ⊤

-- A new store was to be made on an honest disk, and this is why it wasn't, or None. A store of either kind and any version
-- stays as it is, whatever fails and whenever a crash comes. A crash in the call may leave any bytes in the first 17.
pub record Makes (version kind : ℕ) (error : Option NewStoreError) (old new : DiskState) : Type 0 where
  pub found : IsFoundNew old.content kind error
  pub made : IsMadeOr version kind error old new
  pub kept : HasStore kind old.content → Stays old new
  pub kept_at_any_moment : HasStore kind old.content → LeavesOnly old new old.IsImage
  pub any_moment : (bytes : List ℕ) → Only bytes old → LeavesOnly old new (Torn 0 17 bytes)
