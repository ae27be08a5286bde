-- Which stores two disks begin with.
use Rattle.std.specs.Prelude.{◌⊎◌, ℕ, List}
use Rattle.qz_disk.specs.Disk.{DiskState, Stays, LeavesOnly}
use Rattle.qz_journal.specs.Layout.{IsStore, HasStore, other_kind}
use Rattle.qz_journal.specs.declared.layout.TheConstants.{TRIGGERS, STATES}
use Rattle.qz_types.specs.declared.stores.Store.{Store}
use Rattle.qz_types.specs.declared.stores.Store.TheVariants as store

-- a disk begins as its own store does, in some version
abbrev pub HasOwn : List ℕ → List ℕ → Type 0
HasOwn triggers states = IsStore TRIGGERS triggers ⊎ IsStore STATES states

-- no disk begins as a store does, of either kind and any version
abbrev pub HasNone : List ℕ → List ℕ → Type 0
HasNone triggers states = (HasStore TRIGGERS triggers → ⊥) × (HasStore STATES states → ⊥)

-- this disk is the first that begins as the other store does
abbrev pub IsFirstOfOther : Store → List ℕ → List ℕ → Type 0
IsFirstOfOther store.Triggers triggers states = IsStore (other_kind TRIGGERS) triggers
IsFirstOfOther store.States triggers states = (IsStore (other_kind TRIGGERS) triggers → ⊥) × IsStore (other_kind STATES) states

-- A disk was only looked at: it is as it was, and a crash leaves what it could have left before.
pub record Looks (old new : DiskState) : Type 0 where
  pub stays : Stays old new
  pub any_moment : LeavesOnly old new old.IsImage
