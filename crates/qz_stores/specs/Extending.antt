-- A store that takes over entries which another one accepted, with the state that they leave.
use Rattle.std.specs.Prelude.{◌≡◌, ℕ, ◌+◌, ◌≤◌, true, List, ◌++◌, length, None}
use Rattle.qz_disk.specs.Disk.{DiskState}
use Rattle.qz_journal.specs.Layout.{blocks}
use Rattle.qz_stores.specs.Stores.{StoreState}
use Rattle.qz_stores.specs.Kinds.{StoreKind}
use Rattle.qz_stores.specs.Bases.{WholeList, IsWhole}

-- the whole list with these further entries
abbrev pub with_entries : {S E : Type 0} → WholeList S E → List E → WholeList S E
with_entries w more = record { version = w.version; start = w.start; entries = w.entries ++ more }

-- The bytes hold this whole list with the first of these further entries.
abbrev pub HoldsFirst : {H S E R : Type 0} → StoreKind H S E R → WholeList S E → List E → List ℕ → Type 0
HoldsFirst {E = E} k w more bytes = (first : List E) × (rest : List E) × (more ≡ first ++ rest) × IsWhole k (with_entries w first) bytes

-- The disk holds this whole list, and a crash leaves that.
pub record Has {H S E R : Type 0} (k : StoreKind H S E R) (w : WholeList S E) (s : DiskState) : Type 0 where
  pub content : IsWhole k w s.content
  pub images : (bytes : List ℕ) → s.IsImage bytes → IsWhole k w bytes

-- These entries, of which these payloads are the records, were put at the end of the history.
pub record Extends {H S E R : Type 0} (k : StoreKind H S E R) (records : List (List ℕ)) (more : List E) (s t : StoreState H E) : Type 0 where
  pub history : t.history ≡ k.history (k.base_count s.history) (k.base s.history) (k.entries s.history ++ more)
  pub gate : t.gate ≡ s.gate + length (blocks records)
  pub payloads : t.payloads ≡ s.payloads + length records
  pub is_open : t.is_open ≡ true
  pub undecided : t.undecided ≡ None
  pub later : s.faults ≤ t.faults
