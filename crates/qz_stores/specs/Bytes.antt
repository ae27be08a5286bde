-- Which payloads and bytes are those of which entries and histories.
use Rattle.std.specs.Prelude.{⊤, ◌≡◌, ◌⊎◌, true, ℕ, List, Option, Some, None}
use Rattle.std.specs.List.{AllZip}
use Rattle.qz_journal.specs.Layout.{is_version}
use Rattle.qz_stores.specs.Stores.{StoreState, MayBeOf}
use Rattle.qz_stores.specs.Kinds.{StoreKind, HasRecord, IsAccepted, entry_kind}
use Rattle.qz_stores.specs.Bases.{WholeList, Stands}

-- Each payload is a record of an entry, in order. (Which version a record has says nothing of the store's.)
abbrev pub Encode : {H S E R : Type 0} → StoreKind H S E R → List (List ℕ) → List E → Type 0
Encode k payloads entries = ∥ AllZip k.IsRecordOf payloads entries ∥₁

-- the history begins with a new store of this format version, which is one that is read
pub record BeginsNew {H S E R : Type 0} (k : StoreKind H S E R) (version : ℕ) (h : H) : Type 0 where
  pub known : is_version version ≡ true
  pub count : k.base_count h ≡ 0
  pub base : k.base h ≡ k.empty version

-- The bytes hold a whole list that begins with this one. The history is an end of it, or that with the undecided entry is.
abbrev pub MayBe : {H S E R : Type 0} → StoreKind H S E R → WholeList S E → H → Option E → List ℕ → Type 0
MayBe k w h undecided bytes = MayBeOf (entry_kind k) (Stands k w) h undecided bytes

-- The bytes are those of the state before a call, or of the state after it.
abbrev pub IsOfEither : {H S E R : Type 0} → StoreKind H S E R → WholeList S E → StoreState H E → StoreState H E → List ℕ → Type 0
IsOfEither k w s t bytes = MayBe k w s.history s.undecided bytes ⊎ MayBe k w t.history t.undecided bytes

-- An undecided entry has a record, and was accepted at the state that the history leaves.
abbrev pub MayFollow : {H S E R : Type 0} → StoreKind H S E R → S → Option E → Type 0
MayFollow k T None = ⊤
MayFollow k T (Some e) = HasRecord k e × IsAccepted k T e
