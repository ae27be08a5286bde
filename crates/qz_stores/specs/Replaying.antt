-- What one payload more adds to what was read.
use Rattle.std.specs.Prelude.{⊤, ◌≡◌, ℕ, true, List, [], ◌∷◌, ◌++◌, Option, Some}
use Rattle.qz_journal.specs.declared.errors.MountError.{MountError}
use Rattle.qz_journal.specs.declared.errors.MountError.TheVariants as mount
use Rattle.qz_stores.specs.Kinds.{StoreKind, IsAccepted}
use Rattle.qz_stores.specs.Opening.{IsUnread}

-- it is a part of a snapshot, and adds nothing
abbrev pub IsPassed : {H S E R : Type 0} → StoreKind H S E R → List ℕ → List E → List E → Type 0
IsPassed k payload old new = (k.is_part payload ≡ true) × (new ≡ old)

-- it is a record of an entry that this state accepts
abbrev pub IsTaken : {H S E R : Type 0} → StoreKind H S E R → S → List ℕ → List E → List E → Type 0
IsTaken {E = E} k T payload old new = (e : E) × (new ≡ old ++ e ∷ []) × k.IsRecordOf payload e × IsAccepted k T e

-- why no base is read
abbrev pub IsUnbegun : {H S E R : Type 0} → StoreKind H S E R → Option ℕ → List (List ℕ) → MountError → Type 0
IsUnbegun k slot payloads (mount.Damaged at) = (slot ≡ Some at) × IsUnread k slot payloads
IsUnbegun k slot payloads mount.NoMemory = ⊤
IsUnbegun k slot payloads mount.NotAStore = ⊥
IsUnbegun k slot payloads mount.Fault = ⊥
