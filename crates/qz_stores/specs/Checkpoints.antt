-- What a checkpoint makes of a store, and what a crash in it leaves.
use Rattle.std.specs.Prelude.{◌≡◌, ◌⊎◌, ℕ, ◌<◌, ◌≤◌, Bool, true, false, List, [], ◌++◌, length, Some, None, Ok, Err}
use Rattle.std.specs.declared.result.Result.{Result}
use Rattle.qz_civil.specs.Causes.{Rose}
use Rattle.qz_journal.specs.Layout.{Holds, end_of}
use Rattle.qz_journal.specs.Slots.{IsSlot, slot, slots_of, slot_in_use}
use Rattle.qz_types.specs.declared.errors.SubmitError.{SubmitError}
use Rattle.qz_types.specs.declared.errors.SubmitError.TheVariants as submit
use Rattle.qz_stores.specs.Stores.{StoreState, Same, Stops}
use Rattle.qz_stores.specs.Kinds.{StoreKind}
use Rattle.qz_stores.specs.Bases.{records}

-- A crash in a checkpoint of this state, which so many entries left, leaves the payloads that stood and some parts of
-- snapshots. A slot that is open then was so before, with that offset; or it leads to the end of the payloads that stood, and
-- the snapshot is whole there. The slot in use is never closed: where no slot is open then, none was before.
pub record IsMidway {H S E R : Type 0} (k : StoreKind H S E R) (version : ℕ) (T : S) (entries : ℕ) (old : List ℕ) (payloads : List (List ℕ)) (bytes : List ℕ) : Type 0 where
  pub parts : List (List ℕ)
  pub holds : Holds bytes version k.number (payloads ++ parts)
  pub passed : records k parts ≡ []
  pub slots : (gate offset : ℕ) → IsSlot gate → slot gate bytes ≡ Some offset → (slot gate old ≡ Some offset) ⊎ ((offset ≡ end_of payloads) × k.BeginSnapshot parts T (length payloads) entries)
  pub in_use : slot_in_use (slots_of bytes) ≡ None → slot_in_use (slots_of old) ≡ None

-- A snapshot was made. It is a payload more at least, and no entry.
pub record Marks {H E : Type 0} (s t : StoreState H E) : Type 0 where
  pub was_open : s.is_open ≡ true
  pub history : t.history ≡ s.history
  pub payloads : s.payloads < t.payloads
  pub is_open : t.is_open ≡ true
  pub undecided : t.undecided ≡ s.undecided
  pub later : s.faults ≤ t.faults

-- The disk failed in a checkpoint. The store is closed, and no entry is undecided.
pub record Breaks {H E : Type 0} (s t : StoreState H E) : Type 0 where
  pub was_open : s.is_open ≡ true
  pub history : t.history ≡ s.history
  pub is_open : t.is_open ≡ false
  pub undecided : t.undecided ≡ None
  pub rose : Rose s.faults t.faults
  pub later : s.faults ≤ t.faults

-- Nothing was done: there was no room, or no memory.
pub record Declines {H E : Type 0} (s t : StoreState H E) : Type 0 where
  pub was_open : s.is_open ≡ true
  pub same : Same s t

-- a checkpoint is made
abbrev pub Checks : {H E : Type 0} → Result Bool SubmitError → StoreState H E → StoreState H E → Type 0
Checks (Ok true) s t = Marks s t
Checks (Ok false) s t = Declines s t
Checks (Err (submit.Closed at)) s t = Stops s t × (at ≡ s.gate)
Checks (Err submit.NoMemory) s t = Declines s t
Checks (Err submit.Fault) s t = Breaks s t
Checks (Err (submit.Refused refusal)) s t = ⊥
Checks (Err (submit.JournalFull need room)) s t = ⊥
