-- One store in a run, whatever its entries are, and what one call of it makes of it.
use Rattle.std.specs.Prelude.{⊤, ◌≡◌, ◌⊎◌, ℕ, ◌+◌, ◌≤◌, Bool, true, false, List, Option, Some, None, IsOk, Ok, Err}
use Rattle.std.specs.declared.result.Result.{Result}
use Rattle.qz_civil.specs.Causes.{Rose}
use Rattle.qz_types.specs.declared.replies.Refusal.{Refusal}
use Rattle.qz_journal.specs.Commits.{IsFull, need_of, room_of}
use Rattle.qz_types.specs.declared.errors.SubmitError.{SubmitError}
use Rattle.qz_types.specs.declared.errors.SubmitError.TheVariants as submit

-- What the entries of a store are to it: what one that is submitted comes to after a history, which is its reply or why
-- it is refused; the history with it; the length of its record in bytes; and that it has this record.
pub record EntryKind (H E R : Type 0) : Type 1 where
  pub answer : H → E → Result R Refusal
  pub with_entry : E → H → H
  pub size : E → ℕ
  -- that what is written of it is a record of it
  pub IsWritten : E → Type 0

-- A store at one moment: its history, the offset of the closed gate, the number of payloads before that gate, whether it
-- is open, the entry of which it isn't known whether the disk has it, and its disk's count of faults. Its bytes aren't
-- seen.
pub record StoreState (H E : Type 0) : Type 0 where
  pub history : H
  pub gate : ℕ
  pub payloads : ℕ
  pub is_open : Bool
  pub undecided : Option E
  pub faults : ℕ

-- a record of so many bytes has room after the gate
abbrev pub HasRoom : {H E : Type 0} → ℕ → StoreState H E → Type 0
HasRoom size s = need_of size ≤ room_of s.gate s.payloads

-- it hasn't: so many bytes are needed, and so many are left
abbrev pub LacksRoom : {H E : Type 0} → ℕ → ℕ → ℕ → StoreState H E → Type 0
LacksRoom size need room s = IsFull s.gate s.payloads size need room

-- all but the count is as it was
pub record Same {H E : Type 0} (s t : StoreState H E) : Type 0 where
  pub history : t.history ≡ s.history
  pub gate : t.gate ≡ s.gate
  pub payloads : t.payloads ≡ s.payloads
  pub is_open : t.is_open ≡ s.is_open
  pub undecided : t.undecided ≡ s.undecided
  pub later : s.faults ≤ t.faults

-- The entry is accepted with this reply, and put at the end of the history; its record is one payload more.
pub record Appends {H E R : Type 0} (kind : EntryKind H E R) (e : E) (reply : R) (s t : StoreState H E) : Type 0 where
  pub was_open : s.is_open ≡ true
  pub accepted_as : kind.answer s.history e ≡ Ok reply
  pub written : kind.IsWritten e
  pub room : HasRoom (kind.size e) s
  pub history : t.history ≡ kind.with_entry e s.history
  pub gate : t.gate ≡ s.gate + need_of (kind.size e)
  pub payloads : t.payloads ≡ s.payloads + 1
  pub is_open : t.is_open ≡ true
  pub undecided : t.undecided ≡ None
  pub later : s.faults ≤ t.faults

-- The transaction is refused.
pub record Refuses {H E R : Type 0} (kind : EntryKind H E R) (e : E) (refusal : Refusal) (s t : StoreState H E) : Type 0 where
  pub was_open : s.is_open ≡ true
  pub refused_as : kind.answer s.history e ≡ Err refusal
  pub same : Same s t

-- The entry would be accepted, and its record finds no room on the disk.
pub record Overflows {H E R : Type 0} (kind : EntryKind H E R) (e : E) (need room : ℕ) (s t : StoreState H E) : Type 0 where
  pub was_open : s.is_open ≡ true
  pub passes : IsOk (kind.answer s.history e)
  pub full : LacksRoom (kind.size e) need room s
  pub same : Same s t

-- The entry would be accepted, and there was no memory for it.
pub record Starves {H E R : Type 0} (kind : EntryKind H E R) (e : E) (s t : StoreState H E) : Type 0 where
  pub was_open : s.is_open ≡ true
  pub passes : IsOk (kind.answer s.history e)
  pub same : Same s t

-- The entry would be accepted and has room, and the disk failed. The store is closed, and the entry may be on the disk
-- or not.
pub record Fails {H E R : Type 0} (kind : EntryKind H E R) (e : E) (s t : StoreState H E) : Type 0 where
  pub was_open : s.is_open ≡ true
  pub passes : IsOk (kind.answer s.history e)
  pub room : HasRoom (kind.size e) s
  pub history : t.history ≡ s.history
  pub gate : t.gate ≡ s.gate
  pub payloads : t.payloads ≡ s.payloads
  pub is_open : t.is_open ≡ false
  pub undecided : t.undecided ≡ Some e
  pub rose : Rose s.faults t.faults
  pub later : s.faults ≤ t.faults

-- The store was closed, and stays so.
pub record Stops {H E : Type 0} (s t : StoreState H E) : Type 0 where
  pub was_closed : s.is_open ≡ false
  pub same : Same s t

-- an entry is submitted
abbrev pub Submits : {H E R : Type 0} → EntryKind H E R → E → Result R SubmitError → StoreState H E → StoreState H E → Type 0
Submits kind e (Ok reply) s t = Appends kind e reply s t
Submits kind e (Err (submit.Closed at)) s t = Stops s t × (at ≡ s.gate)
Submits kind e (Err (submit.Refused refusal)) s t = Refuses kind e refusal s t
Submits kind e (Err (submit.JournalFull need room)) s t = Overflows kind e need room s t
Submits kind e (Err submit.NoMemory) s t = Starves kind e s t
Submits kind e (Err submit.Fault) s t = Fails kind e s t

-- the bytes are those of a history, or of it with the undecided entry, where this says which bytes are whose
abbrev pub MayBeOf : {H E R : Type 0} → EntryKind H E R → (List ℕ → H → Type 0) → H → Option E → List ℕ → Type 0
MayBeOf kind Stands h None bytes = Stands bytes h
MayBeOf kind Stands h (Some e) bytes = Stands bytes h ⊎ Stands bytes (kind.with_entry e h)

-- A restart began: the store is closed, with its history and its undecided entry. Its journal may have been read anew, so
-- nothing is said of the gate.
pub record Shuts {H E : Type 0} (s t : StoreState H E) : Type 0 where
  pub history : t.history ≡ s.history
  pub is_open : t.is_open ≡ false
  pub undecided : t.undecided ≡ s.undecided
  pub later : s.faults ≤ t.faults

-- Why a record of this length isn't written: it has no room, so many bytes are needed and so many are left; or there is
-- no memory for it.
abbrev pub IsUnwritten : {H E : Type 0} → ℕ → StoreState H E → SubmitError → Type 0
IsUnwritten length s (submit.JournalFull need room) = LacksRoom length need room s
IsUnwritten length s submit.NoMemory = ⊤
IsUnwritten length s (submit.Refused refusal) = ⊥
IsUnwritten length s (submit.Closed at) = ⊥
IsUnwritten length s submit.Fault = ⊥
