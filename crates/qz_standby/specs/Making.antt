-- What a standby makes of the two disks.
use Rattle.std.specs.Prelude.{⊤, ◌≡◌, ◌≢◌, ◌⊎◌, ℕ, List, [], ◌++◌, length, Result, Ok, Err, None, Some}
use Rattle.qz_disk.specs.Disk.{DiskState, Only, Torn, LeavesOnly}
use Rattle.qz_follow.specs.Following.{Following, short_at}
use Rattle.qz_follow.specs.Promoting.{LacksAll}
use Rattle.qz_journal.specs.Commits.{IsFullFor}
use Rattle.qz_journal.specs.Layout.{IsStore, end_of}
use Rattle.qz_snapshot.specs.Checkpoints.{snapshot_written}
use Rattle.qz_stores.specs.Bases.{WholeList, IsWhole}
use Rattle.qz_stores.specs.Kinds.{StoreKind}
use Rattle.qz_types.specs.Tables.{empty}
use Rattle.qz_trigger_store.specs.Bytes.{Whole}
use Rattle.qz_trigger_store.specs.Kinds.{trigger_kind}
use Rattle.qz_checkin.specs.Bytes.{Whole as WholeRows}
use Rattle.qz_checkin.specs.Kinds.{state_kind}
use Rattle.qz_standby.specs.CheckIns.{rows_beside}
use Rattle.qz_standby.specs.Forms.{left_by, list_in}
use Rattle.qz_standby.specs.Fronts.{HasOwn, HasNone, IsFirstOfOther, Looks}
use Rattle.qz_standby.specs.declared.errors.Unmade.{Unmade}
use Rattle.qz_standby.specs.declared.errors.Unmade.TheVariants as unmade
use Rattle.qz_standby.specs.declared.forms.Form.{Form}
use Rattle.qz_standby.specs.declared.forms.Form.TheVariants as form

-- The bytes are a store that starts as this list does, and has the first of its entries.
pub record HoldsFirst {H S E R : Type 0} (k : StoreKind H S E R) (w : WholeList S E) (bytes : List ℕ) : Type 0 where
  pub first : List E
  pub more : List E
  pub entries : w.entries ≡ first ++ more
  pub held : IsWhole k (record w { entries = first }) bytes

-- they begin as no store of this kind does, or are such a store
abbrev pub HoldsPart : {H S E R : Type 0} → StoreKind H S E R → WholeList S E → List ℕ → Type 0
HoldsPart k w bytes = (IsStore k.number bytes → ⊥) ⊎ HoldsFirst k w bytes

-- A crash at any moment leaves such a store; before that the header, and the gate after it, may be there in part.
abbrev pub LeavesFirst : {H S E R : Type 0} → StoreKind H S E R → WholeList S E → DiskState → DiskState → Type 0
LeavesFirst k w old new = (from : List ℕ) → Only from old → LeavesOnly old new (λ b. Torn 0 17 from b ⊎ HoldsPart k w b)

-- the bytes, and what a crash leaves of them, hold this whole list
abbrev pub HoldsNow : {H S E R : Type 0} → StoreKind H S E R → WholeList S E → DiskState → Type 0
HoldsNow k w new = IsWhole k w new.content × ((b : List ℕ) → new.IsImage b → IsWhole k w b)

-- the whole list of the trigger store of this form that this follower is made into
abbrev pub list_of : Form → Following → Whole
list_of form f = list_in form f.version f.start f.entries

-- and that of the state store beside it
abbrev pub rows_of : Following → WholeRows
rows_of f = rows_beside f.start f.entries

-- A snapshot of the follower's tables has no room in a store, or one of its base with all its entries: so many bytes are needed, and so
-- many there are. (The entries alone have room.)
abbrev pub LacksRoom : Form → Following → ℕ → ℕ → Type 0
LacksRoom form.Entries f need room = (f.start ≢ empty f.version) × LacksAll f.start f.entries need room
LacksRoom form.Snapshot f need room = IsFullFor (snapshot_written (left_by f.start f.entries) 0 0) (end_of []) 0 need room

-- Stores are made on two disks that had none.
pub record MakesPart (form : Form) (f : Following) (t t' s s' : DiskState) : Type 0 where
  pub none : HasNone t.content s.content
  pub triggers : LeavesFirst trigger_kind (list_of form f) t t'
  pub states : LeavesFirst state_kind (rows_of f) s s'

-- At the end both hold their whole lists.
pub record MakesBoth (form : Form) (f : Following) (t t' s s' : DiskState) : Type 0 where
  pub part : MakesPart form f t t' s s'
  pub list : HoldsNow trigger_kind (list_of form f) t'
  pub rows : HoldsNow state_kind (rows_of f) s'

-- Nothing was made, for what was found on the disks.
pub record LooksAtBoth (Found : List ℕ → List ℕ → Type 0) (t t' s s' : DiskState) : Type 0 where
  pub found : Found t.content s.content
  pub triggers : Looks t t'
  pub states : Looks s s'

-- What came of making both stores of a follower on two disks, that of triggers first and in this form.
abbrev pub Makes : Form → Result ℕ Unmade → Following → DiskState → DiskState → DiskState → DiskState → Type 0
Makes form (Ok count) f t t' s s' = MakesBoth form f t t' s s'
Makes form (Err unmade.Exists) f t t' s s' = LooksAtBoth HasOwn t t' s s'
Makes form (Err (unmade.NotAStore store)) f t t' s s' = LooksAtBoth (λ triggers states. (HasOwn triggers states → ⊥) × IsFirstOfOther store triggers states) t t' s s'
Makes form (Err (unmade.Short at)) f t t' s s' = LooksAtBoth HasNone t t' s s'
Makes form (Err (unmade.NoRoom need room)) f t t' s s' = LacksRoom form f need room × MakesPart form f t t' s s'
Makes form (Err unmade.NoMemory) f t t' s s' = LooksAtBoth (λ triggers states. ⊤) t t' s s' ⊎ MakesPart form f t t' s s'
Makes form (Err unmade.Fault) f t t' s s' = LooksAtBoth (λ triggers states. ⊤) t t' s s' ⊎ MakesPart form f t t' s s'

-- The header of the stream was whole, and its base if it has one, and so many entries were acknowledged; or the stream ended within
-- them. Of other causes nothing is said.
abbrev pub TellsHeader : Result ℕ Unmade → Following → Type 0
TellsHeader (Ok count) f = (short_at f ≡ None) × (count ≡ length f.entries)
TellsHeader (Err (unmade.Short at)) f = short_at f ≡ Some at
TellsHeader (Err error) f = ⊤
