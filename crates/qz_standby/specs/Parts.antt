-- The steps in which both stores are made.
use Rattle.std.specs.Prelude.{⊤, ℕ, List, Option, Some, None, Result, Ok, Err}
use Rattle.qz_disk.specs.Disk.{DiskState}
use Rattle.qz_journal.specs.declared.errors.NewStoreError.{NewStoreError}
use Rattle.qz_journal.specs.declared.errors.NewStoreError.TheVariants as new_store
use Rattle.qz_journal.specs.declared.fronts.Front.{Front}
use Rattle.qz_journal.specs.declared.fronts.Front.TheVariants as front
use Rattle.qz_types.specs.declared.stores.Store.{Store}
use Rattle.qz_types.specs.declared.stores.Store.TheVariants as store
use Rattle.qz_checkin.specs.Bytes.{Whole as WholeRows}
use Rattle.qz_checkin.specs.Kinds.{state_kind}
use Rattle.qz_stores.specs.declared.compacting.CompactError.{CompactError}
use Rattle.qz_stores.specs.declared.compacting.CompactError.TheVariants as compact
use Rattle.qz_trigger_store.specs.Kinds.{trigger_kind}
use Rattle.qz_follow.specs.Following.{Following}
use Rattle.qz_follow.specs.declared.promoting.PromoteFault.{PromoteFault}
use Rattle.qz_follow.specs.declared.promoting.PromoteFault.TheVariants as promote
use Rattle.qz_standby.specs.Fronts.{HasOwn, HasNone, IsFirstOfOther, Looks}
use Rattle.qz_standby.specs.Making.{LeavesFirst, HoldsNow, LacksRoom, list_of}
use Rattle.qz_standby.specs.declared.errors.Unmade.{Unmade}
use Rattle.qz_standby.specs.declared.errors.Unmade.TheVariants as unmade
use Rattle.qz_standby.specs.declared.forms.Form.{Form}

-- why no stores are made on disks that begin so
abbrev pub of_fronts : Front → Front → Result (Unit {0}) Unmade
of_fronts front.This front.This = Err unmade.Exists
of_fronts front.This front.Other = Err unmade.Exists
of_fronts front.This front.Neither = Err unmade.Exists
of_fronts front.Other front.This = Err unmade.Exists
of_fronts front.Other front.Other = Err (unmade.NotAStore store.Triggers)
of_fronts front.Other front.Neither = Err (unmade.NotAStore store.Triggers)
of_fronts front.Neither front.This = Err unmade.Exists
of_fronts front.Neither front.Other = Err (unmade.NotAStore store.States)
of_fronts front.Neither front.Neither = Ok tt

-- what the bytes of the two disks begin with, by why no stores are made on them
abbrev pub AreFound : Result (Unit {0}) Unmade → List ℕ → List ℕ → Type 0
AreFound (Ok _) triggers states = HasNone triggers states
AreFound (Err unmade.Exists) triggers states = HasOwn triggers states
AreFound (Err (unmade.NotAStore store)) triggers states = (HasOwn triggers states → ⊥) × IsFirstOfOther store triggers states
AreFound (Err (unmade.Short at)) triggers states = ⊥
AreFound (Err (unmade.NoRoom need room)) triggers states = ⊥
AreFound (Err unmade.NoMemory) triggers states = ⊥
AreFound (Err unmade.Fault) triggers states = ⊤

-- a store was made in part
abbrev pub IsInPart : Unmade → Type 0
IsInPart unmade.NoMemory = ⊤
IsInPart unmade.Fault = ⊤
IsInPart error = ⊥

-- What came of making the state store on a disk that had none.
abbrev pub MakesRows : Result (Unit {0}) Unmade → WholeRows → DiskState → DiskState → Type 0
MakesRows (Ok _) v old new = LeavesFirst state_kind v old new × HoldsNow state_kind v new
MakesRows (Err error) v old new = IsInPart error × LeavesFirst state_kind v old new

-- why there is no new store on the disk of this one
abbrev pub uncreated : NewStoreError → Store → Unmade
uncreated new_store.Exists store = unmade.Exists
uncreated new_store.OtherKind store = unmade.NotAStore store
uncreated new_store.NoMemory store = unmade.NoMemory
uncreated new_store.Fault store = unmade.Fault

-- A look at the disks, and making the state store, tell nothing of the stream's header.
abbrev pub IsOfStores : Unmade → Type 0
IsOfStores (unmade.Short at) = ⊥
IsOfStores error = ⊤

-- What came of making the trigger store of a follower, in this form, on a disk that had none: None, or why it wasn't.
abbrev pub MakesTriggers : Form → Option Unmade → Following → DiskState → DiskState → Type 0
MakesTriggers form None f old new = LeavesFirst trigger_kind (list_of form f) old new × HoldsNow trigger_kind (list_of form f) new
MakesTriggers form (Some unmade.Exists) f old new = ⊥
MakesTriggers form (Some (unmade.NotAStore store)) f old new = ⊥
MakesTriggers form (Some (unmade.Short at)) f old new = Looks old new
MakesTriggers form (Some (unmade.NoRoom need room)) f old new = LacksRoom form f need room × LeavesFirst trigger_kind (list_of form f) old new
MakesTriggers form (Some unmade.NoMemory) f old new = LeavesFirst trigger_kind (list_of form f) old new
MakesTriggers form (Some unmade.Fault) f old new = LeavesFirst trigger_kind (list_of form f) old new

-- why no store of all entries was made of a follower
abbrev pub unpromoted : PromoteFault → Unmade
unpromoted (promote.Short at) = unmade.Short at
unpromoted promote.Exists = unmade.Exists
unpromoted promote.OtherKind = unmade.NotAStore store.Triggers
unpromoted promote.NoMemory = unmade.NoMemory
unpromoted (promote.NoRoom need room) = unmade.NoRoom need room
unpromoted promote.Fault = unmade.Fault

-- why no store that begins with a snapshot was made
abbrev pub uncompacted : CompactError → Unmade
uncompacted compact.Exists = unmade.Exists
uncompacted compact.OtherKind = unmade.NotAStore store.Triggers
uncompacted compact.NoMemory = unmade.NoMemory
uncompacted (compact.NoRoom need room) = unmade.NoRoom need room
uncompacted compact.Fault = unmade.Fault

-- so many entries, where the state store was made too
abbrev pub counted : Result (Unit {0}) Unmade → ℕ → Result ℕ Unmade
counted (Ok _) count = Ok count
counted (Err error) count = Err error
