-- How a call may end where nothing outside of it fails: it does what its words ask for, unless memory runs out.
use Rattle.std.specs.Prelude.{⊤, ◌≡◌, ◌≤◌, ℕ, List, length, Option, Some, None, IsOk, Result, Ok, Err}
use Rattle.std.specs.List.{AllByRecursion}
use Rattle.qz_civil.specs.Causes.{Rose}
use Rattle.qz_disk.specs.declared.disk.Disk.{Ghosts}
use Rattle.qz_document.specs.Document.{document_meaning}
use Rattle.qz_document.specs.declared.documents.Document.{Document}
use Rattle.qz_io.specs.Lines.{lines_of}
use Rattle.qz_io.specs.declared.limits.TheConstants.{LINE_COUNT_LIMIT}
use Rattle.qz_times.specs.Said.{line_meaning}
use Rattle.qz_trigger_store.specs.Bytes.{Whole}
use Rattle.qz_checkin.specs.Bytes.{Whole as WholeRows}
use Rattle.qz_words.specs.declared.wishes.WordFault.{WordFault}
use Rattle.qz_words.specs.declared.wishes.Wish.{Wish}
use Rattle.qz_words.specs.declared.wishes.Wish.TheVariants as wish
use Rattle.qz_top.specs.Causes.{FaultCounts}
use Rattle.qz_standby.specs.Fronts.{HasNone}
use Rattle.qz_top.specs.Following.{IsRightStream, HasRoomAgain}
use Rattle.qz_top.specs.Found.{HoldWhole}
use Rattle.qz_top.specs.Lines.{first_bad}
use Rattle.qz_top.specs.declared.statuses.Status.{Status}
use Rattle.qz_top.specs.declared.statuses.Status.TheVariants as status

-- no count of faults rose in the call
pub record NoneRose (old new : FaultCounts) : Type 0 where
  pub input : Rose old.input new.input → ⊥
  pub output : Rose old.output new.output → ⊥
  pub triggers : Rose old.triggers new.triggers → ⊥
  pub states : Rose old.states new.states → ⊥

-- The input's bytes are known, where the call reads it, and right: no line of a script or of `times` is bad, a document is one, and a
-- stream has no fault, and room in a store where it is followed.
abbrev pub HasRightInput : Result Wish WordFault → Option (List ℕ) → Type 0
HasRightInput (Ok wish.Own) left = (bytes : List ℕ) × (left ≡ Some bytes) × (first_bad (lines_of bytes) ≡ None)
HasRightInput (Ok wish.Script) left = (bytes : List ℕ) × (left ≡ Some bytes) × (first_bad (lines_of bytes) ≡ None)
HasRightInput (Ok wish.Load) left = (bytes : List ℕ) × (left ≡ Some bytes) × (document : Document) × (document_meaning bytes ≡ Ok document)
HasRightInput (Ok (wish.Times after count)) left =
    (bytes : List ℕ) × (left ≡ Some bytes) × AllByRecursion (λ line. IsOk (line_meaning line)) (lines_of bytes) × (length (lines_of bytes) ≤ LINE_COUNT_LIMIT)
HasRightInput (Ok wish.Follow) left = (bytes : List ℕ) × (left ≡ Some bytes) × IsRightStream bytes × HasRoomAgain bytes
HasRightInput (Ok wish.Compact) left = (bytes : List ℕ) × (left ≡ Some bytes) × IsRightStream bytes
HasRightInput w left = ⊤

-- both disks are honest and hold whole lists, where the call works on them; for one that makes the stores they begin as none
abbrev pub HasStores : {D : Type 0} → Ghosts D → Result Wish WordFault → D → D → Type 0
HasStores g (Err fault) triggers states = ⊤
HasStores g (Ok wish.Own) triggers states = ⊤
HasStores g (Ok (wish.Times after count)) triggers states = ⊤
HasStores g (Ok wish.Follow) triggers states = g.honest × HasNone (g.state triggers).content (g.state states).content
HasStores g (Ok wish.Compact) triggers states = g.honest × HasNone (g.state triggers).content (g.state states).content
HasStores g w triggers states = (list : Whole) × (rows : WholeRows) × HoldWhole g triggers states list rows

-- it came to its end, or memory ran out
abbrev pub IsDone : Status → Type 0
IsDone status.Ok = ⊤
IsDone status.NoMemory = ⊤
IsDone s = ⊥

-- or the next transaction, or a snapshot, found no room on its disk
abbrev pub IsDoneOrFull : Status → Type 0
IsDoneOrFull (status.JournalFull need room) = ⊤
IsDoneOrFull s = IsDone s

-- or the nodes spent their budget, or a table is full, or the store is old
abbrev pub IsDoneByNodes : Status → Type 0
IsDoneByNodes (status.Budget firings) = ⊤
IsDoneByNodes (status.TooMany count) = ⊤
IsDoneByNodes status.OldStore = ⊤
IsDoneByNodes s = IsDoneOrFull s

-- or the store isn't empty
abbrev pub IsDoneByGenerator : Status → Type 0
IsDoneByGenerator status.Exists = ⊤
IsDoneByGenerator s = IsDoneByNodes s

-- what is left then. Full journals and tables, spent budgets and old stores have their causes in what the call did.
abbrev pub EndsUnfailed : Result Wish WordFault → Status → Type 0
EndsUnfailed (Err fault) s = s ≡ status.BadWords fault
EndsUnfailed (Ok wish.Own) s = IsDoneOrFull s
EndsUnfailed (Ok wish.Init) s = s ≡ status.Exists
EndsUnfailed (Ok wish.Script) s = IsDoneOrFull s
EndsUnfailed (Ok wish.Load) s = IsDoneOrFull s
EndsUnfailed (Ok wish.List) s = IsDone s
EndsUnfailed (Ok wish.Migrate) s = IsDoneOrFull s
EndsUnfailed (Ok wish.Follow) s = IsDone s
EndsUnfailed (Ok wish.Compact) s = IsDoneOrFull s
EndsUnfailed (Ok (wish.Times after count)) s = IsDone s
EndsUnfailed (Ok (wish.Run nodes from until budget)) s = IsDoneByNodes s
EndsUnfailed (Ok (wish.Gen seed jobs days)) s = IsDoneByGenerator s

-- A call with these words ended so, with these counts before and after it, this input and these disks.
abbrev pub IsComplete : {D : Type 0} → Ghosts D → Result Wish WordFault → Status → FaultCounts → FaultCounts → Option (List ℕ) → D → D → Type 0
IsComplete g w s counts counts' left triggers states = NoneRose counts counts' → HasRightInput w left → HasStores g w triggers states → EndsUnfailed w s
