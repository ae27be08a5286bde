-- What `history FROM` did.
use Rattle.std.specs.Prelude.{⊤, ◌≡◌, ◌≢◌, ◌⊎◌, ℕ, List, length, take, Option, Some, None, Result, Ok, Err}
use Rattle.std.specs.Io.KnownBytes.{Appends}
use Rattle.qz_civil.specs.Causes.{Rose}
use Rattle.qz_disk.specs.declared.disk.Disk.{Ghosts}
use Rattle.qz_disk.specs.Disk.{DiskState, LeavesOnly}
use Rattle.qz_io.specs.declared.traits.Sink as sink
use Rattle.qz_journal.specs.declared.errors.MountError.{MountError}
use Rattle.qz_journal.specs.declared.errors.MountError.TheVariants as mount
use Rattle.qz_journal.specs.Through.{OnlyReads}
use Rattle.qz_types.specs.declared.stores.Store.{Store}
use Rattle.qz_types.specs.declared.stores.Store.TheVariants.{Triggers}
use Rattle.qz_model.specs.History.{History, IsLegal}
use Rattle.qz_trigger_store.specs.Bytes.{Whole, StandsFrom}
use Rattle.qz_trigger_store.specs.Opening.{IsOpened}
use Rattle.qz_checkin.specs.Bytes.{Whole as WholeRows}
use Rattle.qz_checkin.specs.Opening.{IsOpened as AreOpened}
use Rattle.qz_cluster.specs.Mounting.{DisksAfter, RefusedBy, StandsBefore}
use Rattle.qz_cluster.specs.Steps.{ClusterState}
use Rattle.qz_words.specs.declared.wishes.WordFault.{WordFault}
use Rattle.qz_history.specs.Told.{told}
use Rattle.qz_history.specs.Telling.{TellsWhole}
use Rattle.qz_history.specs.declared.telling.TellError.{TellError}
use Rattle.qz_history.specs.declared.telling.TellError.TheVariants as telling
use Rattle.qz_top.specs.Calls.{refusal_of}
use Rattle.qz_top.specs.Completing.{IsDone}
use Rattle.qz_top.specs.Found.{HoldWhole, IsFoundOn}
use Rattle.qz_top.specs.Statuses.{Reported, WritesLine}
use Rattle.qz_top.specs.declared.statuses.Status.{Status}
use Rattle.qz_top.specs.declared.statuses.Status.TheVariants as status
use Rattle.qz_tell.specs.Lines.{beginning_text}
use Rattle.qz_tell.specs.declared.calls.Told.{Told}

-- a history that an opening of the disk may find
abbrev pub Stands : {D : Type 0} → Ghosts D → D → History → Type 0
Stands g disk h = (version : ℕ) × StandsFrom version (g.state disk).content h

-- It has the base of the other history, and the first of its entries.
pub record IsFrontOf (h whole : History) : Type 0 where
  pub base_count : h.base_count ≡ whole.base_count
  pub base : h.base ≡ whole.base
  pub entries : h.entries ≡ take (length h.entries) whole.entries

-- A legal history was read and told to its end. On an honest disk it is the one that was opened.
pub record ToldAll (honest : Type 0) (from : ℕ) (opened : History) (begins : Option ℕ) (old new : Option (List ℕ)) : Type 0 where
  pub history : History
  pub legal : IsLegal history
  pub same : honest → history ≡ opened
  pub tells : TellsWhole from history begins old new

-- A legal history was read as far as the call came, and a part of what is told of it was written. On an honest disk it is a front of
-- the one that was opened.
pub record ToldPart (honest : Type 0) (from : ℕ) (opened : History) (old new : Option (List ℕ)) : Type 0 where
  pub history : History
  pub legal : IsLegal history
  pub front : honest → IsFrontOf history opened
  pub part : ℕ
  pub written : Appends old new (take part (told from history))

-- At status 0 all was told, and else a part of it.
abbrev pub Tells : Type 0 → ℕ → History → Status → Option ℕ → Option (List ℕ) → Option (List ℕ) → Type 0
Tells honest from opened s begins old new =
    (s ≡ status.Ok → ToldAll honest from opened begins old new) × (s ≢ status.Ok → (begins ≡ None) × ToldPart honest from opened old new)

-- How the call may end once both stores are open: memory runs out, or the output or the disk fails. That the store isn't one any
-- more, or is damaged, is met on a disk alone that gives other bytes than it has.
abbrev pub MayEnd : Type 0 → Status → Type 0
MayEnd honest status.Ok = ⊤
MayEnd honest status.NoMemory = ⊤
MayEnd honest status.WriteFault = ⊤
MayEnd honest status.DiskFault = ⊤
MayEnd honest (status.NotAStore store) = honest → ⊥
MayEnd honest (status.Damaged store at) = honest → ⊥
MayEnd honest s = ⊥

-- the status of a second reading, from this offset on, that ended early
abbrev pub status_of : ℕ → TellError → Status
status_of start telling.NoMemory = status.NoMemory
status_of start telling.WriteFault = status.WriteFault
status_of start telling.Unfit = status.Damaged Triggers start

-- The disk was read, and nothing else: unless a call failed its content stays, and each image since then was one before.
pub record OnlyRead (failed : Type 0) (old new : DiskState) : Type 0 where
  pub content : (failed → ⊥) → new.content ≡ old.content
  pub any_moment : LeavesOnly old new old.IsImage

-- Both stores were opened as `list` opens them, and what was done was told.
pub record ToldOnDisk {D : Type 0} (g : Ghosts D) (from : ℕ) (triggers states : D) (t : Told D) (old new : Option (List ℕ)) : Type 0 where
  pub opened : ClusterState
  pub are_opened : IsOpened opened.triggers × AreOpened opened.states
  pub found : g.honest → IsFoundOn g triggers states opened
  pub tells : Tells g.honest from opened.triggers.history t.status t.begins old new
  pub ends : MayEnd g.honest t.status
  pub reads : g.honest → OnlyRead (t.status ≡ status.DiskFault) (g.state triggers) (g.state t.triggers) × OnlyReads (g.state states) (g.state t.states)

-- A store wasn't opened, and nothing was written.
pub record NotOpened {D : Type 0} (g : Ghosts D) (triggers states : D) (t : Told D) (old new : Option (List ℕ)) : Type 0 where
  pub store : Store
  pub error : MountError
  pub status_is : t.status ≡ refusal_of store error
  pub refused : g.honest → RefusedBy g store error triggers states
  -- where both disks are honest and hold whole lists, one of them failed or memory ran out
  pub why : (w : Whole) (v : WholeRows) → HoldWhole g triggers states w v → (error ≡ mount.Fault) ⊎ (error ≡ mount.NoMemory)
  -- where the state store is named, the trigger store could be opened
  pub first : g.honest → StandsBefore g store triggers
  pub reads : g.honest → DisksAfter g store error triggers states t.triggers t.states
  pub nothing : (t.begins ≡ None) × (new ≡ old)

-- What the words ask for was done. Bad words do nothing.
abbrev pub DidAsAsked : {D : Type 0} → Ghosts D → Result ℕ WordFault → D → D → Told D → Option (List ℕ) → Option (List ℕ) → Type 0
DidAsAsked g (Ok from) triggers states t old new = ToldOnDisk g from triggers states t old new ⊎ NotOpened g triggers states t old new
DidAsAsked g (Err fault) triggers states t old new = (t.status ≡ status.BadWords fault) × (t.triggers ≡ triggers) × (t.states ≡ states) × (t.begins ≡ None) × (new ≡ old)

-- a disk failed in the call
abbrev pub DiskFailed : {D : Type 0} → Ghosts D → D → D → Told D → Type 0
DiskFailed g triggers states t = Rose (g.faults triggers) (g.faults t.triggers) ⊎ Rose (g.faults states) (g.faults t.states)

-- Where both disks are honest and hold whole lists, and nothing failed, all was told, unless memory ran out.
abbrev pub IsComplete : {D K : Type 0} → Ghosts D → sink.Ghosts K → Result ℕ WordFault → D → D → Told D → K → K → Type 0
IsComplete g k (Err fault) triggers states t old new = ⊤
IsComplete g k (Ok from) triggers states t old new =
    (w : Whole) (v : WholeRows) → HoldWhole g triggers states w v → (DiskFailed g triggers states t → ⊥) → (Rose (k.faults old) (k.faults new) → ⊥) → IsDone t.status

-- The line on `err`: where the history begins, where all went well and it doesn't begin with the first transaction that was asked for; and the
-- status's, where it isn't `Ok`.
abbrev pub Reports : {E : Type 0} → sink.Ghosts E → Status → Option ℕ → E → E → Type 0
Reports e status.Ok None old new = new ≡ old
Reports e status.Ok (Some number) old new = WritesLine e (beginning_text number) old new
Reports e s begins old new = Reported e s old new
