-- What `follow` and `compact` did: they read the bytes of a trigger store, and made both stores of them.
use Rattle.std.specs.Prelude.{◌≡◌, ◌≢◌, ◌⊎◌, ℕ, ◌≤◌, List, [], ◌++◌, length, codes, Option, None, Result, Ok, Err}
use Rattle.std.specs.Fmt.{decimal}
use Rattle.std.specs.Io.KnownBytes.{Consumes}
use Rattle.qz_disk.specs.declared.disk.Disk.{Ghosts}
use Rattle.qz_io.specs.Outside.{Outside, only_output}
use Rattle.qz_types.specs.Entries.{EntryData}
use Rattle.qz_types.specs.Tables.{SchedulerTables, empty}
use Rattle.qz_trigger_store.specs.Kinds.{trigger_kind}
use Rattle.qz_checkin.specs.Kinds.{state_kind}
use Rattle.qz_stream.specs.Front.{IsVersionOf}
use Rattle.qz_follow.specs.Following.{Following, HasTaken, IsFault, IsFollowed, IsEnded}
use Rattle.qz_follow.specs.Payloads.{version_or_two, IsSeen}
use Rattle.qz_follow.specs.Promoting.{LacksAll}
use Rattle.qz_follow.specs.Taking.{missing_slot}
use Rattle.qz_follow.specs.declared.faults.FollowFault.{FollowFault}
use Rattle.qz_follow.specs.declared.faults.FollowFault.TheVariants as fault
use Rattle.qz_standby.specs.CheckIns.{rows_beside}
use Rattle.qz_standby.specs.Forms.{list_in}
use Rattle.qz_standby.specs.Making.{Makes, TellsHeader, LeavesFirst, HoldsNow}
use Rattle.qz_standby.specs.Reading.{HasRead, IsUnread}
use Rattle.qz_standby.specs.declared.errors.Unmade.{Unmade}
use Rattle.qz_standby.specs.declared.errors.Unmade.TheVariants as unmade
use Rattle.qz_standby.specs.declared.errors.Unread.{Unread}
use Rattle.qz_standby.specs.declared.errors.Unread.TheVariants as unread
use Rattle.qz_standby.specs.declared.forms.Form.{Form}
use Rattle.qz_standby.specs.declared.forms.Form.TheVariants as form
use Rattle.qz_top.specs.Calls.{trail_of}
use Rattle.qz_top.specs.Lists.{WritesText}
use Rattle.qz_top.specs.Making.{KeepsStores}
use Rattle.qz_top.specs.declared.ended.Ended.{Ended}
use Rattle.qz_top.specs.declared.statuses.Status.{Status}
use Rattle.qz_top.specs.declared.statuses.Status.TheVariants as status

-- the status of a call whose stream has this fault
abbrev pub fault_status : FollowFault → Status
fault_status (fault.BadStream at) = status.BadStream at
fault_status (fault.JournalFull need room) = status.JournalFull need room
fault_status fault.NoMemory = status.NoMemory

-- the status of a call that didn't read its stream to the end
abbrev pub unread_status : Unread → Status
unread_status unread.Failed = status.ReadFault
unread_status (unread.Stream x) = fault_status x

-- the status of a call that didn't make both stores
abbrev pub unmade_status : Unmade → Status
unmade_status unmade.Exists = status.Exists
unmade_status (unmade.NotAStore store) = status.NotAStore store
unmade_status (unmade.Short at) = status.BadStream at
unmade_status (unmade.NoRoom need room) = status.JournalFull need room
unmade_status unmade.NoMemory = status.NoMemory
unmade_status unmade.Fault = status.DiskFault

-- what a call says that it did, by the form of the trigger store
abbrev pub done_word : Form → List ℕ
done_word form.Entries = codes "followed "
done_word form.Snapshot = codes "compacted "

-- and of how many entries
abbrev pub followed_text : Form → ℕ → List ℕ
followed_text form count = done_word form ++ decimal count ++ codes "\n"

-- A call that ends so made both stores.
abbrev pub MadeBoth : Status → Type 0
MadeBoth s = (s ≡ status.Ok) ⊎ (s ≡ status.WriteFault)

-- The number of entries was written, or a part of the text where the output failed; and nothing where the stores weren't made.
abbrev pub SaysFollowed : Form → Status → Result ℕ Unmade → Outside → Outside → Type 0
SaysFollowed form s (Ok count) old new = MadeBoth s × WritesText s (followed_text form count) old new
SaysFollowed form s (Err error) old new = (s ≡ unmade_status error) × (new ≡ old)

-- Both stores were made of this follower, or it is told why not.
pub record StoodBy {D : Type 0} {g : Ghosts D} (form : Form) (f : Following) (triggers states : D) (e : Ended D g) (old new : Outside) : Type 0 where
  pub made : Result ℕ Unmade
  pub header : TellsHeader made f
  pub makes : g.honest → Makes form made f (g.state triggers) (g.state e.triggers) (g.state states) (g.state e.states)
  pub says : SaysFollowed form e.status made old new

-- The stream was read to its end, by this follower.
pub record FollowedWhole {D : Type 0} {g : Ghosts D} (form : Form) (triggers states : D) (e : Ended D g) (old new : Outside) : Type 0 where
  pub follower : Following
  pub stream : HasRead old.left new.left follower
  pub stood_by : StoodBy form follower triggers states e (only_output old) (only_output new)

-- The stream wasn't read to its end, and nothing was done.
pub record FollowedPart {D : Type 0} {g : Ghosts D} (triggers states : D) (e : Ended D g) (old new : Outside) : Type 0 where
  pub error : Unread
  pub status_is : e.status ≡ unread_status error
  pub why : IsUnread error old.left new.left
  pub triggers_stay : e.triggers ≡ triggers
  pub states_stay : e.states ≡ states
  pub untouched : only_output new ≡ only_output old

pub record RanFollow {D : Type 0} {g : Ghosts D} (form : Form) (triggers states : D) (e : Ended D g) (old new : Outside) : Type 0 where
  pub ran : FollowedWhole form triggers states e old new ⊎ FollowedPart triggers states e old new
  pub no_trail : trail_of e.trail ≡ []

-- this is the version that the bytes say, or 2 where their first five aren't all there
abbrev pub HasVersion : List ℕ → ℕ → Type 0
HasVersion bytes version = (told : Option ℕ) × IsVersionOf bytes told × (version ≡ version_or_two told)

-- What a crash leaves of the call's disks. One that began as a store does is left as it was. On another one there may be a store of this
-- form, which starts as what the bytes have, with the first of the entries that were taken of the bytes that were read, or of the first check-ins; at the end, where the
-- call tells so, with all.
pub record HeadlineOfStandby {D : Type 0} {g : Ghosts D} (form : Form) (triggers states : D) (e : Ended D g) (left left_now : Option (List ℕ)) : Type 0 where
  pub bytes : List ℕ
  pub read : Consumes left left_now bytes
  pub version : ℕ
  pub has_version : HasVersion bytes version
  pub start : SchedulerTables
  pub entries : List EntryData
  pub taken : HasTaken version bytes start entries
  pub keeps : KeepsStores g triggers e.triggers states e.states
  pub list : g.honest → LeavesFirst trigger_kind (list_in form version start entries) (g.state triggers) (g.state e.triggers)
  pub check_ins : g.honest → LeavesFirst state_kind (rows_beside start entries) (g.state states) (g.state e.states)
  pub at_end : MadeBoth e.status → g.honest → HoldsNow trigger_kind (list_in form version start entries) (g.state e.triggers) × HoldsNow state_kind (rows_beside start entries) (g.state e.states)

-- The header is there, no first part of the bytes has a fault that is seen in it, in the version that it says, and a base of the bytes
-- is whole where they end.
pub record IsRightStream (bytes : List ℕ) : Type 0 where
  pub long : 16 ≤ length bytes
  pub sound : (fed rest : List ℕ) (version : ℕ) (start : SchedulerTables) (entries : List EntryData) (x : FollowFault) → bytes ≡ fed ++ rest → HasVersion fed version → IsFault version fed start entries x → IsSeen x → ⊥
  pub whole : (fed rest : List ℕ) (f : Following) → bytes ≡ fed ++ rest → IsFollowed fed f → IsEnded f ⊎ (rest ≡ []) → missing_slot trigger_kind f.stage f.standing.slots f.standing.tail ≡ None

-- A store has room for the base of the bytes and their entries, if they have a base. (For the entries alone it has.)
abbrev pub HasRoomAgain : List ℕ → Type 0
HasRoomAgain bytes =
    (fed rest : List ℕ) (version : ℕ) (start : SchedulerTables) (entries : List EntryData) → bytes ≡ fed ++ rest → HasVersion fed version → HasTaken version fed start entries → start ≢ empty version
    → (need room : ℕ) → LacksAll start entries need room → ⊥
