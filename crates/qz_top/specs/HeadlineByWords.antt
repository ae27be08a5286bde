-- The headline of each call, by what its words ask for.
use Rattle.std.specs.Prelude.{◌≡◌, ◌⊎◌, ℕ, ℤ, List, [], ◌++◌, length, Option, Result, Ok, Err}
use Rattle.std.specs.List.{AllByRecursion}
use Rattle.qz_disk.specs.declared.disk.Disk.{Ghosts}
use Rattle.qz_disk.specs.Disk.{LeavesOnly}
use Rattle.qz_io.specs.Handlers.{IfKnown}
use Rattle.qz_io.specs.Outside.{Outside}
use Rattle.qz_document.specs.Document.{document_meaning}
use Rattle.qz_document.specs.declared.documents.Document.{Document}
use Rattle.qz_laws.specs.Losses.{AreExact}
use Rattle.qz_steps.specs.declared.steps.StepReply.{StepReply}
use Rattle.qz_types.specs.Entries.{EntryData, StateEntryData}
use Rattle.qz_types.specs.declared.commands.Command.{Command}
use Rattle.qz_trigger_store.specs.Bytes.{Whole, IsWhole, MayBe}
use Rattle.qz_trigger_store.specs.Entries.{TriggerState}
use Rattle.qz_trigger_store.specs.Opening.{IsOpened, IsSound}
use Rattle.qz_checkin.specs.Bytes.{Whole as WholeRows}
use Rattle.qz_cluster.specs.Found.{IsFoundIn}
use Rattle.qz_cluster.specs.Script.{TimedStep}
use Rattle.qz_cluster.specs.Steps.{ClusterState}
use Rattle.qz_standby.specs.declared.forms.Form.{Form}
use Rattle.qz_standby.specs.declared.forms.Form.TheVariants as form
use Rattle.qz_words.specs.declared.wishes.WordFault.{WordFault}
use Rattle.qz_words.specs.declared.wishes.Wish.{Wish}
use Rattle.qz_words.specs.declared.wishes.Wish.TheVariants as wish
use Rattle.qz_top.specs.Calls.{trail_of, RunsOneAtATime}
use Rattle.qz_top.specs.Clients.{client_steps}
use Rattle.qz_top.specs.Following.{MadeBoth, HeadlineOfStandby}
use Rattle.qz_top.specs.Found.{HoldWhole}
use Rattle.qz_top.specs.Headline.{Headline, HeadlineInMemory}
use Rattle.qz_top.specs.LineOutcomes.{IsOwn}
use Rattle.qz_top.specs.Lines.{IsGood, steps_of}
use Rattle.qz_top.specs.Making.{KeepsStores}
use Rattle.qz_top.specs.NodeRuns.{IsKept, IsKeptOnTheWay}
use Rattle.qz_top.specs.Runs.{Clocked, Reads, Writes, WrotePart, HandsOn}
use Rattle.qz_top.specs.Standing.{WereOpened, IsInOrder, OutlastsCrashes, HoldLonger}
use Rattle.qz_top.specs.declared.ended.Ended.{Ended}
use Rattle.qz_top.specs.declared.statuses.Status.{Status}
use Rattle.qz_top.specs.declared.statuses.Status.TheVariants as status

-- Bytes in: where the input's bytes are known, these are the first of its lines, all of them at Ok and DiskFault. Bytes out: the
-- replies, in order; at WriteFault and NoMemory the last one may be there in part or not at all.
pub record LinesAsk (s : Status) (old new : Outside) (steps : List TimedStep) (replies : List StepReply) : Type 0 where
  pub lines : List (List ℕ)
  pub good : AllByRecursion IsGood lines
  -- each step is done at its line's own reading, or at the next one of the clock
  pub readings : List ℤ
  pub steps_are : steps ≡ steps_of lines readings
  pub reads : Reads s old.left new.left lines
  pub clocked : Clocked s old.readings new.readings lines readings
  pub writes : Writes s old.held new.held replies
  pub hands_on : HandsOn s new

-- these are the first commands of the document on the input, if any was done
abbrev pub AreFirst : Option (List ℕ) → Option ℤ → List Command → List Command → Type 0
AreFirst input at done left =
    (done ≡ []) ⊎ ((document : Document) × IfKnown input (λ bytes. document_meaning bytes ≡ Ok document) × (document.at ≡ at) × (document.commands ≡ done ++ left))

-- The same of a document: its commands are done as steps of a client, at its own reading or at those of the clock.
pub record DocumentAsks (s : Status) (old new : Outside) (steps : List TimedStep) (replies : List StepReply) : Type 0 where
  pub at : Option ℤ
  pub done : List Command
  pub left : List Command
  pub document : AreFirst old.left at done left
  pub all : (s ≡ status.Ok) ⊎ (s ≡ status.DiskFault) → left ≡ []
  pub moments : List ℤ
  pub own : AllByRecursion (IsOwn at) moments
  pub steps_are : steps ≡ client_steps done moments
  pub writes : WrotePart old.held new.held replies

-- Both stores were opened, and entries were added to them by no steps of a script: by nodes that work, or for them. The disks are
-- `triggers'` and `states'` then.
pub record HeadlineOfWork {D : Type 0} (g : Ghosts D) (triggers states triggers' states' : D) : Type 0 where
  pub opened : ClusterState
  pub were_opened : WereOpened g triggers states opened
  pub end : ClusterState
  pub end_in_order : IsInOrder end
  -- no job with `no_concurrent` had two executions at once, on whatever nodes
  pub one_at_a_time : RunsOneAtATime end
  pub outlasts : OutlastsCrashes g triggers states triggers' states' end
  -- in the middle of it a crash leaves the opened histories with the first of what was added
  pub on_the_way : ∥ IsKeptOnTheWay g triggers states triggers' states' opened end ∥₁

-- The trigger store was opened, and upgraded if it was old. The premise is of its disk alone; the other one wasn't touched.
pub record HeadlineOfUpgrade {D : Type 0} {g : Ghosts D} (triggers states : D) (e : Ended D g) : Type 0 where
  pub opened : TriggerState
  pub is_opened : IsOpened opened
  pub found : g.honest → IsFoundIn (g.state triggers).content opened
  pub end : TriggerState
  pub sound : IsSound end
  pub recovered : ∥ AreExact end.history.base end.history.entries ∥₁
  pub faults : g.faults e.triggers ≡ end.faults
  pub at_end : g.honest → (w : Whole) → IsWhole w (g.state triggers).content → (b : List ℕ) → (g.state e.triggers).IsImage b → MayBe w end.history end.undecided b
  pub any_moment : g.honest → (w : Whole) → IsWhole w (g.state triggers).content → IsKept g triggers e.triggers (HoldLonger w)
  pub states_stay : e.states ≡ states

-- The disks were read at most: a crash at any moment of the call leaves what it could have left before.
pub record OnlyLooked {D : Type 0} {g : Ghosts D} (triggers states : D) (e : Ended D g) : Type 0 where
  pub triggers_stay : g.honest → LeavesOnly (g.state triggers) (g.state e.triggers) (g.state triggers).IsImage
  pub states_stay : g.honest → LeavesOnly (g.state states) (g.state e.states) (g.state states).IsImage

-- A store wasn't opened. On disks of the premise one of them failed or memory ran out.
pub record OpenedNone {D : Type 0} {g : Ghosts D} (triggers states : D) (e : Ended D g) : Type 0 where
  pub looked : OnlyLooked triggers states e
  pub why : (w : Whole) (v : WholeRows) → HoldWhole g triggers states w v → (e.status ≡ status.DiskFault) ⊎ (e.status ≡ status.NoMemory)

-- Stores were made of the input's bytes, or begun; or the disks were read at most, and the call doesn't tell that it made them.
abbrev pub MakesStandby : {D : Type 0} {g : Ghosts D} → Form → D → D → Ended D g → Option (List ℕ) → Option (List ℕ) → Type 0
MakesStandby form triggers states e left left_now = HeadlineOfStandby form triggers states e left left_now ⊎ (OnlyLooked triggers states e × (MadeBoth e.status → ⊥))

abbrev pub HeadlineOf : {D : Type 0} {g : Ghosts D} → Result Wish WordFault → D → D → Ended D g → Outside → Outside → Type 0
HeadlineOf (Ok wish.Own) triggers states e old new =
    OnlyLooked triggers states e × (HeadlineInMemory (LinesAsk e.status old new) (trail_of e.trail) ⊎ (e.status ≡ status.NoMemory))
HeadlineOf (Ok wish.Script) triggers states e old new = Headline (LinesAsk e.status old new) triggers states e ⊎ OpenedNone triggers states e
HeadlineOf (Ok wish.Load) triggers states e old new = Headline (DocumentAsks e.status old new) triggers states e ⊎ OpenedNone triggers states e
HeadlineOf {g = g} (Ok (wish.Run nodes from until budget)) triggers states e old new =
    HeadlineOfWork g triggers states e.triggers e.states ⊎ OpenedNone triggers states e ⊎ (OnlyLooked triggers states e × (e.status ≡ status.OldStore))
HeadlineOf {g = g} (Ok (wish.Gen seed jobs days)) triggers states e old new = HeadlineOfWork g triggers states e.triggers e.states ⊎ OpenedNone triggers states e
HeadlineOf (Ok wish.Migrate) triggers states e old new = HeadlineOfUpgrade triggers states e ⊎ OnlyLooked triggers states e
HeadlineOf {g = g} (Ok wish.Init) triggers states e old new = KeepsStores g triggers e.triggers states e.states
HeadlineOf (Ok wish.Follow) triggers states e old new = MakesStandby form.Entries triggers states e old.left new.left
HeadlineOf (Ok wish.Compact) triggers states e old new = MakesStandby form.Snapshot triggers states e old.left new.left
-- the others work on no store
HeadlineOf w triggers states e old new = OnlyLooked triggers states e
