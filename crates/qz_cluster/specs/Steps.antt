-- One step of a script at the cluster: what it answers, and what it makes of both stores and of the held epochs.
use Rattle.std.specs.Prelude.{◌≡◌, ◌⊎◌, ℕ, ◌+◌, ℤ, true, false, Bool, not, ◌&&◌, ◌||◌, IsTrue, List, [], length, Option, Some, None, is_none}
use Rattle.qz_civil.specs.Causes.{Rose}
use Rattle.qz_journal.specs.Commits.{LackRoom, HaveRoom}
use Rattle.qz_types.specs.Rows.{MemberData}
use Rattle.qz_types.specs.Entries.{EntryData, StateEntryData}
use Rattle.qz_types.specs.Words.{member_of, without_member}
use Rattle.qz_types.specs.declared.commands.Actor.TheVariants as actor
use Rattle.qz_types.specs.declared.commands.Command.{Command}
use Rattle.qz_types.specs.declared.commands.Command.TheVariants as command
use Rattle.qz_types.specs.declared.replies.Reply.{Reply}
use Rattle.qz_types.specs.declared.replies.Reply.TheVariants as answer
use Rattle.qz_types.specs.declared.replies.Refusal.{Refusal}
use Rattle.qz_steps.specs.Steps.{is_step}
use Rattle.qz_steps.specs.declared.questions.Question.{Question}
use Rattle.qz_steps.specs.declared.questions.Shown.{Shown}
use Rattle.qz_steps.specs.declared.rooms.Marked.{Marked}
use Rattle.qz_steps.specs.declared.rooms.Marked.TheVariants.{Made, NoRoom}
use Rattle.qz_steps.specs.declared.rooms.Room.{Room}
use Rattle.qz_steps.specs.declared.steps.Step.{Step}
use Rattle.qz_steps.specs.declared.steps.Step.TheVariants.{Client, Join, CheckIn, Node, Forget, Stop, Restart, Resume, Show, Checkpoint, ShowRoom}
use Rattle.qz_steps.specs.declared.steps.StepReply.{StepReply}
use Rattle.qz_steps.specs.declared.steps.StepReply.TheVariants as reply
use Rattle.qz_snapshot.specs.Checkpoints.{snapshot_written}
use Rattle.qz_stores.specs.Bases.{Opens}
use Rattle.qz_stores.specs.Checkpoints.{Marks, Breaks, Declines}
use Rattle.qz_stores.specs.Stores.{Same, Appends, Refuses, Overflows, Starves, Fails, Shuts}
use Rattle.qz_model.specs.History.{replay}
use Rattle.qz_trigger_store.specs.Entries.{TriggerState, trigger_entry}
use Rattle.qz_trigger_store.specs.Kinds.{trigger_kind}
use Rattle.qz_trigger_store.specs.Opening.{IsOpened}
use Rattle.qz_checkin.specs.Entries.{StatesState, of_states}
use Rattle.qz_checkin.specs.Kinds.{state_kind}
use Rattle.qz_checkin.specs.History.{replay_states}
use Rattle.qz_checkin.specs.Rows.{StateTables, state_moment}
use Rattle.qz_checkin.specs.Lateness.{fresh_refusal}
use Rattle.qz_checkin.specs.Opening.{IsOpened as AreOpened}
use Rattle.qz_cluster.specs.Asking.{answer_to, has_row, resume_refusal, held_after_resume}
use Rattle.qz_cluster.specs.Script.{TimedStep, held_after_join, held_after_command, entry_of, check_in_entry, forget_entry, member_refusal}
use Rattle.qz_cluster.specs.Rooms.{room_of}
use Rattle.qz_cluster.specs.declared.errors.StepEnd.{StepEnd}
use Rattle.qz_cluster.specs.declared.errors.StepEnd.TheVariants as ends

-- both stores, and under which epoch each node works
pub record ClusterState : Type 0 where
  pub triggers : TriggerState
  pub states : StatesState
  pub held : List MemberData
  -- how many entries of the trigger store came after its last snapshot, or in all where there is none
  pub behind : ℕ
  -- there are stores: a restart that failed leaves none
  pub standing : Bool

-- two stores on which no script works: no node of one holds an epoch, and how far a snapshot is behind isn't told
abbrev pub without_script : TriggerState → StatesState → ClusterState
without_script triggers states = record { triggers = triggers; states = states; held = []; behind = 0; standing = true }

-- a store is closed
abbrev pub is_closed : ClusterState → Bool
is_closed S = not S.triggers.is_open || not S.states.is_open

-- What a step needs.

abbrev pub is_recover : Command → Bool
is_recover (command.Recover failed) = true
is_recover c = false

abbrev pub needs_triggers : Step → Bool
needs_triggers (Client c) = true
needs_triggers (Join node interval) = true
needs_triggers (CheckIn node interval) = false
needs_triggers (Node node c) = true
needs_triggers (Forget node failed) = true
needs_triggers (Stop node) = false
needs_triggers Restart = false
needs_triggers (Resume node epoch) = true
needs_triggers (Show question) = true
needs_triggers Checkpoint = true
needs_triggers ShowRoom = false

abbrev pub needs_states : Step → Bool
needs_states (Client c) = false
needs_states (Join node interval) = true
needs_states (CheckIn node interval) = true
needs_states (Node node c) = is_recover c
needs_states (Forget node failed) = true
needs_states (Stop node) = false
needs_states Restart = false
needs_states (Resume node epoch) = false
needs_states (Show question) = false
needs_states Checkpoint = false
needs_states ShowRoom = false

-- A store is closed that the step needs. How full the stores are is told as long as there are any, closed or not.
abbrev pub is_closed_for : Step → ClusterState → Bool
is_closed_for ShowRoom S = not S.standing
is_closed_for step S = (needs_triggers step && not S.triggers.is_open) || (needs_states step && not S.states.is_open)

-- the step needs that its node holds an epoch, and it holds none
abbrev pub is_unheld : Step → List MemberData → Bool
is_unheld (Client c) held = false
is_unheld (Join node interval) held = false
is_unheld (CheckIn node interval) held = is_none (member_of node held)
is_unheld (Node node c) held = is_none (member_of node held)
is_unheld (Forget node failed) held = is_none (member_of node held)
is_unheld (Stop node) held = is_none (member_of node held)
is_unheld Restart held = false
is_unheld (Resume node epoch) held = false
is_unheld (Show question) held = false
is_unheld Checkpoint held = false
is_unheld ShowRoom held = false

abbrev pub is_restart : Step → Bool
is_restart Restart = true
is_restart step = false

-- the step asks: for what is stored, for a snapshot, or for how full the stores are
abbrev pub is_asking : Step → Bool
is_asking (Show question) = true
is_asking Checkpoint = true
is_asking ShowRoom = true
is_asking step = false

-- The step neither reads nor writes a disk.
abbrev pub is_quiet : Step → Bool
is_quiet (Stop node) = true
is_quiet (Resume node epoch) = true
is_quiet (Show question) = true
is_quiet ShowRoom = true
is_quiet step = false

-- What a step does: it may be refused before it submits anything; then it submits one entry or none on the state store,
-- and then one or none on the trigger store.

abbrev pub rows_of : ClusterState → StateTables
rows_of S = replay_states S.states.history

-- the node that is to be recovered isn't late, or isn't known
abbrev pub command_refusal : ClusterState → List ℕ → Command → ℤ → Option Refusal
command_refusal S node (command.Recover failed) at = fresh_refusal (rows_of S) (state_moment (rows_of S) at) node failed
command_refusal S node c at = None

abbrev pub first_refusal : ClusterState → Step → ℤ → Option Refusal
first_refusal S (Client c) at = None
first_refusal S (Join node interval) at = None
first_refusal S (CheckIn node interval) at = None
first_refusal S (Node node c) at = command_refusal S node c at
first_refusal S (Forget node failed) at = member_refusal (replay S.triggers.history) failed
first_refusal S (Stop node) at = None
first_refusal S Restart at = None
first_refusal S (Resume node epoch) at = resume_refusal (replay S.triggers.history) S.held node epoch
first_refusal S (Show question) at = None
first_refusal S Checkpoint at = None
first_refusal S ShowRoom at = None

abbrev pub state_entry_of_step : ClusterState → Step → ℤ → Option StateEntryData
state_entry_of_step S (Client c) at = None
state_entry_of_step S (Join node interval) at = Some (check_in_entry node interval at)
state_entry_of_step S (CheckIn node interval) at = Some (check_in_entry node interval at)
state_entry_of_step S (Node node c) at = None
state_entry_of_step S (Forget node failed) at = Some (forget_entry (rows_of S) failed at)
state_entry_of_step S (Stop node) at = None
state_entry_of_step S Restart at = None
state_entry_of_step S (Resume node epoch) at = None
state_entry_of_step S (Show question) at = None
state_entry_of_step S Checkpoint at = None
state_entry_of_step S ShowRoom at = None

-- what a member submits
abbrev pub entry_of_member : Option MemberData → Command → ℤ → Option EntryData
entry_of_member None c at = None
entry_of_member (Some me) c at = Some (entry_of (actor.Node me) c at)

abbrev pub entry_of_step : List MemberData → Step → ℤ → Option EntryData
entry_of_step held (Client c) at = Some (entry_of actor.Client c at)
entry_of_step held (Join node interval) at = Some (entry_of actor.Client (command.Join node) at)
entry_of_step held (CheckIn node interval) at = None
entry_of_step held (Node node c) at = entry_of_member (member_of node held) c at
entry_of_step held (Forget node failed) at = None
entry_of_step held (Stop node) at = None
entry_of_step held Restart at = None
entry_of_step held (Resume node epoch) at = None
entry_of_step held (Show question) at = None
entry_of_step held Checkpoint at = None
entry_of_step held ShowRoom at = None

-- Which epochs are held then.

-- after the step was answered so: a join gives its node a new one, a node that goes on has the one that it named, and a
-- node that left or stopped holds none
abbrev pub held_after : Step → List MemberData → Reply → List MemberData
held_after (Client c) held r = held
held_after (Join node interval) held r = held_after_join node held r
held_after (CheckIn node interval) held r = held
held_after (Node node c) held r = held_after_command node c held
held_after (Forget node failed) held r = held
held_after (Stop node) held r = without_member node held
held_after Restart held r = []
held_after (Resume node epoch) held r = held_after_resume node epoch held
held_after (Show question) held r = held
held_after Checkpoint held r = held
held_after ShowRoom held r = held

-- after its entry on the trigger store met a fault: a join that may be on the disk or not leaves its node without one
abbrev pub held_after_fault : Step → List MemberData → List MemberData
held_after_fault (Join node interval) held = without_member node held
held_after_fault step held = held

-- Nothing has changed except the counts of faults.
pub record StoresStay (S S' : ClusterState) : Type 0 where
  pub triggers : Same S.triggers S'.triggers
  pub states : Same S.states S'.states

pub record Stays (S S' : ClusterState) : Type 0 where
  pub stores : StoresStay S S'
  pub held : S'.held ≡ S.held

-- the parts of a snapshot of a trigger store as it is
abbrev pub snapshot_here : TriggerState → List (List ℕ)
snapshot_here s = snapshot_written (replay s.history) s.payloads (s.history.base_count + length s.history.entries)

-- Each case of a step says which stores it needs, which entries it submitted on which of them, and what that came to. Of
-- the cases the first holds that can.

-- A store is closed that the step needs. Nothing is done.
pub record ClosedStep (t : TimedStep) (S S' : ClusterState) : Type 0 where
  pub needs_closed : is_closed_for t.step S ≡ true
  pub stays : Stays S S'

-- The step is one of a node that holds no epoch. Nothing is done.
pub record StoppedStep (t : TimedStep) (S S' : ClusterState) : Type 0 where
  pub needs_open : is_closed_for t.step S ≡ false
  pub unheld : is_unheld t.step S.held ≡ true
  pub stays : Stays S S'

-- the step is neither closed nor stopped, it isn't a restart, and it asks for nothing
pub record IsAllowed (t : TimedStep) (S : ClusterState) : Type 0 where
  pub needs_open : is_closed_for t.step S ≡ false
  pub is_held : is_unheld t.step S.held ≡ false
  pub works : is_restart t.step ≡ false
  pub acts : is_asking t.step ≡ false

-- ... nor refused before it submits anything
pub record Submits (t : TimedStep) (S : ClusterState) : Type 0 where
  pub allowed : IsAllowed t S
  pub unrefused : first_refusal S t.step t.at ≡ None

-- the step's entry on the state store, if it has one, is appended
abbrev pub StatesDone : Option StateEntryData → StatesState → StatesState → Type 0
StatesDone None s s' = Same s s'
StatesDone (Some e) s s' = Appends of_states e tt s s'

-- its entry on the trigger store, if it has one, is appended with this reply
abbrev pub TriggersDone : Option EntryData → Reply → TriggerState → TriggerState → Type 0
TriggersDone None r s s' = Same s s' × (r ≡ answer.Done)
TriggersDone (Some e) r s s' = Appends trigger_entry e r s s'

-- The step ends at its entry on the state store, which came to this.
pub record AtStates (CameTo : StateEntryData → StatesState → StatesState → Type 0) (t : TimedStep) (S S' : ClusterState) : Type 0 where
  pub entry : StateEntryData
  pub asked : state_entry_of_step S t.step t.at ≡ Some entry
  pub states : CameTo entry S.states S'.states
  pub triggers : Same S.triggers S'.triggers
  pub held : S'.held ≡ S.held

-- It ends at its entry on the trigger store, which came to this; that on the state store, if it has one, is appended.
pub record AtTriggers (CameTo : EntryData → TriggerState → TriggerState → Type 0) (held : List MemberData) (t : TimedStep) (S S' : ClusterState) : Type 0 where
  pub states : StatesDone (state_entry_of_step S t.step t.at) S.states S'.states
  pub entry : EntryData
  pub asked : entry_of_step S.held t.step t.at ≡ Some entry
  pub triggers : CameTo entry S.triggers S'.triggers
  pub held_is : S'.held ≡ held

-- It is refused before it submits anything.
pub record RefusedFirst (t : TimedStep) (refusal : Refusal) (S S' : ClusterState) : Type 0 where
  pub allowed : IsAllowed t S
  pub refused : first_refusal S t.step t.at ≡ Some refusal
  pub stays : Stays S S'

-- An entry of it is refused. A join whose second entry is refused has checked in.
pub record EntryRefused (t : TimedStep) (refusal : Refusal) (S S' : ClusterState) : Type 0 where
  pub submits : Submits t S
  pub which : AtStates (λ e s s'. Refuses of_states e refusal s s') t S S'
      ⊎ AtTriggers (λ e s s'. Refuses trigger_entry e refusal s s') S.held t S S'

-- The step is done.
pub record AcceptedStep (t : TimedStep) (r : Reply) (S S' : ClusterState) : Type 0 where
  pub submits : Submits t S
  pub states : StatesDone (state_entry_of_step S t.step t.at) S.states S'.states
  pub triggers : TriggersDone (entry_of_step S.held t.step t.at) r S.triggers S'.triggers
  pub held : S'.held ≡ held_after t.step S.held r

-- The step asks for what is stored, and is answered by the tables as they are. Nothing is done.
pub record AnsweredStep (t : TimedStep) (s : Shown) (S S' : ClusterState) : Type 0 where
  pub needs_open : is_closed_for t.step S ≡ false
  pub question : Question
  pub asked : t.step ≡ Show question
  pub shown : s ≡ answer_to (replay S.triggers.history) question
  pub stays : Stays S S'

-- A snapshot of the tables was made, or it has no room and nothing was done.
abbrev pub IsMarked : Marked → ClusterState → ClusterState → Type 0
IsMarked Made S S' =
    Marks S.triggers S'.triggers × HaveRoom (snapshot_here S.triggers) S.triggers.gate S.triggers.payloads × (S'.behind ≡ 0)
IsMarked NoRoom S S' =
    Declines S.triggers S'.triggers × LackRoom (snapshot_here S.triggers) S.triggers.gate S.triggers.payloads × (S'.behind ≡ S.behind)

-- The step asks for a snapshot. Nothing but the disk of triggers has changed: the histories and the held epochs are as they were.
pub record MarkedStep (t : TimedStep) (m : Marked) (S S' : ClusterState) : Type 0 where
  pub asked : t.step ≡ Checkpoint
  pub marked : IsMarked m S S'
  pub states : S'.states ≡ S.states
  pub held : S'.held ≡ S.held

-- The disk failed in it: the trigger store is closed, with its history and no undecided entry.
pub record BrokenStep (t : TimedStep) (S S' : ClusterState) : Type 0 where
  pub asked : t.step ≡ Checkpoint
  pub breaks : Breaks S.triggers S'.triggers
  pub states : S'.states ≡ S.states
  pub held : S'.held ≡ S.held

-- The step asks how full the stores are, and there are some, open or closed. It is answered by both as they are, and nothing is done.
pub record RoomStep (t : TimedStep) (room : Room) (S S' : ClusterState) : Type 0 where
  pub asked : t.step ≡ ShowRoom
  pub standing : S.standing ≡ true
  pub room_is : room ≡ room_of S.triggers S.behind S.states
  pub same : S' ≡ S

-- An entry of it would be accepted, and the disk failed.
pub record FailedStep (t : TimedStep) (S S' : ClusterState) : Type 0 where
  pub submits : Submits t S
  pub which : AtStates (Fails of_states) t S S' ⊎ AtTriggers (Fails trigger_entry) (held_after_fault t.step S.held) t S S'

-- Both disks restarted, and both stores were opened anew. Where the disks tell what they hold, each history is an end of the
-- whole list that the one before is an end of, or of that list with the entry of which it wasn't known whether the disk has it.
pub record RestartedStep (honest : Type 0) (t : TimedStep) (S S' : ClusterState) : Type 0 where
  pub asked : is_restart t.step ≡ true
  pub triggers : Opens trigger_kind honest S.triggers S'.triggers
  pub states : Opens state_kind honest S.states S'.states
  pub are_triggers : IsOpened S'.triggers
  pub are_states : AreOpened S'.states
  pub held : S'.held ≡ []

-- both stores are closed, each with its history and its undecided entry
pub record BothShut (S S' : ClusterState) : Type 0 where
  pub triggers : Shuts S.triggers S'.triggers
  pub states : Shuts S.states S'.states
  pub held : S'.held ≡ []

-- A disk failed in a restart.
pub record FailedRestart (t : TimedStep) (S S' : ClusterState) : Type 0 where
  pub asked : is_restart t.step ≡ true
  pub shut : BothShut S S'
  pub rose : Rose S.triggers.faults S'.triggers.faults ⊎ Rose S.states.faults S'.states.faults

abbrev pub StepCase : Type 0 → TimedStep → StepReply → ClusterState → ClusterState → Type 0
StepCase honest t reply.Closed S S' = ClosedStep t S S'
StepCase honest t reply.Stopped S S' = StoppedStep t S S'
StepCase honest t (reply.Refused refusal) S S' = RefusedFirst t refusal S S' ⊎ EntryRefused t refusal S S'
StepCase honest t (reply.Ok r) S S' = AcceptedStep t r S S'
StepCase honest t reply.Fault S S' = FailedStep t S S' ⊎ FailedRestart t S S' ⊎ BrokenStep t S S'
StepCase honest t reply.Restarted S S' = RestartedStep honest t S S'
StepCase honest t (reply.Shown s) S S' = AnsweredStep t s S S'
StepCase honest t (reply.Marked m) S S' = MarkedStep t m S S'
StepCase honest t (reply.Room room) S S' = RoomStep t room S S'

-- whether there are stores after a step was answered so: a restart that failed leaves none
abbrev pub standing_after : Step → StepReply → Bool → Bool
standing_after Restart reply.Restarted was = true
standing_after Restart reply.Fault was = false
standing_after step r was = was

-- A valid step at its reading of the clock was answered so. Whether the disks tell what they hold matters to a
-- restart alone.
pub record IsStep (honest : Type 0) (t : TimedStep) (r : StepReply) (S S' : ClusterState) : Type 0 where
  pub valid : IsTrue (is_step t.step)
  pub case : StepCase honest t r S S'
  pub standing : S'.standing ≡ standing_after t.step r S.standing

-- How a step may have no answer, which ends the run. A join whose second entry came to this has checked in.

-- An entry of it would be accepted, and its record finds no room.
pub record OverflowedStep (t : TimedStep) (need room : ℕ) (S S' : ClusterState) : Type 0 where
  pub submits : Submits t S
  pub which : AtStates (λ e s s'. Overflows of_states e need room s s') t S S'
      ⊎ AtTriggers (λ e s s'. Overflows trigger_entry e need room s s') S.held t S S'

-- An entry of it would be accepted, and there is no memory for it.
pub record StarvedStep (t : TimedStep) (S S' : ClusterState) : Type 0 where
  pub submits : Submits t S
  pub which : AtStates (Starves of_states) t S S' ⊎ AtTriggers (Starves trigger_entry) S.held t S S'

-- what the step takes memory for beside an entry: the row of a node that goes on, a row that is shown, or a snapshot
abbrev pub takes_row : ClusterState → Step → Bool
takes_row S (Resume node epoch) = true
takes_row S (Show question) = has_row (answer_to (replay S.triggers.history) question)
takes_row S Checkpoint = true
takes_row S step = false

-- It has no entry and isn't refused, and there was no memory for that. Nothing is done.
pub record StarvedRow (t : TimedStep) (S S' : ClusterState) : Type 0 where
  pub needs_open : is_closed_for t.step S ≡ false
  pub unrefused : first_refusal S t.step t.at ≡ None
  pub takes : takes_row S t.step ≡ true
  pub stays : Stays S S'

-- There was no memory for a restart.
pub record StarvedRestart (t : TimedStep) (S S' : ClusterState) : Type 0 where
  pub asked : is_restart t.step ≡ true
  pub shut : BothShut S S'

-- A disk has no store any more, or a damaged one. A disk that tells what it holds always has what was acknowledged.
pub record LostStore (honest : Type 0) (t : TimedStep) (S S' : ClusterState) : Type 0 where
  pub asked : is_restart t.step ≡ true
  pub shut : BothShut S S'
  pub dishonest : honest → ⊥

abbrev pub EndCase : Type 0 → TimedStep → StepEnd → ClusterState → ClusterState → Type 0
EndCase honest t (ends.JournalFull need room) S S' = OverflowedStep t need room S S'
EndCase honest t (ends.NotAStore store) S S' = LostStore honest t S S'
EndCase honest t (ends.Damaged store at) S S' = LostStore honest t S S'
EndCase honest t ends.NoMemory S S' = StarvedStep t S S' ⊎ StarvedRow t S S' ⊎ StarvedRestart t S S'

-- a valid step at its reading of the clock has no answer
pub record IsCutShort (honest : Type 0) (t : TimedStep) (end : StepEnd) (S S' : ClusterState) : Type 0 where
  pub valid : IsTrue (is_step t.step)
  pub case : EndCase honest t end S S'
