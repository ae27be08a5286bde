-- One transaction of a step: what the step answers, and which epochs are held then.
use Rattle.std.specs.Prelude.{⊤, ◌≡◌, Bool, true, false, List, Ok, Err}
use Rattle.std.specs.declared.result.Result.{Result}
use Rattle.qz_types.specs.Rows.{MemberData}
use Rattle.qz_types.specs.Entries.{EntryData, StateEntryData}
use Rattle.qz_types.specs.declared.commands.Command.{Command}
use Rattle.qz_types.specs.declared.commands.Command.TheVariants as command
use Rattle.qz_types.specs.declared.errors.SubmitError.{SubmitError}
use Rattle.qz_types.specs.declared.errors.SubmitError.TheVariants as submit
use Rattle.qz_types.specs.declared.replies.Reply.{Reply}
use Rattle.qz_types.specs.declared.replies.Reply.TheVariants as answer
use Rattle.qz_steps.specs.declared.steps.StepReply.{StepReply}
use Rattle.qz_steps.specs.declared.steps.StepReply.TheVariants as reply
use Rattle.qz_trigger_store.specs.Entries.{TriggerState, trigger_entry}
use Rattle.qz_checkin.specs.Entries.{StatesState, of_states}
use Rattle.qz_stores.specs.Stores.{EntryKind, StoreState, Appends, Refuses, Overflows, Starves, Fails, Stops}
use Rattle.qz_cluster.specs.declared.errors.StepEnd.{StepEnd}
use Rattle.qz_cluster.specs.declared.errors.StepEnd.TheVariants as ends

-- what a store made of an entry that it didn't accept, where the step was answered so
abbrev pub Declined : {H E R : Type 0} → EntryKind H E R → E → StepReply → StoreState H E → StoreState H E → Type 0
Declined kind e (reply.Ok r) s t = ⊥
Declined kind e (reply.Refused refusal) s t = Refuses kind e refusal s t
Declined kind e reply.Fault s t = Fails kind e s t
Declined kind e reply.Closed s t = Stops s t
Declined kind e reply.Stopped s t = ⊥
Declined kind e reply.Restarted s t = ⊥
Declined kind e (reply.Shown shown) s t = ⊥
Declined kind e (reply.Marked marked) s t = ⊥
Declined kind e (reply.Room room) s t = ⊥

-- what the trigger store made of an entry
abbrev pub Submitted : EntryData → StepReply → TriggerState → TriggerState → Type 0
Submitted e (reply.Ok r) s t = Appends trigger_entry e r s t
Submitted e r s t = Declined trigger_entry e r s t

-- what the state store made of an entry, behind which the step has no other
abbrev pub StatesSubmitted : StateEntryData → StepReply → StatesState → StatesState → Type 0
StatesSubmitted e (reply.Ok r) s t = Appends of_states e tt s t × (r ≡ answer.Done)
StatesSubmitted e r s t = Declined of_states e r s t

-- what a store made of an entry that found no room or no memory
abbrev pub Unsubmitted : {H E R : Type 0} → EntryKind H E R → E → StepEnd → StoreState H E → StoreState H E → Type 0
Unsubmitted kind e (ends.JournalFull need room) s t = Overflows kind e need room s t
Unsubmitted kind e (ends.NotAStore store) s t = ⊥
Unsubmitted kind e (ends.Damaged store at) s t = ⊥
Unsubmitted kind e ends.NoMemory s t = Starves kind e s t

-- what comes of a step whose entry wasn't accepted
abbrev pub unaccepted : SubmitError → Result StepReply StepEnd
unaccepted (submit.Closed at) = Ok reply.Closed
unaccepted (submit.Refused refusal) = Ok (reply.Refused refusal)
unaccepted (submit.JournalFull need room) = Err (ends.JournalFull need room)
unaccepted submit.NoMemory = Err ends.NoMemory
unaccepted submit.Fault = Ok reply.Fault

-- what comes of a step that ends at the state store, by the store's answer
abbrev pub answered : Result ⊤ SubmitError → Result StepReply StepEnd
answered (Ok _) = Ok (reply.Ok answer.Done)
answered (Err x) = unaccepted x

-- the epochs that are held after a step was answered so: after its transaction, after a fault, and else
abbrev pub held_by : StepReply → (Reply → List MemberData) → List MemberData → List MemberData → List MemberData
held_by (reply.Ok r) done failed held = done r
held_by reply.Fault done failed held = failed
held_by r done failed held = held

-- the member leaves
abbrev pub is_leave : Command → Bool
is_leave command.Leave = true
is_leave c = false
