-- A script's steps, one after the other, along one history of each store: what a scheduler that knows no disk replies.
use Rattle.std.specs.Prelude.{ℕ, ℤ, List, [], ◌∷◌, Option, Some, None, is_some, if◌then◌else◌}
use Rattle.qz_types.specs.Rows.{MemberData}
use Rattle.qz_types.specs.Entries.{EntryData, StateEntryData}
use Rattle.qz_types.specs.declared.commands.Command.{Command}
use Rattle.qz_types.specs.declared.commands.Command.TheVariants as command
use Rattle.qz_types.specs.declared.commands.Actor.{Actor}
use Rattle.qz_types.specs.declared.commands.Actor.TheVariants as actor
use Rattle.qz_types.specs.declared.replies.Reply.{Reply}
use Rattle.qz_types.specs.declared.replies.Reply.TheVariants as reply
use Rattle.qz_types.specs.declared.replies.Refusal.{Refusal}
use Rattle.qz_types.specs.declared.replies.Refusal.TheVariants.{StillMember}
use Rattle.qz_types.specs.declared.states.StateCommand.{StateCommand}
use Rattle.qz_types.specs.declared.states.StateCommand.TheVariants as state_command
use Rattle.qz_types.specs.Tables.{SchedulerTables}
use Rattle.qz_types.specs.Outcomes.{Outcome, accepted, refused}
use Rattle.qz_types.specs.Words.{member_of, put_member, without_member}
use Rattle.qz_steps.specs.declared.steps.Step.{Step}
use Rattle.qz_steps.specs.declared.steps.Step.TheVariants.{Client, Join, CheckIn, Node, Forget, Stop, Restart, Resume, Show, Checkpoint, ShowRoom}
use Rattle.qz_steps.specs.declared.steps.StepReply.{StepReply}
use Rattle.qz_steps.specs.declared.steps.StepReply.TheVariants as step_reply
use Rattle.qz_model.specs.Transaction.{transaction}
use Rattle.qz_model.specs.Upgrading.{version_refusal}
use Rattle.qz_model.specs.History.{History, history_of_version, with_entry, replay}
use Rattle.qz_checkin.specs.Rows.{StateTables, StateOutcome, state_of, state_moment, state_transaction}
use Rattle.qz_checkin.specs.Rows as rows
use Rattle.qz_checkin.specs.Lateness.{last_of, fresh_refusal}
use Rattle.qz_checkin.specs.History.{StateHistory, new_state_history, with_state_entry, replay_states}
use Rattle.qz_cluster.specs.Asking.{answer_to, resume_refusal, held_after_resume}

-- a step with the reading of the clock that it is done at
pub record TimedStep : Type 0 where
  pub step : Step
  pub at : ℤ

-- A step about the disks, of which a plain scheduler knows nothing: a snapshot is to be made, or it is asked how full they are.
-- Such a scheduler answers `closed`. These are replies with that in place of what the disks said.
abbrev pub plain_reply : Step → StepReply → StepReply
plain_reply Checkpoint r = step_reply.Closed
plain_reply ShowRoom r = step_reply.Closed
plain_reply step r = r

-- the same of the replies of steps, in order
abbrev pub plain_replies : List TimedStep → List StepReply → List StepReply
plain_replies [] rs = rs
plain_replies (t ∷ ts) [] = []
plain_replies (t ∷ ts) (r ∷ rs) = plain_reply t.step r ∷ plain_replies ts rs

-- both histories so far, and under which epoch each node that joined in this script works
pub record ScriptState : Type 0 where
  pub history : History
  pub states : StateHistory
  pub held : List MemberData

-- a script on new stores of this format version
abbrev pub new_script : ℕ → ScriptState
new_script version = record { history = history_of_version version; states = new_state_history; held = [] }

-- The effect of a step: its reply, the entry that it appends to each history, if it appends one, and the epochs that
-- are held after it.
pub record StepEffect : Type 0 where
  pub reply : StepReply
  pub entry : Option EntryData
  pub state_entry : Option StateEntryData
  pub held : List MemberData

-- Which epochs are held.

-- the node holds this epoch, and not the one that it may have held before
unfoldable pub hold : List ℕ → ℕ → List MemberData → List MemberData
hold node epoch held = put_member (record { node = node; epoch = epoch }) (without_member node held)

-- after a join was answered so
abbrev pub held_after_join : List ℕ → List MemberData → Reply → List MemberData
held_after_join node held (reply.Joined epoch executions triggers) = hold node epoch held
held_after_join node held r = held

-- after a node's command was accepted: a node that left holds none
abbrev pub held_after_command : List ℕ → Command → List MemberData → List MemberData
held_after_command node command.Leave held = without_member node held
held_after_command node c held = held

-- What is submitted.

-- the entry that a script makes of a command
abbrev pub entry_of : Actor → Command → ℤ → EntryData
entry_of who c at = record { at = at; actor = who; seat = 0; command = c }

abbrev pub state_entry_of : StateCommand → ℤ → StateEntryData
state_entry_of c at = record { at = at; seat = 0; command = c }

abbrev pub check_in_entry : List ℕ → ℤ → ℤ → StateEntryData
check_in_entry node interval at = state_entry_of (state_command.CheckIn node interval) at

-- a node is forgotten with the last check-in that it has now
abbrev pub forget_entry : StateTables → List ℕ → ℤ → StateEntryData
forget_entry S failed at = state_entry_of (state_command.Forget failed (last_of (state_of failed S.rows))) at

-- a member isn't forgotten
unfoldable pub member_refusal : SchedulerTables → List ℕ → Option Refusal
member_refusal T failed = if is_some (member_of failed T.members) then Some StillMember else None

-- Effects.

-- a step that has no transaction
abbrev pub done : List MemberData → StepEffect
done held = record { reply = step_reply.Ok reply.Done; entry = None; state_entry = None; held = held }

-- a step about the disks: there are none, and nothing is done
abbrev pub without_disk : List MemberData → StepEffect
without_disk held = record { reply = step_reply.Closed; entry = None; state_entry = None; held = held }

-- it is refused, and nothing is done
abbrev pub refuse : Refusal → List MemberData → StepEffect
refuse refusal held = record { reply = step_reply.Refused refusal; entry = None; state_entry = None; held = held }

abbrev pub unless : Option Refusal → List MemberData → StepEffect → StepEffect
unless None held effect = effect
unless (Some refusal) held effect = refuse refusal held

-- an accepted entry is appended; a refused one changes nothing
abbrev pub effect_of : EntryData → List MemberData → (Reply → List MemberData) → Outcome → StepEffect
effect_of e held held_after (accepted T r) = record { reply = step_reply.Ok r; entry = Some e; state_entry = None; held = held_after r }
effect_of e held held_after (refused refusal) = refuse refusal held

-- The same, where the version of the store doesn't refuse it before.
unfoldable pub submit : SchedulerTables → List MemberData → EntryData → (Reply → List MemberData) → StepEffect
submit T held e held_after = unless (version_refusal T e.command) held (effect_of e held held_after (transaction T e))

-- the same of the state store; where it is accepted, the step goes on
abbrev pub effect_of_states : StateEntryData → List MemberData → StateOutcome → StepEffect → StepEffect
effect_of_states e held (rows.accepted S) effect = record effect { state_entry = Some e }
effect_of_states e held (rows.refused refusal) effect = refuse refusal held

unfoldable pub submit_state : StateTables → List MemberData → StateEntryData → StepEffect → StepEffect
submit_state S held e effect = effect_of_states e held (state_transaction S e) effect

-- a node that holds no epoch is stopped, and nothing is done
abbrev pub as_holder : List MemberData → Option MemberData → (MemberData → StepEffect) → StepEffect
as_holder held None effect = record { reply = step_reply.Stopped; entry = None; state_entry = None; held = held }
as_holder held (Some me) effect = effect me

-- what a node's command comes to; the node that is to be recovered has to be late
abbrev pub effect_of_command : SchedulerTables → StateTables → List MemberData → List ℕ → MemberData → Command → ℤ → StepEffect
effect_of_command T S held node me (command.Recover failed) at =
    unless (fresh_refusal S (state_moment S at) node failed) held (submit T held (entry_of (actor.Node me) (command.Recover failed) at) (λ _. held))
effect_of_command T S held node me c at = submit T held (entry_of (actor.Node me) c at) (λ _. held_after_command node c held)

-- a step at these tables, rows and held epochs, with its reading of the clock
abbrev pub step_effect : SchedulerTables → StateTables → List MemberData → Step → ℤ → StepEffect
step_effect T S held (Client c) at = submit T held (entry_of actor.Client c at) (λ _. held)
step_effect T S held (Join node interval) at =
    submit_state S held (check_in_entry node interval at) (submit T held (entry_of actor.Client (command.Join node) at) (held_after_join node held))
step_effect T S held (CheckIn node interval) at =
    as_holder held (member_of node held) (λ _. submit_state S held (check_in_entry node interval at) (done held))
step_effect T S held (Node node c) at = as_holder held (member_of node held) (λ me. effect_of_command T S held node me c at)
step_effect T S held (Forget node failed) at =
    as_holder held (member_of node held) (λ _. unless (member_refusal T failed) held (submit_state S held (forget_entry S failed at) (done held)))
step_effect T S held (Stop node) at = as_holder held (member_of node held) (λ _. done (without_member node held))
step_effect T S held Restart at = record { reply = step_reply.Restarted; entry = None; state_entry = None; held = [] }
step_effect T S held (Resume node epoch) at = unless (resume_refusal T held node epoch) held (done (held_after_resume node epoch held))
step_effect T S held (Show question) at =
    record { reply = step_reply.Shown (answer_to T question); entry = None; state_entry = None; held = held }
step_effect T S held Checkpoint at = without_disk held
step_effect T S held ShowRoom at = without_disk held

abbrev pub with_optional : Option EntryData → History → History
with_optional None h = h
with_optional (Some e) h = with_entry e h

abbrev pub with_optional_state : Option StateEntryData → StateHistory → StateHistory
with_optional_state None h = h
with_optional_state (Some e) h = with_state_entry e h

abbrev pub effect_in : ScriptState → TimedStep → StepEffect
effect_in s t = step_effect (replay s.history) (replay_states s.states) s.held t.step t.at

-- the state that a step leaves
abbrev pub after_step : ScriptState → TimedStep → ScriptState
after_step s t = record {
  history = with_optional (effect_in s t).entry s.history;
  states = with_optional_state (effect_in s t).state_entry s.states;
  held = (effect_in s t).held;
}

-- the state after these steps
abbrev pub state_after : ScriptState → List TimedStep → ScriptState
state_after s [] = s
state_after s (t ∷ ts) = state_after (after_step s t) ts

-- their replies, in order
abbrev pub step_replies : ScriptState → List TimedStep → List StepReply
step_replies s [] = []
step_replies s (t ∷ ts) = (effect_in s t).reply ∷ step_replies (after_step s t) ts
