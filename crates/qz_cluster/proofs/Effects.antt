-- What a step comes to, in one form for all steps: it is stopped, or refused before it submits anything, or submits an
-- entry or none on each store.
use Rattle.std.proofs.Common.{◌≡◌, ℕ, ℤ, Bool, true, false, List, Option, Some, None, refl, ap}
use Rattle.std.specs.Prelude.{⊤, if◌then◌else◌, is_none, Result, Ok, Err}
use Rattle.qz_types.specs.Rows.{MemberData}
use Rattle.qz_types.specs.Entries.{EntryData, StateEntryData}
use Rattle.qz_types.specs.Tables.{SchedulerTables}
use Rattle.qz_types.specs.Outcomes.{Outcome, accepted, refused}
use Rattle.qz_types.specs.Words.{member_of, without_member}
use Rattle.qz_types.specs.declared.commands.Actor.TheVariants as actor
use Rattle.qz_types.specs.declared.commands.Command.{Command}
use Rattle.qz_types.specs.declared.commands.Command.TheVariants as command
use Rattle.qz_types.specs.declared.replies.Reply.{Reply}
use Rattle.qz_types.specs.declared.replies.Reply.TheVariants as answer
use Rattle.qz_types.specs.declared.replies.Refusal.{Refusal}
use Rattle.qz_steps.specs.declared.steps.Step.{Step}
use Rattle.qz_steps.specs.declared.steps.Step.TheVariants.{Client, Join, CheckIn, Node, Forget, Stop, Restart, Resume, Show, Checkpoint, ShowRoom}
use Rattle.qz_steps.specs.declared.steps.StepReply.TheVariants as step_reply
use Rattle.qz_model.specs.Transaction.{transaction}
use Rattle.qz_model.specs.History.{replay}
use Rattle.qz_trigger_store.specs.Entries.{answer_of}
use Rattle.qz_checkin.specs.Rows.{StateTables, StateOutcome, state_transaction}
use Rattle.qz_checkin.specs.Rows as rows
use Rattle.qz_checkin.specs.Entries.{answer_of as answer_of_states}
use Rattle.qz_model.specs.Upgrading.{version_refusal}
use Rattle.qz_stores.specs.Kinds.{unless_refused}
use Rattle.qz_cluster.specs.Script.{StepEffect, held_after_command, entry_of, check_in_entry, forget_entry, member_refusal, done, refuse, unless, effect_of, submit, effect_of_states, submit_state, as_holder, effect_of_command, step_effect}
use Rattle.qz_cluster.specs.Steps.{ClusterState, is_restart, is_asking, is_unheld, rows_of, command_refusal, first_refusal, state_entry_of_step, entry_of_member, entry_of_step, held_after}

-- At the store of triggers.

-- an entry is submitted, or none is and the step is done
abbrev pub onto_triggers : SchedulerTables → List MemberData → Option EntryData → (Reply → List MemberData) → StepEffect
onto_triggers T held None after = done (after answer.Done)
onto_triggers T held (Some e) after = submit T held e after

effect_accepted : (e : EntryData) (held : List MemberData) (after : Reply → List MemberData) (o : Outcome) (y : Reply) → answer_of o ≡ Ok y
    → effect_of e held after o ≡ record { reply = step_reply.Ok y; entry = Some e; state_entry = None; held = after y }
effect_accepted e held after (accepted T x) y is =
    let same : x ≡ y = cc in
    ap (λ (z : Reply). record { reply = step_reply.Ok z; entry = Some e; state_entry = None; held = after z }) same
effect_accepted e held after (refused x) y is = absurd cc

effect_refused : (e : EntryData) (held : List MemberData) (after : Reply → List MemberData) (o : Outcome) (y : Refusal) → answer_of o ≡ Err y
    → effect_of e held after o ≡ refuse y held
effect_refused e held after (accepted T x) y is = absurd cc
effect_refused e held after (refused x) y is = let same : x ≡ y = cc in ap (λ (z : Refusal). refuse z held) same

-- what is submitted, where this is refused before
submitted_accepted : (v : Option Refusal) (e : EntryData) (held : List MemberData) (after : Reply → List MemberData) (o : Outcome) (y : Reply) → unless_refused v (answer_of o) ≡ Ok y
    → unless v held (effect_of e held after o) ≡ record { reply = step_reply.Ok y; entry = Some e; state_entry = None; held = after y }
submitted_accepted None e held after o y is = effect_accepted e held after o y is
submitted_accepted (Some x) e held after o y is = let no : ◌≡◌ {A = Result Reply Refusal} (Err x) (Ok y) = is in absurd cc

submitted_refused : (v : Option Refusal) (e : EntryData) (held : List MemberData) (after : Reply → List MemberData) (o : Outcome) (y : Refusal) → unless_refused v (answer_of o) ≡ Err y
    → unless v held (effect_of e held after o) ≡ refuse y held
submitted_refused None e held after o y is = effect_refused e held after o y is
submitted_refused (Some x) e held after o y is = let same : x ≡ y = cc in ap (λ (z : Refusal). refuse z held) same

pub submit_accepted : (T : SchedulerTables) (held : List MemberData) (e : EntryData) (after : Reply → List MemberData) (y : Reply) → unless_refused (version_refusal T e.command) (answer_of (transaction T e)) ≡ Ok y
    → submit T held e after ≡ record { reply = step_reply.Ok y; entry = Some e; state_entry = None; held = after y }
unfolding submit
submit_accepted T held e after y is = submitted_accepted (version_refusal T e.command) e held after (transaction T e) y is

pub submit_refused : (T : SchedulerTables) (held : List MemberData) (e : EntryData) (after : Reply → List MemberData) (y : Refusal) → unless_refused (version_refusal T e.command) (answer_of (transaction T e)) ≡ Err y
    → submit T held e after ≡ refuse y held
unfolding submit
submit_refused T held e after y is = submitted_refused (version_refusal T e.command) e held after (transaction T e) y is

-- At the state store, which is first.

-- an entry is submitted, or none is, and then the step goes on so
abbrev pub onto_states : StateTables → List MemberData → Option StateEntryData → StepEffect → StepEffect
onto_states R held None effect = effect
onto_states R held (Some e) effect = submit_state R held e effect

states_accepted : (e : StateEntryData) (held : List MemberData) (o : StateOutcome) (effect : StepEffect) → ◌≡◌ {A = Result ⊤ Refusal} (answer_of_states o) (Ok tt)
    → effect_of_states e held o effect ≡ record effect { state_entry = Some e }
states_accepted e held (rows.accepted S) effect is = refl
states_accepted e held (rows.refused x) effect is = absurd cc

states_refused : (e : StateEntryData) (held : List MemberData) (o : StateOutcome) (effect : StepEffect) (y : Refusal) → answer_of_states o ≡ Err y
    → effect_of_states e held o effect ≡ refuse y held
states_refused e held (rows.accepted S) effect y is = absurd cc
states_refused e held (rows.refused x) effect y is = let same : x ≡ y = cc in ap (λ (z : Refusal). refuse z held) same

pub submit_state_accepted : (R : StateTables) (held : List MemberData) (e : StateEntryData) (effect : StepEffect) → ◌≡◌ {A = Result ⊤ Refusal} (answer_of_states (state_transaction R e)) (Ok tt)
    → submit_state R held e effect ≡ record effect { state_entry = Some e }
unfolding submit_state
submit_state_accepted R held e effect is = states_accepted e held (state_transaction R e) effect is

pub submit_state_refused : (R : StateTables) (held : List MemberData) (e : StateEntryData) (effect : StepEffect) (y : Refusal) → answer_of_states (state_transaction R e) ≡ Err y
    → submit_state R held e effect ≡ refuse y held
unfolding submit_state
submit_state_refused R held e effect y is = states_refused e held (state_transaction R e) effect y is

-- Whole steps.

abbrev pub stopped : List MemberData → StepEffect
stopped held = record { reply = step_reply.Stopped; entry = None; state_entry = None; held = held }

abbrev pub plain_effect : Bool → Option Refusal → Option StateEntryData → Option EntryData → SchedulerTables → StateTables → List MemberData → (Reply → List MemberData) → StepEffect
plain_effect is_stopped refusal se e T R held after = if is_stopped then stopped held else unless refusal held (onto_states R held se (onto_triggers T held e after))

-- the same at a cluster
abbrev pub effect_at : ClusterState → Step → ℤ → StepEffect
effect_at S x at = step_effect (replay S.triggers.history) (rows_of S) S.held x at

command_effect : (S : ClusterState) (node : List ℕ) (me : MemberData) (c : Command) (at : ℤ)
    → effect_of_command (replay S.triggers.history) (rows_of S) S.held node me c at
    ≡ unless (command_refusal S node c at) S.held (submit (replay S.triggers.history) S.held (entry_of (actor.Node me) c at) (λ _. held_after_command node c S.held))
command_effect S node me (command.Recover failed) at = refl
command_effect S node me command.Leave at = refl
command_effect S node me (command.AddJob job replace) at = refl
command_effect S node me (command.DeleteJob key) at = refl
command_effect S node me (command.AddTrigger spec replace) at = refl
command_effect S node me (command.DeleteTrigger key) at = refl
command_effect S node me (command.PauseTrigger key) at = refl
command_effect S node me (command.ResumeTrigger key) at = refl
command_effect S node me (command.PauseGroup group) at = refl
command_effect S node me (command.ResumeGroup group) at = refl
command_effect S node me (command.AddCalendar calendar replace) at = refl
command_effect S node me (command.DeleteCalendar name) at = refl
command_effect S node me (command.AddZone zone) at = refl
command_effect S node me (command.DeleteZone name) at = refl
command_effect S node me (command.TriggerNow job) at = refl
command_effect S node me (command.Threshold ms) at = refl
command_effect S node me (command.Join other) at = refl
command_effect S node me (command.Acquire no_later window max) at = refl
command_effect S node me (command.Release entry) at = refl
command_effect S node me (command.Fire entry) at = refl
command_effect S node me (command.Complete entry code) at = refl
command_effect S node me command.Misfires at = refl
command_effect S node me command.Upgrade at = refl
command_effect S node me (command.ResetTrigger key) at = refl
command_effect S node me (command.PauseJobGroup group) at = refl
command_effect S node me (command.ResumeJobGroup group) at = refl

node_effect : (S : ClusterState) (node : List ℕ) (c : Command) (at : ℤ) (m : Option MemberData)
    → as_holder S.held m (λ me. effect_of_command (replay S.triggers.history) (rows_of S) S.held node me c at)
    ≡ plain_effect (is_none m) (command_refusal S node c at) None (entry_of_member m c at) (replay S.triggers.history) (rows_of S) S.held (λ _. held_after_command node c S.held)
node_effect S node c at None = refl
node_effect S node c at (Some me) = command_effect S node me c at

holder_effect : (held : List MemberData) (m : Option MemberData) (effect : StepEffect) → as_holder held m (λ _. effect) ≡ (if is_none m then stopped held else effect)
holder_effect held None effect = refl
holder_effect held (Some me) effect = refl

-- Each step has this form but a restart and one that asks.
pub effect_is : (S : ClusterState) (x : Step) (at : ℤ) → is_restart x ≡ false → is_asking x ≡ false
    → effect_at S x at
    ≡ plain_effect (is_unheld x S.held) (first_refusal S x at) (state_entry_of_step S x at) (entry_of_step S.held x at) (replay S.triggers.history) (rows_of S) S.held (held_after x S.held)
effect_is S (Client c) at works acts = refl
effect_is S (Join node interval) at works acts = refl
effect_is S (CheckIn node interval) at works acts = holder_effect S.held (member_of node S.held) (submit_state (rows_of S) S.held (check_in_entry node interval at) (done S.held))
effect_is S (Node node c) at works acts = node_effect S node c at (member_of node S.held)
effect_is S (Forget node failed) at works acts =
    holder_effect S.held (member_of node S.held)
    (unless (member_refusal (replay S.triggers.history) failed) S.held (submit_state (rows_of S) S.held (forget_entry (rows_of S) failed at) (done S.held)))
effect_is S (Stop node) at works acts = holder_effect S.held (member_of node S.held) (done (without_member node S.held))
effect_is S Restart at works acts = let bad : true ≡ false = works in absurd cc
effect_is S (Resume node epoch) at works acts = refl
effect_is S (Show question) at works acts = let bad : true ≡ false = acts in absurd cc
effect_is S Checkpoint at works acts = let bad : true ≡ false = acts in absurd cc
effect_is S ShowRoom at works acts = let bad : true ≡ false = acts in absurd cc
