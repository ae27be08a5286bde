-- The disks' counts of faults never fall in a step.
use Rattle.std.proofs.Common.{◌≡◌, ◌⊎◌, inl, inr, ◌≤◌, List, sym, ap, subst, arith}
use Rattle.std.specs.Prelude.{Option, Some, None}
use Rattle.qz_types.specs.Entries.{EntryData, StateEntryData}
use Rattle.qz_types.specs.Rows.{MemberData}
use Rattle.qz_types.specs.declared.replies.Reply.{Reply}
use Rattle.qz_steps.specs.declared.rooms.Marked.TheVariants.{Made, NoRoom}
use Rattle.qz_steps.specs.declared.steps.StepReply.{StepReply}
use Rattle.qz_steps.specs.declared.steps.StepReply.TheVariants as reply
use Rattle.qz_trigger_store.specs.Entries.{TriggerState}
use Rattle.qz_checkin.specs.Entries.{StatesState}
use Rattle.qz_cluster.specs.Script.{TimedStep}
use Rattle.qz_cluster.specs.Steps.{ClusterState, StoresStay, StatesDone, TriggersDone, AtStates, AtTriggers, BothShut, StepCase, EndCase}
use Rattle.qz_cluster.specs.declared.errors.StepEnd.{StepEnd}
use Rattle.qz_cluster.specs.declared.errors.StepEnd.TheVariants as ends

-- no count fell
abbrev pub NoneFalls : ClusterState → ClusterState → Type 0
NoneFalls S S' = (S.triggers.faults ≤ S'.triggers.faults) × (S.states.faults ≤ S'.states.faults)

stay_counts : (S S' : ClusterState) → StoresStay S S' → NoneFalls S S'
stay_counts S S' stays = (stays.triggers.later, stays.states.later)

states_done_count : (o : Option StateEntryData) (s t : StatesState) → StatesDone o s t → s.faults ≤ t.faults
states_done_count None s t is = is.later
states_done_count (Some e) s t is = is.later

triggers_done_count : (o : Option EntryData) (r : Reply) (s t : TriggerState) → TriggersDone o r s t → s.faults ≤ t.faults
triggers_done_count None r s t is = is.0.later
triggers_done_count (Some e) r s t is = is.later

-- of a step that ends at one of its entries
module _ (C : StateEntryData → StatesState → StatesState → Type 0) (E : EntryData → TriggerState → TriggerState → Type 0)
    (at_states : (e : StateEntryData) (s t : StatesState) → C e s t → s.faults ≤ t.faults) (at_triggers : (e : EntryData) (s t : TriggerState) → E e s t → s.faults ≤ t.faults) where
  entry_counts : (held : List MemberData) (t : TimedStep) (S S' : ClusterState) → AtStates C t S S' ⊎ AtTriggers E held t S S' → NoneFalls S S'
  entry_counts held t S S' (inl at) = (at.triggers.later, at_states at.entry S.states S'.states at.states)
  entry_counts held t S S' (inr at) = (at_triggers at.entry S.triggers S'.triggers at.triggers, states_done_count _ S.states S'.states at.states)

shut_counts : (S S' : ClusterState) → BothShut S S' → NoneFalls S S'
shut_counts S S' shut = (shut.triggers.later, shut.states.later)

-- a state store that no call was made of
states_as_they_were : (S S' : ClusterState) → S'.states ≡ S.states → S.states.faults ≤ S'.states.faults
states_as_they_were S S' same = let count = ap (λ (s : StatesState). s.faults) same in omega (arith, count)

pub step_counts : (honest : Type 0) (t : TimedStep) (r : StepReply) (S S' : ClusterState) → StepCase honest t r S S' → NoneFalls S S'
step_counts honest t reply.Closed S S' case = stay_counts S S' case.stays.stores
step_counts honest t reply.Stopped S S' case = stay_counts S S' case.stays.stores
step_counts honest t (reply.Shown s) S S' case = stay_counts S S' case.stays.stores
step_counts honest t (reply.Refused x) S S' (inl case) = stay_counts S S' case.stays.stores
step_counts honest t (reply.Refused x) S S' (inr case) = entry_counts _ _ (λ e s t is. is.same.later) (λ e s t is. is.same.later) _ t S S' case.which
step_counts honest t (reply.Ok x) S S' case = (triggers_done_count _ x S.triggers S'.triggers case.triggers, states_done_count _ S.states S'.states case.states)
step_counts honest t reply.Fault S S' (inl case) = entry_counts _ _ (λ e s t is. is.later) (λ e s t is. is.later) _ t S S' case.which
step_counts honest t reply.Fault S S' (inr (inl case)) = shut_counts S S' case.shut
step_counts honest t reply.Fault S S' (inr (inr case)) = (case.breaks.later, states_as_they_were S S' case.states)
step_counts honest t (reply.Marked Made) S S' case = (case.marked.0.later, states_as_they_were S S' case.states)
step_counts honest t (reply.Marked NoRoom) S S' case = (case.marked.0.same.later, states_as_they_were S S' case.states)
step_counts honest t (reply.Room room) S S' case = subst (NoneFalls S) (sym case.same) (omega arith, omega arith)
step_counts honest t reply.Restarted S S' case = (case.triggers.later, case.states.later)

-- nor in a step that is cut short
pub cut_counts : (honest : Type 0) (t : TimedStep) (e : StepEnd) (S S' : ClusterState) → EndCase honest t e S S' → NoneFalls S S'
cut_counts honest t (ends.JournalFull need room) S S' case = entry_counts _ _ (λ e s t is. is.same.later) (λ e s t is. is.same.later) _ t S S' case.which
cut_counts honest t (ends.NotAStore store) S S' case = shut_counts S S' case.shut
cut_counts honest t (ends.Damaged store at) S S' case = shut_counts S S' case.shut
cut_counts honest t ends.NoMemory S S' (inl case) = entry_counts _ _ (λ e s t is. is.same.later) (λ e s t is. is.same.later) _ t S S' case.which
cut_counts honest t ends.NoMemory S S' (inr (inl case)) = stay_counts S S' case.stays.stores
cut_counts honest t ends.NoMemory S S' (inr (inr case)) = shut_counts S S' case.shut
