-- When a step closes a store.
use Rattle.std.proofs.Common.{◌≡◌, ◌⊎◌, inl, inr, Bool, true, false, not, refl, sym, ap, subst, ◌∙◌}
use Rattle.std.specs.Prelude.{◌||◌, Option, Some, None}
use Rattle.qz_civil.specs.Causes.{Rose}
use Rattle.qz_types.specs.Entries.{EntryData, StateEntryData}
use Rattle.qz_types.specs.declared.replies.Reply.{Reply}
use Rattle.qz_steps.specs.declared.rooms.Marked.TheVariants.{Made, NoRoom}
use Rattle.qz_steps.specs.declared.steps.StepReply.{StepReply}
use Rattle.qz_steps.specs.declared.steps.StepReply.TheVariants as reply
use Rattle.qz_types.specs.declared.replies.Refusal.{Refusal}
use Rattle.qz_stores.specs.Stores.{Refuses, Fails}
use Rattle.qz_trigger_store.specs.Entries.{TriggerState, trigger_entry}
use Rattle.qz_checkin.specs.Entries.{StatesState, of_states}
use Rattle.qz_cluster.specs.Script.{TimedStep}
use Rattle.qz_cluster.specs.Steps.{ClusterState, is_closed, held_after_fault, StoresStay, StatesDone, TriggersDone, AtStates, AtTriggers, StepCase}

-- Both stores are open, and it is known of each entry whether the disk has it.
pub record IsReady (S : ClusterState) : Type 0 where
  pub triggers_open : S.triggers.is_open ≡ true
  pub states_open : S.states.is_open ≡ true
  pub triggers_settled : S.triggers.undecided ≡ None
  pub states_settled : S.states.undecided ≡ None

both_open : (a b : Bool) → a ≡ true → b ≡ true → not a || not b ≡ false
both_open true true p q = refl
both_open true false p q = sym q
both_open false b p q = sym p

pub ready_open : (S : ClusterState) → IsReady S → is_closed S ≡ false
ready_open S ready = both_open S.triggers.is_open S.states.is_open ready.triggers_open ready.states_open

stay_ready : (S S' : ClusterState) → StoresStay S S' → IsReady S → IsReady S'
stay_ready S S' stays ready = record {
  triggers_open = stays.triggers.is_open ∙ ready.triggers_open;
  states_open = stays.states.is_open ∙ ready.states_open;
  triggers_settled = stays.triggers.undecided ∙ ready.triggers_settled;
  states_settled = stays.states.undecided ∙ ready.states_settled;
}

states_done_open : (o : Option StateEntryData) (s t : StatesState) → StatesDone o s t → s.is_open ≡ true → t.is_open ≡ true
states_done_open None s t is was = is.is_open ∙ was
states_done_open (Some e) s t is was = is.is_open

states_done_settled : (o : Option StateEntryData) (s t : StatesState) → StatesDone o s t → s.undecided ≡ None → t.undecided ≡ None
states_done_settled None s t is was = is.undecided ∙ was
states_done_settled (Some e) s t is was = is.undecided

triggers_done_open : (o : Option EntryData) (r : Reply) (s t : TriggerState) → TriggersDone o r s t → s.is_open ≡ true → t.is_open ≡ true
triggers_done_open None r s t is was = is.0.is_open ∙ was
triggers_done_open (Some e) r s t is was = is.is_open

triggers_done_settled : (o : Option EntryData) (r : Reply) (s t : TriggerState) → TriggersDone o r s t → s.undecided ≡ None → t.undecided ≡ None
triggers_done_settled None r s t is was = is.0.undecided ∙ was
triggers_done_settled (Some e) r s t is was = is.undecided

refused_ready : (t : TimedStep) (x : Refusal) (S S' : ClusterState)
    → AtStates (λ e s s'. Refuses of_states e x s s') t S S' ⊎ AtTriggers (λ e s s'. Refuses trigger_entry e x s s') S.held t S S' → IsReady S → IsReady S'
refused_ready t x S S' (inl at) ready = stay_ready S S' (record { triggers = at.triggers; states = at.states.same }) ready
refused_ready t x S S' (inr at) ready = record {
  triggers_open = at.triggers.same.is_open ∙ ready.triggers_open;
  states_open = states_done_open _ S.states S'.states at.states ready.states_open;
  triggers_settled = at.triggers.same.undecided ∙ ready.triggers_settled;
  states_settled = states_done_settled _ S.states S'.states at.states ready.states_settled;
}

-- where the trigger store stays open, and no call was made of the other
beside_ready : (S S' : ClusterState) → S'.triggers.is_open ≡ true → S'.triggers.undecided ≡ S.triggers.undecided → S'.states ≡ S.states → IsReady S → IsReady S'
beside_ready S S' opened undecided states ready = record {
  triggers_open = opened;
  states_open = ap (λ (s : StatesState). s.is_open) states ∙ ready.states_open;
  triggers_settled = undecided ∙ ready.triggers_settled;
  states_settled = ap (λ (s : StatesState). s.undecided) states ∙ ready.states_settled;
}

-- Without a fault both stores stay so.
pub step_ready : (honest : Type 0) (t : TimedStep) (r : StepReply) (S S' : ClusterState) → StepCase honest t r S S' → IsReady S → (r ≡ reply.Fault → ⊥) → IsReady S'
step_ready honest t reply.Closed S S' case ready no_fault = stay_ready S S' case.stays.stores ready
step_ready honest t reply.Stopped S S' case ready no_fault = stay_ready S S' case.stays.stores ready
step_ready honest t (reply.Shown s) S S' case ready no_fault = stay_ready S S' case.stays.stores ready
step_ready honest t (reply.Marked Made) S S' case ready no_fault = beside_ready S S' case.marked.0.is_open case.marked.0.undecided case.states ready
step_ready honest t (reply.Marked NoRoom) S S' case ready no_fault =
    beside_ready S S' (case.marked.0.same.is_open ∙ case.marked.0.was_open) case.marked.0.same.undecided case.states ready
step_ready honest t (reply.Room room) S S' case ready no_fault = subst IsReady (sym case.same) ready
step_ready honest t (reply.Refused x) S S' (inl case) ready no_fault = stay_ready S S' case.stays.stores ready
step_ready honest t (reply.Refused x) S S' (inr case) ready no_fault = refused_ready t x S S' case.which ready
step_ready honest t (reply.Ok x) S S' case ready no_fault = record {
  triggers_open = triggers_done_open _ x S.triggers S'.triggers case.triggers ready.triggers_open;
  states_open = states_done_open _ S.states S'.states case.states ready.states_open;
  triggers_settled = triggers_done_settled _ x S.triggers S'.triggers case.triggers ready.triggers_settled;
  states_settled = states_done_settled _ S.states S'.states case.states ready.states_settled;
}
step_ready honest t reply.Fault S S' case ready no_fault = absurd (no_fault refl)
step_ready honest t reply.Restarted S S' case ready no_fault =
    record { triggers_open = case.triggers.is_open; states_open = case.states.is_open; triggers_settled = case.triggers.undecided; states_settled = case.states.undecided }

failed_rose : (t : TimedStep) (S S' : ClusterState) → AtStates (Fails of_states) t S S' ⊎ AtTriggers (Fails trigger_entry) (held_after_fault t.step S.held) t S S'
    → Rose S.triggers.faults S'.triggers.faults ⊎ Rose S.states.faults S'.states.faults
failed_rose t S S' (inl at) = inr at.states.rose
failed_rose t S S' (inr at) = inl at.triggers.rose

-- A fault is one of a disk.
pub fault_rose : (honest : Type 0) (t : TimedStep) (S S' : ClusterState) → StepCase honest t reply.Fault S S'
    → Rose S.triggers.faults S'.triggers.faults ⊎ Rose S.states.faults S'.states.faults
fault_rose honest t S S' (inl case) = failed_rose t S S' case.which
fault_rose honest t S S' (inr (inl case)) = case.rose
fault_rose honest t S S' (inr (inr case)) = inl case.breaks.rose
