-- A valid step submits valid entries, so it leaves sound stores where it found them.
use Rattle.std.proofs.Common.{◌≡◌, ◌⊎◌, inl, inr, ℤ, List, Bool, true, false, not, ◌&&◌, IsTrue, Some, None, refl, subst, sym}
use Rattle.std.specs.Prelude.{Option, Ok, Err}
use Rattle.std.proofs.lemmas.Bool.{and_parts}
use Rattle.qz_types.specs.Rows.{MemberData, is_node, is_interval}
use Rattle.qz_types.specs.Entries.{EntryData, StateEntryData, is_command, is_of_node, has_actor, is_entry, is_state_command}
use Rattle.qz_steps.specs.Steps.{is_join, is_step}
use Rattle.qz_types.specs.Words.{member_of}
use Rattle.qz_types.specs.declared.commands.Actor.TheVariants as actor
use Rattle.qz_types.specs.declared.commands.Command.{Command}
use Rattle.qz_types.specs.declared.commands.Command.TheVariants as command
use Rattle.qz_types.specs.declared.errors.SubmitError.TheVariants as submit
use Rattle.qz_types.specs.declared.replies.Reply.{Reply}
use Rattle.qz_steps.specs.declared.rooms.Marked.TheVariants.{Made, NoRoom}
use Rattle.qz_steps.specs.declared.steps.Step.{Step}
use Rattle.qz_steps.specs.declared.steps.Step.TheVariants.{Client, Join, CheckIn, Node, Forget, Stop, Restart, Resume, Show, Checkpoint, ShowRoom}
use Rattle.qz_steps.specs.declared.steps.StepReply.{StepReply}
use Rattle.qz_steps.specs.declared.steps.StepReply.TheVariants as reply
use Rattle.qz_trigger_store.specs.Entries.{TriggerState}
use Rattle.qz_trigger_store.specs.Opening.{IsSound}
use Rattle.qz_trigger_store.proofs.Sound.{same_sound, submitted_sound, checked_sound, shut_sound}
use Rattle.qz_checkin.specs.Entries.{StatesState}
use Rattle.qz_checkin.specs.Opening.{IsSound as AreSound}
use Rattle.qz_checkin.proofs.Sound.{same_sound as states_same_sound, shut_sound as states_shut_sound, submitted_sound as states_submitted_sound}
use Rattle.qz_cluster.specs.Script.{TimedStep, entry_of, check_in_entry, forget_entry}
use Rattle.qz_cluster.specs.Steps.{ClusterState, rows_of, entry_of_member, entry_of_step, state_entry_of_step, StoresStay, StatesDone, TriggersDone, AtStates, AtTriggers, BothShut, StepCase, IsStep, EndCase, IsCutShort}
use Rattle.qz_cluster.specs.declared.errors.StepEnd.{StepEnd}
use Rattle.qz_cluster.specs.declared.errors.StepEnd.TheVariants as ends

both : (a b : Bool) → IsTrue a → IsTrue b → IsTrue (a && b)
both true true p q = refl
both true false p q = q
both false b p q = p

of_client : (b : Bool) → IsTrue (not b) → IsTrue (has_actor b actor.Client)
of_client true is = is
of_client false is = refl

of_node : (b : Bool) (me : MemberData) → IsTrue b → IsTrue (has_actor b (actor.Node me))
of_node true me is = refl
of_node false me is = is

same_entry : (P : EntryData → Type 0) (e f : EntryData) → ◌≡◌ {A = Option EntryData} (Some e) (Some f) → P e → P f
same_entry P e f same is = let one : e ≡ f = cc in subst P one is

member_entry : (m : Option MemberData) (c : Command) (at : ℤ) (e : EntryData) → entry_of_member m c at ≡ Some e → IsTrue (is_command c) → IsTrue (is_of_node c) → IsTrue (is_entry e)
unfolding is_entry
member_entry None c at e asked valid node = absurd cc
member_entry (Some me) c at e asked valid node =
    same_entry (λ f. IsTrue (is_entry f)) (entry_of (actor.Node me) c at) e asked (both (is_command c) (has_actor (is_of_node c) (actor.Node me)) valid (of_node (is_of_node c) me node))

pub valid_entry : (x : Step) (held : List MemberData) (at : ℤ) (e : EntryData) → IsTrue (is_step x) → entry_of_step held x at ≡ Some e → IsTrue (is_entry e)
unfolding is_entry
valid_entry (Client c) held at e valid asked =
    let parts = and_parts (is_command c && not (is_of_node c)) (not (is_join c)) valid in
    let first = and_parts (is_command c) (not (is_of_node c)) parts.0 in
    same_entry (λ f. IsTrue (is_entry f)) (entry_of actor.Client c at) e asked (both (is_command c) (has_actor (is_of_node c) actor.Client) first.0 (of_client (is_of_node c) first.1))
valid_entry (Join node interval) held at e valid asked =
    same_entry (λ f. IsTrue (is_entry f)) (entry_of actor.Client (command.Join node) at) e asked (both (is_node node) true (and_parts (is_node node) (is_interval interval) valid).0 refl)
valid_entry (Node node c) held at e valid asked =
    let parts = and_parts (is_node node && is_command c) (is_of_node c) valid in
    member_entry (member_of node held) c at e asked (and_parts (is_node node) (is_command c) parts.0).1 parts.1
valid_entry (CheckIn node interval) held at e valid asked = absurd cc
valid_entry (Forget node failed) held at e valid asked = absurd cc
valid_entry (Stop node) held at e valid asked = absurd cc
valid_entry Restart held at e valid asked = absurd cc
valid_entry (Resume node epoch) held at e valid asked = absurd cc
valid_entry (Show question) held at e valid asked = absurd cc
valid_entry Checkpoint held at e valid asked = absurd cc
valid_entry ShowRoom held at e valid asked = absurd cc

same_state_entry : (P : StateEntryData → Type 0) (e f : StateEntryData) → ◌≡◌ {A = Option StateEntryData} (Some e) (Some f) → P e → P f
same_state_entry P e f same is = let one : e ≡ f = cc in subst P one is

pub valid_state_entry : (S : ClusterState) (x : Step) (at : ℤ) (e : StateEntryData) → IsTrue (is_step x) → state_entry_of_step S x at ≡ Some e → IsTrue (is_state_command e.command)
valid_state_entry S (Join node interval) at e valid asked = same_state_entry (λ f. IsTrue (is_state_command f.command)) (check_in_entry node interval at) e asked valid
valid_state_entry S (CheckIn node interval) at e valid asked = same_state_entry (λ f. IsTrue (is_state_command f.command)) (check_in_entry node interval at) e asked valid
valid_state_entry S (Forget node failed) at e valid asked =
    same_state_entry (λ f. IsTrue (is_state_command f.command)) (forget_entry (rows_of S) failed at) e asked (and_parts (is_node node) (is_node failed) valid).1
valid_state_entry S (Client c) at e valid asked = absurd cc
valid_state_entry S (Node node c) at e valid asked = absurd cc
valid_state_entry S (Stop node) at e valid asked = absurd cc
valid_state_entry S Restart at e valid asked = absurd cc
valid_state_entry S (Resume node epoch) at e valid asked = absurd cc
valid_state_entry S (Show question) at e valid asked = absurd cc
valid_state_entry S Checkpoint at e valid asked = absurd cc
valid_state_entry S ShowRoom at e valid asked = absurd cc

-- both stores are sound
abbrev pub AreBothSound : ClusterState → Type 0
AreBothSound S = IsSound S.triggers × AreSound S.states

stay_sound : (S S' : ClusterState) → StoresStay S S' → AreBothSound S → AreBothSound S'
stay_sound S S' stays sound = (same_sound S.triggers S'.triggers stays.triggers sound.0, states_same_sound S.states S'.states stays.states sound.1)

shut_both_sound : (S S' : ClusterState) → BothShut S S' → AreBothSound S → AreBothSound S'
shut_both_sound S S' shut sound = (shut_sound S.triggers S'.triggers shut.triggers sound.0, states_shut_sound S.states S'.states shut.states sound.1)

states_done_sound : (o : Option StateEntryData) (s t : StatesState) → StatesDone o s t → AreSound s → AreSound t
states_done_sound None s t is sound = states_same_sound s t is sound
states_done_sound (Some e) s t is sound = states_submitted_sound e (Ok tt) s t is sound

triggers_done_sound : (o : Option EntryData) (r : Reply) (s t : TriggerState) → ((e : EntryData) → o ≡ Some e → IsTrue (is_entry e)) → TriggersDone o r s t → IsSound s → IsSound t
triggers_done_sound None r s t valid is sound = same_sound s t is.0 sound
triggers_done_sound (Some e) r s t valid is sound = submitted_sound e (Ok r) s t (valid e refl) is sound

-- of a step that ends at one of its entries, which keep their store sound
module _ (C : StateEntryData → StatesState → StatesState → Type 0) (E : EntryData → TriggerState → TriggerState → Type 0)
    (at_states : (e : StateEntryData) (s t : StatesState) → C e s t → AreSound s → AreSound t)
    (at_triggers : (e : EntryData) (s t : TriggerState) → IsTrue (is_entry e) → E e s t → IsSound s → IsSound t) where
  entry_sound : (held : List MemberData) (t : TimedStep) (S S' : ClusterState) → IsTrue (is_step t.step) → AtStates C t S S' ⊎ AtTriggers E held t S S' → AreBothSound S → AreBothSound S'
  entry_sound held t S S' valid (inl at) sound =
      (same_sound S.triggers S'.triggers at.triggers sound.0, at_states at.entry S.states S'.states at.states sound.1)
  entry_sound held t S S' valid (inr at) sound = (
    at_triggers at.entry S.triggers S'.triggers (valid_entry t.step S.held t.at at.entry valid at.asked) at.triggers sound.0,
    states_done_sound _ S.states S'.states at.states sound.1,
  )

case_sound : (honest : Type 0) (t : TimedStep) (r : StepReply) (S S' : ClusterState) → IsTrue (is_step t.step) → StepCase honest t r S S' → AreBothSound S → AreBothSound S'
case_sound honest t (reply.Ok x) S S' valid case sound = (
  triggers_done_sound _ x S.triggers S'.triggers (λ e asked. valid_entry t.step S.held t.at e valid asked) case.triggers sound.0,
  states_done_sound _ S.states S'.states case.states sound.1,
)
case_sound honest t (reply.Refused x) S S' valid (inl case) sound = stay_sound S S' case.stays.stores sound
case_sound honest t (reply.Refused x) S S' valid (inr case) sound =
    entry_sound _ _ (λ e s u is. states_submitted_sound e (Err (submit.Refused x)) s u is) (λ e s u good is. submitted_sound e (Err (submit.Refused x)) s u good is) _ t S S' valid case.which sound
case_sound honest t reply.Fault S S' valid (inl case) sound =
    entry_sound _ _ (λ e s u is. states_submitted_sound e (Err submit.Fault) s u is) (λ e s u good is. submitted_sound e (Err submit.Fault) s u good is) _ t S S' valid case.which sound
case_sound honest t reply.Fault S S' valid (inr (inl case)) sound = shut_both_sound S S' case.shut sound
case_sound honest t reply.Fault S S' valid (inr (inr case)) sound = (checked_sound (Err submit.Fault) S.triggers S'.triggers case.breaks sound.0, rw case.states sound.1)
case_sound honest t reply.Closed S S' valid case sound = stay_sound S S' case.stays.stores sound
case_sound honest t reply.Stopped S S' valid case sound = stay_sound S S' case.stays.stores sound
case_sound honest t reply.Restarted S S' valid case sound = (case.are_triggers.sound, case.are_states.sound)
case_sound honest t (reply.Shown s) S S' valid case sound = stay_sound S S' case.stays.stores sound
case_sound honest t (reply.Marked Made) S S' valid case sound = (checked_sound (Ok true) S.triggers S'.triggers case.marked.0 sound.0, rw case.states sound.1)
case_sound honest t (reply.Marked NoRoom) S S' valid case sound = (checked_sound (Ok false) S.triggers S'.triggers case.marked.0 sound.0, rw case.states sound.1)
case_sound honest t (reply.Room room) S S' valid case sound = subst AreBothSound (sym case.same) sound

pub step_sound : (honest : Type 0) (t : TimedStep) (r : StepReply) (S S' : ClusterState) → IsStep honest t r S S' → AreBothSound S → AreBothSound S'
step_sound honest t r S S' step sound = case_sound honest t r S S' step.valid step.case sound

end_sound : (honest : Type 0) (t : TimedStep) (e : StepEnd) (S S' : ClusterState) → IsTrue (is_step t.step) → EndCase honest t e S S' → AreBothSound S → AreBothSound S'
end_sound honest t (ends.JournalFull need room) S S' valid case sound =
    entry_sound _ _ (λ e s u is. states_submitted_sound e (Err (submit.JournalFull need room)) s u is) (λ e s u good is. submitted_sound e (Err (submit.JournalFull need room)) s u good is) _ t S S' valid case.which sound
end_sound honest t (ends.NotAStore store) S S' valid case sound = shut_both_sound S S' case.shut sound
end_sound honest t (ends.Damaged store at) S S' valid case sound = shut_both_sound S S' case.shut sound
end_sound honest t ends.NoMemory S S' valid (inl case) sound =
    entry_sound _ _ (λ e s u is. states_submitted_sound e (Err submit.NoMemory) s u is) (λ e s u good is. submitted_sound e (Err submit.NoMemory) s u good is) _ t S S' valid case.which sound
end_sound honest t ends.NoMemory S S' valid (inr (inl case)) sound = stay_sound S S' case.stays.stores sound
end_sound honest t ends.NoMemory S S' valid (inr (inr case)) sound = shut_both_sound S S' case.shut sound

-- also one that is cut short
pub cut_sound : (honest : Type 0) (t : TimedStep) (e : StepEnd) (S S' : ClusterState) → IsCutShort honest t e S S' → AreBothSound S → AreBothSound S'
cut_sound honest t e S S' cut sound = end_sound honest t e S S' cut.valid cut.case sound
