-- The case of a step, by where it ends and by what its entry came to there.
use Rattle.std.proofs.Common.{◌≡◌, ◌||◌, inl, inr, true, false, not, to_z, of_z, w64, SFits, refl, sym, subst}
use Rattle.std.proofs.lemmas.Int.{to_z-of_z}
use Rattle.std.specs.Prelude.{Bool, ℕ, ℤ, IsTrue, List, Option, Some, None, is_none, is_some, option_map, Ok, Err, IfOk, IfErr}
use Rattle.std.specs.declared.result.Result.{Result}
use Rattle.qz_types.specs.Entries.{StateEntryData}
use Rattle.qz_steps.specs.declared.steps.StepReply.{StepReply}
use Rattle.qz_steps.specs.declared.steps.StepReply.TheVariants as reply
use Rattle.qz_stores.specs.Stores.{StoreState, Same}
use Rattle.qz_checkin.specs.Entries.{of_states}
use Rattle.qz_steps.specs.Steps.{is_step}
use Rattle.qz_steps.specs.declared.steps.Step.TheVariants.{Join, CheckIn}
use Rattle.qz_cluster.specs.Script.{TimedStep, check_in_entry}
use Rattle.qz_cluster.specs.Steps.{ClusterState, is_closed, is_unheld, IsStep, IsCutShort, Submits, StepCase, EndCase, state_entry_of_step, standing_after}
use Rattle.qz_cluster.specs.Submitting.{Declined, StatesSubmitted, Unsubmitted}
use Rattle.qz_cluster.proofs.Unaccepted.{same_here}
use Rattle.qz_cluster.specs.declared.errors.StepEnd.{StepEnd}
use Rattle.qz_cluster.specs.declared.errors.StepEnd.TheVariants as ends

pub not_closed : {A : Type 0} (b : Bool) → b ≡ true → b ≡ false → A
not_closed b is isnt = cc

-- It ends at the state store, which didn't accept.
pub declined : (honest : Type 0) (t : TimedStep) (e : StateEntryData) (r : StepReply) (S new : ClusterState) → Submits t S
    → state_entry_of_step S t.step t.at ≡ Some e → S.states.is_open ≡ true
    → Declined of_states e r S.states new.states → Same S.triggers new.triggers → new.held ≡ S.held → StepCase honest t r S new
declined honest t e (reply.Ok r) S new submits asked ready way triggers held = absurd way
declined honest t e (reply.Refused refusal) S new submits asked ready way triggers held =
    inr (record { submits = submits; which = inl (record { entry = e; asked = asked; states = way; triggers = triggers; held = held }) })
declined honest t e reply.Fault S new submits asked ready way triggers held =
    inl (record { submits = submits; which = inl (record { entry = e; asked = asked; states = way; triggers = triggers; held = held }) })
declined honest t e reply.Closed S new submits asked ready way triggers held = not_closed S.states.is_open ready way.was_closed
declined honest t e reply.Stopped S new submits asked ready way triggers held = absurd way
declined honest t e reply.Restarted S new submits asked ready way triggers held = absurd way
declined honest t e (reply.Shown shown) S new submits asked ready way triggers held = absurd way
declined honest t e (reply.Marked marked) S new submits asked ready way triggers held = absurd way
declined honest t e (reply.Room room) S new submits asked ready way triggers held = absurd way

pub ends_at_states : (honest : Type 0) (t : TimedStep) (e : StateEntryData) (end : StepEnd) (S new : ClusterState) → Submits t S
    → state_entry_of_step S t.step t.at ≡ Some e → Unsubmitted of_states e end S.states new.states → Same S.triggers new.triggers → new.held ≡ S.held → EndCase honest t end S new
ends_at_states honest t e (ends.JournalFull need room) S new submits asked way triggers held =
    record { submits = submits; which = inl (record { entry = e; asked = asked; states = way; triggers = triggers; held = held }) }
ends_at_states honest t e (ends.NotAStore store) S new submits asked way triggers held = absurd way
ends_at_states honest t e (ends.Damaged store at) S new submits asked way triggers held = absurd way
ends_at_states honest t e ends.NoMemory S new submits asked way triggers held =
    inl (record { submits = submits; which = inl (record { entry = e; asked = asked; states = way; triggers = triggers; held = held }) })

-- The same of results.

pub states_declined : (honest : Type 0) (t : TimedStep) (e : StateEntryData) (result : Result StepReply StepEnd) (S new : ClusterState) → Submits t S
    → state_entry_of_step S t.step t.at ≡ Some e → S.states.is_open ≡ true
    → IfOk result (λ r. Declined of_states e r S.states new.states) → Same S.triggers new.triggers → new.held ≡ S.held → IfOk result (λ r. StepCase honest t r S new)
states_declined honest t e (Ok r) S new submits asked ready way triggers held = declined honest t e r S new submits asked ready way triggers held
states_declined honest t e (Err end) S new submits asked ready way triggers held = tt

pub states_ended : (honest : Type 0) (t : TimedStep) (e : StateEntryData) (result : Result StepReply StepEnd) (S new : ClusterState) → Submits t S
    → state_entry_of_step S t.step t.at ≡ Some e → IfErr result (λ end. Unsubmitted of_states e end S.states new.states) → Same S.triggers new.triggers → new.held ≡ S.held
    → IfErr result (λ end. EndCase honest t end S new)
states_ended honest t e (Ok r) S new submits asked way triggers held = tt
states_ended honest t e (Err end) S new submits asked way triggers held = ends_at_states honest t e end S new submits asked way triggers held

-- What isn't closed is open.

pub second_open : (a b : Bool) → not a || not b ≡ false → b ≡ true
second_open true true is = refl
second_open true false is = cc
second_open false b is = cc

-- A step of a node that checks in and joins.

pub join_submits : (node : List ℕ) (interval at : ℤ) (S : ClusterState) → is_closed S ≡ false → Submits (record { step = Join node interval; at = at }) S
join_submits node interval at S ready = record { allowed = record { needs_open = ready; is_held = refl; works = refl; acts = refl }; unrefused = refl }

pub join_declined : (honest : Type 0) (node : List ℕ) (interval at : ℤ) (result : Result StepReply StepEnd) (S new : ClusterState) → is_closed S ≡ false
    → IfOk result (λ r. Declined of_states (check_in_entry node interval at) r S.states new.states) → Same S.triggers new.triggers → new.held ≡ S.held
    → IfOk result (λ r. StepCase honest (record { step = Join node interval; at = at }) r S new)
join_declined honest node interval at result S new ready way triggers held =
    states_declined honest (record { step = Join node interval; at = at }) (check_in_entry node interval at) result S new (join_submits node interval at S ready) refl (second_open S.triggers.is_open S.states.is_open ready)
    way triggers held

pub join_cut : (honest : Type 0) (node : List ℕ) (interval at : ℤ) (result : Result StepReply StepEnd) (S new : ClusterState) → is_closed S ≡ false
    → IfErr result (λ end. Unsubmitted of_states (check_in_entry node interval at) end S.states new.states) → Same S.triggers new.triggers → new.held ≡ S.held
    → IfErr result (λ end. EndCase honest (record { step = Join node interval; at = at }) end S new)
join_cut honest node interval at result S new ready way triggers held =
    states_ended honest (record { step = Join node interval; at = at }) (check_in_entry node interval at) result S new (join_submits node interval at S ready) refl
    way triggers held

-- A step of a member that checks in.

check_in_submits : (node : List ℕ) (interval at : ℤ) (S : ClusterState) → not S.states.is_open ≡ false → is_unheld (CheckIn node interval) S.held ≡ false → Submits (record { step = CheckIn node interval; at = at }) S
check_in_submits node interval at S ready holds = record { allowed = record { needs_open = ready; is_held = holds; works = refl; acts = refl }; unrefused = refl }

is_ready : (b : Bool) → not b ≡ false → b ≡ true
is_ready true is = refl
is_ready false is = cc

-- numbers that went through bits are those that they were
pub the_same : (P : ℤ → ℤ → Type 0) (i at : ℤ) → SFits w64 i → SFits w64 at → P (to_z w64 (of_z w64 i)) (to_z w64 (of_z w64 at)) → P i at
the_same P i at fits fit is = subst (P i) (to_z-of_z w64 at fit) (subst (λ x. P x (to_z w64 (of_z w64 at))) (to_z-of_z w64 i fits) is)

-- a node whose epoch was found holds one
pub holds_one : {A B : Type 0} (f : A → B) (x : Option A) (y : Option B) → option_map f x ≡ y → is_some x ≡ true → is_none y ≡ false
holds_one f (Some a) y is some = subst (λ z. is_none z ≡ false) is refl
holds_one f None y is some = cc

-- a store that nobody touched
pub untouched : {A H E : Type 0} (f : A → StoreState H E) (a b : A) → b ≡ a → Same (f a) (f b)
untouched f a b is = subst (λ x. Same (f a) (f x)) (sym is) (same_here (f a))

pub checked_in : (honest : Type 0) (node : List ℕ) (interval at : ℤ) (result : Result StepReply StepEnd) (S new : ClusterState) → not S.states.is_open ≡ false → is_unheld (CheckIn node interval) S.held ≡ false
    → IfOk result (λ r. StatesSubmitted (check_in_entry node interval at) r S.states new.states) → Same S.triggers new.triggers → new.held ≡ S.held
    → IfOk result (λ r. StepCase honest (record { step = CheckIn node interval; at = at }) r S new)
checked_in honest node interval at (Ok (reply.Ok r)) S new ready holds way triggers held =
    record { submits = check_in_submits node interval at S ready holds; states = way.0; triggers = (triggers, way.1); held = held }
checked_in honest node interval at (Ok (reply.Refused refusal)) S new ready holds way triggers held =
    declined honest _ (check_in_entry node interval at) (reply.Refused refusal) S new (check_in_submits node interval at S ready holds) refl (is_ready S.states.is_open ready) way triggers held
checked_in honest node interval at (Ok reply.Fault) S new ready holds way triggers held =
    declined honest _ (check_in_entry node interval at) reply.Fault S new (check_in_submits node interval at S ready holds) refl (is_ready S.states.is_open ready) way triggers held
checked_in honest node interval at (Ok reply.Closed) S new ready holds way triggers held = not_closed S.states.is_open (is_ready S.states.is_open ready) way.was_closed
checked_in honest node interval at (Ok reply.Stopped) S new ready holds way triggers held = absurd way
checked_in honest node interval at (Ok reply.Restarted) S new ready holds way triggers held = absurd way
checked_in honest node interval at (Ok (reply.Shown shown)) S new ready holds way triggers held = absurd way
checked_in honest node interval at (Ok (reply.Marked marked)) S new ready holds way triggers held = absurd way
checked_in honest node interval at (Ok (reply.Room room)) S new ready holds way triggers held = absurd way
checked_in honest node interval at (Err end) S new ready holds way triggers held = tt

pub check_in_cut : (honest : Type 0) (node : List ℕ) (interval at : ℤ) (result : Result StepReply StepEnd) (S new : ClusterState) → not S.states.is_open ≡ false → is_unheld (CheckIn node interval) S.held ≡ false
    → IfErr result (λ end. Unsubmitted of_states (check_in_entry node interval at) end S.states new.states) → Same S.triggers new.triggers → new.held ≡ S.held
    → IfErr result (λ end. EndCase honest (record { step = CheckIn node interval; at = at }) end S new)
check_in_cut honest node interval at result S new ready holds way triggers held =
    states_ended honest (record { step = CheckIn node interval; at = at }) (check_in_entry node interval at) result S new (check_in_submits node interval at S ready holds) refl way triggers held

-- whatever was answered
pub all_stand : {P : Type 0} (result : Result StepReply StepEnd) → P → IfOk result (λ r. P)
all_stand (Ok r) stands = stands
all_stand (Err end) stands = tt

pub steps_of : (honest : Type 0) (t : TimedStep) (result : Result StepReply StepEnd) (S new : ClusterState) → IsTrue (is_step t.step) → IfOk result (λ r. StepCase honest t r S new)
    → IfOk result (λ r. new.standing ≡ standing_after t.step r S.standing) → IfOk result (λ r. IsStep honest t r S new)
steps_of honest t (Ok r) S new valid case stands = record { valid = valid; case = case; standing = stands }
steps_of honest t (Err end) S new valid case stands = tt

pub cuts_of : (honest : Type 0) (t : TimedStep) (result : Result StepReply StepEnd) (S new : ClusterState) → IsTrue (is_step t.step) → IfErr result (λ e. EndCase honest t e S new) → IfErr result (λ e. IsCutShort honest t e S new)
cuts_of honest t (Ok r) S new valid case = tt
cuts_of honest t (Err end) S new valid case = record { valid = valid; case = case }
