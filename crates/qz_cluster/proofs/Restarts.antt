-- The case of a restart, step by step.
use Rattle.std.proofs.Common.{◌≡◌, ◌⊎◌, inl, inr, ⊎_elim, ℕ, ℤ, ◌≤◌, Bool, true, false, refl, sym, ◌∙◌, subst, arith}
use Rattle.std.proofs.Math.Logic.{∥∥₁_elim}
use Rattle.std.specs.Prelude.{IfOk, IfErr, Ok, Err}
use Rattle.std.specs.declared.result.Result.{Result}
use Rattle.qz_civil.specs.Causes.{Rose}
use Rattle.qz_disk.specs.declared.disk.Disk.{Ghosts}
use Rattle.qz_journal.specs.declared.errors.MountError.{MountError}
use Rattle.qz_journal.specs.declared.errors.MountError.TheVariants as mount
use Rattle.qz_types.specs.declared.stores.Store.{Store}
use Rattle.qz_steps.specs.declared.steps.Step.{Step}
use Rattle.qz_steps.specs.declared.steps.Step.TheVariants.{Restart, Show, Checkpoint, ShowRoom}
use Rattle.qz_steps.specs.declared.steps.StepReply.{StepReply}
use Rattle.qz_steps.specs.declared.steps.StepReply.TheVariants as reply
use Rattle.qz_stores.specs.Bases.{IsDecided, Opens}
use Rattle.qz_stores.specs.Kinds.{StoreKind}
use Rattle.qz_stores.specs.Stores.{StoreState, Shuts}
use Rattle.qz_stores.proofs.Moments.{shut_before}
use Rattle.qz_trigger_store.specs.Kinds.{trigger_kind}
use Rattle.qz_trigger_store.specs.Laws.{trigger_lawful}
use Rattle.qz_trigger_store.specs.View.{view as store_view, LeavesEither}
use Rattle.qz_trigger_store.specs.declared.stores.TriggerStore.{TriggerStore}
use Rattle.qz_checkin.specs.Kinds.{state_kind}
use Rattle.qz_checkin.specs.Laws.{state_lawful}
use Rattle.qz_checkin.specs.View.{view as states_view, LeavesEither as LeaveEither}
use Rattle.qz_checkin.specs.declared.stores.StateStore.{StateStore}
use Rattle.qz_cluster.specs.Restarting.{unread}
use Rattle.qz_cluster.specs.Steps.{ClusterState, BothShut, StepCase, EndCase, standing_after}
use Rattle.qz_cluster.specs.View.{KeepsUnlessDone}
use Rattle.qz_cluster.specs.declared.clusters.Cluster.{Cluster}
use Rattle.qz_cluster.specs.declared.errors.StepEnd.{StepEnd}
use Rattle.qz_cluster.specs.declared.errors.StepEnd.TheVariants as ends
use Rattle.qz_cluster.proofs.Under.{never, case_under, end_under}

-- One store.

pub shut_again : {H E : Type 0} (s t u : StoreState H E) → Shuts s t → Shuts t u → Shuts s u
shut_again s t u first second = record {
  history = second.history ∙ first.history;
  is_open = second.is_open;
  undecided = second.undecided ∙ first.undecided;
  later = omega (arith, first.later, second.later);
}

pub opens_after : {H S E R : Type 0} (kind : StoreKind H S E R) (honest : Type 0) (s t u : StoreState H E) → Shuts s t → Opens kind honest t u → Opens kind honest s u
opens_after {S = S} kind honest s t u first second = record {
  is_open = second.is_open;
  undecided = second.undecided;
  decided = λ h. subst (λ x. ∥ ((start : S) × IsDecided kind start x s.undecided u.history) ∥₁) first.history (subst (λ x. ∥ ((start : S) × IsDecided kind start t.history x u.history) ∥₁) first.undecided (second.decided h));
  later = omega (arith, first.later, second.later);
}

pub rose_after : (before mid now : ℕ) → before ≤ mid → Rose mid now → Rose before now
rose_after before mid now later rose = omega (arith, later, rose)

-- Both.

pub both_again : (S mid new : ClusterState) → Shuts S.triggers mid.triggers → Shuts S.states mid.states → BothShut mid new → BothShut S new
both_again S mid new triggers states shut = record {
  triggers = shut_again S.triggers mid.triggers new.triggers triggers shut.triggers;
  states = shut_again S.states mid.states new.states states shut.states;
  held = shut.held;
}

impossible : {A : Type 0} → true ≡ false → A
impossible is = cc

-- What came of a restart after both disks crashed, it came of the whole.
pub restarted_after : (honest : Type 0) (at : ℤ) (r : StepReply) (S mid new : ClusterState) → Shuts S.triggers mid.triggers → Shuts S.states mid.states
    → StepCase honest (record { step = Restart; at = at }) r mid new → StepCase honest (record { step = Restart; at = at }) r S new
restarted_after honest at (reply.Ok r) S mid new triggers states is = impossible is.submits.allowed.works
restarted_after honest at (reply.Refused refusal) S mid new triggers states (inl is) = impossible is.allowed.works
restarted_after honest at (reply.Refused refusal) S mid new triggers states (inr is) = impossible is.submits.allowed.works
restarted_after honest at reply.Fault S mid new triggers states (inl is) = impossible is.submits.allowed.works
restarted_after honest at reply.Fault S mid new triggers states (inr (inr is)) = let bad : ◌≡◌ {A = Step} Restart Checkpoint = is.asked in absurd cc
restarted_after honest at reply.Fault S mid new triggers states (inr (inl is)) = inr (inl (record {
  asked = is.asked;
  shut = both_again S mid new triggers states is.shut;
  rose = ⊎_elim (λ rose. inl (rose_after S.triggers.faults mid.triggers.faults new.triggers.faults triggers.later rose))
      (λ rose. inr (rose_after S.states.faults mid.states.faults new.states.faults states.later rose)) is.rose;
}))
restarted_after honest at reply.Closed S mid new triggers states is = impossible (sym is.needs_closed)
restarted_after honest at reply.Stopped S mid new triggers states is = impossible (sym is.unheld)
restarted_after honest at reply.Restarted S mid new triggers states is = record {
  asked = is.asked;
  triggers = opens_after trigger_kind honest S.triggers mid.triggers new.triggers triggers is.triggers;
  states = opens_after state_kind honest S.states mid.states new.states states is.states;
  are_triggers = is.are_triggers;
  are_states = is.are_states;
  held = is.held;
}
restarted_after honest at (reply.Shown s) S mid new triggers states is =
    let bad : ◌≡◌ {A = Step} Restart (Show is.question) = is.asked in absurd cc
restarted_after honest at (reply.Marked m) S mid new triggers states is = let bad : ◌≡◌ {A = Step} Restart Checkpoint = is.asked in absurd cc
restarted_after honest at (reply.Room room) S mid new triggers states is = let bad : ◌≡◌ {A = Step} Restart ShowRoom = is.asked in absurd cc

pub cut_after : (honest : Type 0) (at : ℤ) (end : StepEnd) (S mid new : ClusterState) → Shuts S.triggers mid.triggers → Shuts S.states mid.states
    → EndCase honest (record { step = Restart; at = at }) end mid new → EndCase honest (record { step = Restart; at = at }) end S new
cut_after honest at (ends.JournalFull need room) S mid new triggers states is = impossible is.submits.allowed.works
cut_after honest at (ends.NotAStore store) S mid new triggers states is =
    record { asked = is.asked; shut = both_again S mid new triggers states is.shut; dishonest = is.dishonest }
cut_after honest at (ends.Damaged store place) S mid new triggers states is =
    record { asked = is.asked; shut = both_again S mid new triggers states is.shut; dishonest = is.dishonest }
cut_after honest at ends.NoMemory S mid new triggers states (inl is) = impossible is.submits.allowed.works
cut_after honest at ends.NoMemory S mid new triggers states (inr (inl is)) = impossible (sym is.takes)
cut_after honest at ends.NoMemory S mid new triggers states (inr (inr is)) = inr (inr (record { asked = is.asked; shut = both_again S mid new triggers states is.shut }))

-- Moments.

pub triggers_leave : {D : Type 0} {g : Ghosts D} (s t u : TriggerStore D g) → Shuts (store_view s) (store_view t) → LeavesEither s t → LeavesEither t u → LeavesEither s u
triggers_leave s t u shut first second = shut_before trigger_lawful s.store t.store u.store shut first second

pub states_leave : {D : Type 0} {g : Ghosts D} (s t u : StateStore D g) → Shuts (states_view s) (states_view t) → LeaveEither s t → LeaveEither t u → LeaveEither s u
states_leave s t u shut first second = shut_before state_lawful s.store t.store u.store shut first second

-- Results.

-- Where the disks told what they held before the crashes, they do after them.

module _ (P Q : Type 0) (tells : P → ∥ Q ∥₁) (at : ℤ) where
  pub restarted : (result : Result StepReply StepEnd) (S mid new : ClusterState) → Shuts S.triggers mid.triggers → Shuts S.states mid.states
      → IfOk result (λ r. StepCase Q (record { step = Restart; at = at }) r mid new) → IfOk result (λ r. StepCase P (record { step = Restart; at = at }) r S new)
  restarted (Ok r) S mid new triggers states is = restarted_after P at r S mid new triggers states (case_under P Q tells _ mid new r is)
  restarted (Err end) S mid new triggers states is = tt

  pub cut : (result : Result StepReply StepEnd) (S mid new : ClusterState) → Shuts S.triggers mid.triggers → Shuts S.states mid.states
      → IfErr result (λ e. EndCase Q (record { step = Restart; at = at }) e mid new) → IfErr result (λ e. EndCase P (record { step = Restart; at = at }) e S new)
  cut (Ok r) S mid new triggers states is = tt
  cut (Err end) S mid new triggers states is = cut_after P at end S mid new triggers states (end_under P Q tells _ mid new end is)

-- A store that couldn't be read.

abbrev pub MayFail : MountError → Type 0
MayFail error = (error ≡ mount.Fault) ⊎ (error ≡ mount.NoMemory)

lost_not : {P : Type 0} (place : ℕ) → (P → ∥ MayFail (mount.Damaged place) ∥₁) → P → ⊥
lost_not place refused p =
    ∥∥₁_elim (refused p) never (λ (may : MayFail (mount.Damaged place)). ⊎_elim (λ is. let bad : mount.Damaged place ≡ mount.Fault = is in absurd cc) (λ is. let bad : mount.Damaged place ≡ mount.NoMemory = is in absurd cc) may)

none_not : {P : Type 0} → (P → ∥ MayFail mount.NotAStore ∥₁) → P → ⊥
none_not refused p =
    ∥∥₁_elim (refused p) never (λ (may : MayFail mount.NotAStore). ⊎_elim (λ is. let bad : mount.NotAStore ≡ mount.Fault = is in absurd cc) (λ is. let bad : mount.NotAStore ≡ mount.NoMemory = is in absurd cc) may)

unread_end : (P : Type 0) (store : Store) (error : MountError) (at : ℤ) (S new : ClusterState) → BothShut S new → (P → ∥ MayFail error ∥₁)
    → IfErr (unread store error) (λ e. EndCase P (record { step = Restart; at = at }) e S new)
unread_end P store mount.Fault at S new shut refused = tt
unread_end P store mount.NotAStore at S new shut refused = record { asked = refl; shut = shut; dishonest = none_not refused }
unread_end P store (mount.Damaged place) at S new shut refused = record { asked = refl; shut = shut; dishonest = lost_not place refused }
unread_end P store mount.NoMemory at S new shut refused = inr (inr (record { asked = refl; shut = shut }))

pub unread_ends : (P : Type 0) (store : Store) (error : MountError) (at : ℤ) (result : Result StepReply StepEnd) (S new : ClusterState) → result ≡ unread store error
    → BothShut S new → (P → ∥ MayFail error ∥₁) → IfErr result (λ e. EndCase P (record { step = Restart; at = at }) e S new)
unread_ends P store error at result S new is shut refused =
    subst (λ (r : Result StepReply StepEnd). IfErr r (λ e. EndCase P (record { step = Restart; at = at }) e S new)) (sym is) (unread_end P store error at S new shut refused)

-- where a store couldn't be read there are none
pub unread_stands : (store : Store) (error : MountError) (result : Result StepReply StepEnd) (now was : Bool) → result ≡ unread store error → now ≡ false
    → IfOk result (λ r. now ≡ standing_after Restart r was)
unread_stands store error result now was is none =
    subst (λ (x : Result StepReply StepEnd). IfOk x (λ r. now ≡ standing_after Restart r was)) (sym is) (by error) where
      by : (e : MountError) → IfOk (unread store e) (λ r. now ≡ standing_after Restart r was)
      by mount.Fault = none
      by mount.NotAStore = tt
      by (mount.Damaged place) = tt
      by mount.NoMemory = tt

-- a closed store that no call was made of
pub stays_shut : {H E : Type 0} (s : StoreState H E) → s.is_open ≡ false → Shuts s s
stays_shut s closed = record { history = refl; is_open = closed; undecided = refl; later = omega arith }

-- A restart is answered as closed, stopped or refused never.
keeps_at : {D : Type 0} {g : Ghosts D} (honest : Type 0) (at : ℤ) (r : StepReply) (S new : ClusterState) (c d : Cluster D g) → StepCase honest (record { step = Restart; at = at }) r S new → KeepsUnlessDone r c d
keeps_at honest at (reply.Ok r) S new c d is = tt
keeps_at honest at (reply.Refused refusal) S new c d (inl is) = impossible is.allowed.works
keeps_at honest at (reply.Refused refusal) S new c d (inr is) = impossible is.submits.allowed.works
keeps_at honest at reply.Fault S new c d is = tt
keeps_at honest at reply.Closed S new c d is = impossible (sym is.needs_closed)
keeps_at honest at reply.Stopped S new c d is = impossible (sym is.unheld)
keeps_at honest at reply.Restarted S new c d is = tt
keeps_at honest at (reply.Shown s) S new c d is = let bad : ◌≡◌ {A = Step} Restart (Show is.question) = is.asked in absurd cc
keeps_at honest at (reply.Marked m) S new c d is = let bad : ◌≡◌ {A = Step} Restart Checkpoint = is.asked in absurd cc
keeps_at honest at (reply.Room room) S new c d is = let bad : ◌≡◌ {A = Step} Restart ShowRoom = is.asked in absurd cc

pub keeps : {D : Type 0} {g : Ghosts D} (honest : Type 0) (at : ℤ) (result : Result StepReply StepEnd) (S new : ClusterState) (c d : Cluster D g)
    → IfOk result (λ r. StepCase honest (record { step = Restart; at = at }) r S new) → IfOk result (λ r. KeepsUnlessDone r c d)
keeps honest at (Ok r) S new c d is = keeps_at honest at r S new c d is
keeps honest at (Err end) S new c d is = tt
