-- Each state of a run has a lawful history of the trigger store, so the law on lost executions holds of it.
use Rattle.std.proofs.Common.{◌≡◌, ◌⊎◌, inl, inr, ℕ, ℤ, List, [], ◌∷◌, Bool, true, false, IsTrue, Some, None, refl, sym, ap, ◌∙◌, subst}
use Rattle.std.proofs.Math.Logic.{∥∥₁_map}
use Rattle.std.specs.Prelude.{⊤, Option, Ok}
use Rattle.std.specs.List.{AllByRecursion}
use Rattle.qz_io.specs.Outside.{Outside}
use Rattle.qz_steps.specs.Steps.{is_step}
use Rattle.qz_steps.specs.declared.rooms.Marked.TheVariants.{Made, NoRoom}
use Rattle.qz_steps.specs.declared.steps.StepReply.{StepReply}
use Rattle.qz_steps.specs.declared.steps.StepReply.TheVariants as reply
use Rattle.qz_types.specs.Rows.{MemberData}
use Rattle.qz_types.specs.Entries.{EntryData, StateEntryData, is_entry}
use Rattle.qz_types.specs.Outcomes.{Outcome, accepted, refused, IsAccepted}
use Rattle.qz_types.specs.declared.replies.Reply.{Reply}
use Rattle.qz_model.specs.History.{History, IsLegal, with_entry}
use Rattle.qz_model.specs.Invariant.{TablesValid}
use Rattle.qz_model.proofs.Histories.{IsLegalFrom-entry}
use Rattle.qz_model.proofs.Kept.{valid-empty}
use Rattle.qz_model.proofs.RowPoints.{All-weaker}
use Rattle.qz_laws.proofs.Histories.{exact}
use Rattle.qz_stores.specs.Kinds.{HasRecord}
use Rattle.qz_stores.specs.Stores.{Appends}
use Rattle.qz_trigger_store.specs.Entries.{TriggerState, answer_of, trigger_entry}
use Rattle.qz_trigger_store.proofs.Horizons.{accepted_anyway}
use Rattle.qz_trigger_store.specs.Kinds.{trigger_kind}
use Rattle.qz_trigger_store.specs.Opening.{IsOpened}
use Rattle.qz_stores.proofs.Blocks.{All-pushed}
use Rattle.qz_checkin.specs.Entries.{StatesState}
use Rattle.qz_cluster.specs.Script.{TimedStep}
use Rattle.qz_cluster.specs.Steps.{ClusterState, TriggersDone, AtStates, AtTriggers, StepCase, IsStep, EndCase}
use Rattle.qz_cluster.specs.declared.errors.StepEnd.{StepEnd}
use Rattle.qz_cluster.specs.declared.errors.StepEnd.TheVariants as ends
use Rattle.qz_cluster.proofs.Sound.{valid_entry}
use Rattle.qz_open.specs.Runs.{StepsDone}
use Rattle.qz_top.specs.Calls.{RecoversLosses, begun}
use Rattle.qz_top.specs.LineOutcomes.{step_at}
use Rattle.qz_top.specs.Runs.{EndsShort, EndsRun, IsRun}
use Rattle.qz_top.specs.Trails.{last_of, is_fault, RunState, new_cluster}
use Rattle.qz_top.specs.declared.statuses.Status.{Status}
use Rattle.qz_top.specs.declared.statuses.Status.TheVariants as status
use Rattle.qz_top.proofs.Courses.{CourseEnd, Course}
use Rattle.qz_top.proofs.OpenedLaws.{end_trail}
use Rattle.qz_top.proofs.RestLaws.{rests_may, rested_history}
use Rattle.qz_top.proofs.RunLaws.{fault_is}
use Rattle.qz_codec.proofs.ValidEntries.{entry_valid}

-- The history begins with valid tables, and each of its entries is valid and was accepted.
record IsLawful (h : History) : Type 0 where
  pub base : ∥ TablesValid h.base ∥₁
  pub valid : AllByRecursion (λ e. IsTrue (is_entry e)) h.entries
  pub legal : IsLegal h

abbrev HasLawful : ClusterState → Type 0
HasLawful S = IsLawful S.triggers.history

recovers : (S : ClusterState) → HasLawful S → RecoversLosses S
recovers S lawful = ∥∥₁_map lawful.base (λ valid. exact S.triggers.history.base S.triggers.history.entries valid lawful.valid lawful.legal)

-- an entry that has a record is proper
each_proper : (es : List EntryData) → AllByRecursion (HasRecord trigger_kind) es → AllByRecursion (λ e. IsTrue (is_entry e)) es
each_proper [] all = tt
each_proper (e ∷ es) all = (entry_valid all.0.1.version e all.0.1.has, each_proper es all.1)

-- of a store that was just opened
opened_lawful : (s : TriggerState) → IsOpened s → IsLawful s.history
opened_lawful s opened = record { base = opened.sound.base; valid = each_proper s.history.entries opened.valid; legal = opened.sound.legal }

-- Steps.

same_lawful : (h g : History) → g ≡ h → IsLawful h → IsLawful g
same_lawful h g same lawful = subst IsLawful (sym same) lawful

accepted_from : (o : Outcome) (r : Reply) → answer_of o ≡ Ok r → IsAccepted o
accepted_from (accepted T x) r is = tt
accepted_from (refused x) r is = absurd cc

appended_lawful : (e : EntryData) (r : Reply) (s t : TriggerState) → IsTrue (is_entry e) → Appends trigger_entry e r s t → IsLawful s.history → IsLawful t.history
appended_lawful e r s t good appends lawful =
    let h = s.history in
    same_lawful (with_entry e h) t.history appends.history (record {
      base = lawful.base;
      valid = All-pushed (λ f. IsTrue (is_entry f)) h.entries e lawful.valid good;
      legal = IsLegalFrom-entry h.base h.entries e lawful.legal (accepted_from _ r (accepted_anyway _ e r appends.accepted_as));
    })

done_lawful : (o : Option EntryData) (r : Reply) (s t : TriggerState) → ((e : EntryData) → o ≡ Some e → IsTrue (is_entry e)) → TriggersDone o r s t → IsLawful s.history → IsLawful t.history
done_lawful None r s t valid is lawful = same_lawful s.history t.history is.0.history lawful
done_lawful (Some e) r s t valid is lawful = appended_lawful e r s t (valid e refl) is lawful

-- a step that ends at one of its entries, where nothing is appended
module _ (C : StateEntryData → StatesState → StatesState → Type 0) (E : EntryData → TriggerState → TriggerState → Type 0)
    (keeps : (e : EntryData) (s t : TriggerState) → E e s t → t.history ≡ s.history) where
  pub entry_keeps : (held : List MemberData) (t : TimedStep) (S S' : ClusterState) → AtStates C t S S' ⊎ AtTriggers E held t S S' → S'.triggers.history ≡ S.triggers.history
  entry_keeps held t S S' (inl at) = at.triggers.history
  entry_keeps held t S S' (inr at) = keeps at.entry S.triggers S'.triggers at.triggers

case_lawful : (honest : Type 0) (t : TimedStep) (r : StepReply) (S S' : ClusterState) → IsTrue (is_step t.step) → StepCase honest t r S S' → HasLawful S → HasLawful S'
case_lawful honest t (reply.Ok x) S S' valid case lawful = done_lawful _ x S.triggers S'.triggers (λ e asked. valid_entry t.step S.held t.at e valid asked) case.triggers lawful
case_lawful honest t (reply.Refused x) S S' valid (inl case) lawful = same_lawful _ _ case.stays.stores.triggers.history lawful
case_lawful honest t (reply.Refused x) S S' valid (inr case) lawful = same_lawful _ _ (entry_keeps _ _ (λ e s u is. is.same.history) _ t S S' case.which) lawful
case_lawful honest t reply.Fault S S' valid (inl case) lawful = same_lawful _ _ (entry_keeps _ _ (λ e s u is. is.history) _ t S S' case.which) lawful
case_lawful honest t reply.Fault S S' valid (inr (inr case)) lawful = same_lawful _ _ case.breaks.history lawful
case_lawful honest t reply.Fault S S' valid (inr (inl case)) lawful = same_lawful _ _ case.shut.triggers.history lawful
case_lawful honest t reply.Closed S S' valid case lawful = same_lawful _ _ case.stays.stores.triggers.history lawful
case_lawful honest t reply.Stopped S S' valid case lawful = same_lawful _ _ case.stays.stores.triggers.history lawful
case_lawful honest t (reply.Shown s) S S' valid case lawful = same_lawful _ _ case.stays.stores.triggers.history lawful
case_lawful honest t (reply.Marked Made) S S' valid case lawful = same_lawful _ _ case.marked.0.history lawful
case_lawful honest t (reply.Marked NoRoom) S S' valid case lawful = same_lawful _ _ case.marked.0.same.history lawful
case_lawful honest t (reply.Room room) S S' valid case lawful = subst HasLawful (sym case.same) lawful
case_lawful honest t reply.Restarted S S' valid case lawful = opened_lawful S'.triggers case.are_triggers

run_lawful : (honest : Type 0) (S : ClusterState) (ts : List TimedStep) (rs : List StepReply) (states : List ClusterState) → StepsDone honest S ts rs states
    → HasLawful S → AllByRecursion HasLawful states
run_lawful honest S [] [] [] p lawful = tt
run_lawful honest S (t ∷ ts) (r ∷ rs) (S' ∷ states) p lawful = let next = case_lawful honest t r S S' p.0.valid p.0.case lawful in (next, run_lawful honest S' ts rs states p.1 next)
run_lawful honest S [] (r ∷ rs) states p lawful = absurd p
run_lawful honest S [] [] (x ∷ states) p lawful = absurd p
run_lawful honest S (t ∷ ts) [] states p lawful = absurd p
run_lawful honest S (t ∷ ts) (r ∷ rs) [] p lawful = absurd p

last_lawful : (S : ClusterState) (states : List ClusterState) → HasLawful S → AllByRecursion HasLawful states → HasLawful (last_of S states)
last_lawful S [] lawful all = lawful
last_lawful S (S' ∷ states) lawful all = last_lawful S' states all.0 all.1

-- so do all states that steps lead through from an opened store on
pub steps_recover : (honest : Type 0) (S : ClusterState) (ts : List TimedStep) (rs : List StepReply) (states : List ClusterState) → IsOpened S.triggers → StepsDone honest S ts rs states
    → AllByRecursion RecoversLosses (S ∷ states)
steps_recover honest S ts rs states opened done =
    let first = opened_lawful S.triggers opened in
    All-weaker HasLawful RecoversLosses (S ∷ states) recovers (first, run_lawful honest S ts rs states done first)

-- The end of a run.

pub cut_keeps : (honest : Type 0) (t : TimedStep) (e : StepEnd) (S S' : ClusterState) → EndCase honest t e S S' → S'.triggers.history ≡ S.triggers.history
cut_keeps honest t (ends.JournalFull need room) S S' case = entry_keeps _ _ (λ e s u is. is.same.history) _ t S S' case.which
cut_keeps honest t (ends.NotAStore store) S S' case = case.shut.triggers.history
cut_keeps honest t (ends.Damaged store at) S S' case = case.shut.triggers.history
cut_keeps honest t ends.NoMemory S S' (inl case) = entry_keeps _ _ (λ e s u is. is.same.history) _ t S S' case.which
cut_keeps honest t ends.NoMemory S S' (inr (inl case)) = case.stays.stores.triggers.history
cut_keeps honest t ends.NoMemory S S' (inr (inr case)) = case.shut.triggers.history

short_keeps : (honest : Type 0) (e : StepEnd) (left : Option (List ℕ)) (lines : List (List ℕ)) (more : List ℤ) (last after : RunState) → EndsShort honest e left lines more last after
    → after.cluster.triggers.history ≡ last.cluster.triggers.history
short_keeps honest e left lines more last after short = cut_keeps honest (step_at short.given short.at) e last.cluster after.cluster short.cut.cut.case

same_history : (last after : RunState) → after ≡ last → after.cluster.triggers.history ≡ last.cluster.triggers.history
same_history last after same = ap (λ (r : RunState). r.cluster.triggers.history) same

pub end_keeps : (honest : Type 0) (s : Status) (left : Option (List ℕ)) (lines : List (List ℕ)) (more : List ℤ) (last after : RunState) → EndsRun honest s left lines more last after
    → after.cluster.triggers.history ≡ last.cluster.triggers.history
end_keeps honest (status.NotAStore store) left lines more last after end = short_keeps honest _ left lines more last after end
end_keeps honest (status.Damaged store at) left lines more last after end = short_keeps honest _ left lines more last after end
end_keeps honest (status.JournalFull need room) left lines more last after end = short_keeps honest _ left lines more last after end
end_keeps honest status.NoMemory left lines more last after (inl nothing) = nothing.history
end_keeps honest status.NoMemory left lines more last after (inr short) = short_keeps honest _ left lines more last after short
end_keeps honest status.Ok left lines more last after end = rested_history last after (rests_may last after status.Ok end)
end_keeps honest (status.BadWords fault) left lines more last after end = same_history last after end
end_keeps honest (status.BadLine line kind) left lines more last after end = same_history last after end
end_keeps honest status.ReadFault left lines more last after end = same_history last after end
end_keeps honest status.WriteFault left lines more last after end = rested_history last after (rests_may last after status.WriteFault end)
end_keeps honest status.DiskFault left lines more last after end = rested_history last after (rests_may last after status.DiskFault end)
end_keeps honest status.Exists left lines more last after end = same_history last after end
end_keeps honest (status.Budget firings) left lines more last after end = same_history last after end
end_keeps honest (status.TooMany count) left lines more last after end = same_history last after end
end_keeps honest status.Fenced left lines more last after end = same_history last after end
end_keeps honest status.OldStore left lines more last after end = same_history last after end
end_keeps honest (status.BadStream at) left lines more last after end = same_history last after end

-- Runs.

module _ (honest : Type 0) (s : Status) (is_own : Bool) (S : ClusterState) (after : RunState) (old new : Outside) (lines : List (List ℕ)) (readings : List ℤ) (replies : List StepReply)
    (first : HasLawful S) (run : IsRun honest s (begun is_own S) after old new lines readings replies) where
  states_lawful : AllByRecursion HasLawful run.steps.states
  states_lawful = run_lawful honest S _ replies run.steps.states run.steps.done first

  trail_recovers : AllByRecursion RecoversLosses after.trail
  trail_recovers =
      subst (AllByRecursion RecoversLosses) (sym (end_trail honest s old.left lines run.clocked.more run.last after run.end ∙ run.steps.trail))
      (All-weaker HasLawful RecoversLosses (S ∷ run.steps.states) recovers (first, states_lawful))

  last_recovers : RecoversLosses after.cluster
  last_recovers =
      recovers after.cluster (same_lawful _ _ (end_keeps honest s old.left lines run.clocked.more run.last after run.end)
      (subst HasLawful (sym run.steps.last) (last_lawful S run.steps.states first states_lawful)))

-- on opened stores
module _ (honest : Type 0) (s : Status) (S : ClusterState) (after : RunState) (old new : Outside) (lines : List (List ℕ)) (readings : List ℤ) (replies : List StepReply)
    (opened : IsOpened S.triggers) (run : IsRun honest s (begun false S) after old new lines readings replies) where
  pub recovered_opened : AllByRecursion RecoversLosses after.trail
  recovered_opened = trail_recovers honest s false S after old new lines readings replies (opened_lawful S.triggers opened) run

  pub recovered_at_end : RecoversLosses after.cluster
  recovered_at_end = last_recovers honest s false S after old new lines readings replies (opened_lawful S.triggers opened) run

-- on new stores
module _ (m n : ℕ) (s : Status) (after : RunState) (old new : Outside) (lines : List (List ℕ)) (readings : List ℤ) (replies : List StepReply)
    (run : IsRun ⊤ s (begun true (new_cluster m n)) after old new lines readings replies) where
  pub recovered_new : AllByRecursion RecoversLosses after.trail
  recovered_new = trail_recovers ⊤ s true (new_cluster m n) after old new lines readings replies (record { base = ∣ valid-empty 2 ∣₁; valid = tt; legal = tt }) run

  pub recovered_new_end : RecoversLosses after.cluster
  recovered_new_end = last_recovers ⊤ s true (new_cluster m n) after old new lines readings replies (record { base = ∣ valid-empty 2 ∣₁; valid = tt; legal = tt }) run

-- A step in which a disk failed leaves the history of triggers.
pub fault_keeps : (honest : Type 0) (t : TimedStep) (S S' : ClusterState) → StepCase honest t reply.Fault S S' → S'.triggers.history ≡ S.triggers.history
fault_keeps honest t S S' (inl case) = entry_keeps _ _ (λ e s u is. is.history) _ t S S' case.which
fault_keeps honest t S S' (inr (inl case)) = case.shut.triggers.history
fault_keeps honest t S S' (inr (inr case)) = case.breaks.history

pub fault_step_keeps : (honest : Type 0) (t : TimedStep) (r : StepReply) (S S' : ClusterState) → is_fault r ≡ true → IsStep honest t r S S' → S'.triggers.history ≡ S.triggers.history
fault_step_keeps honest t r S S' is step = fault_keeps honest t S S' (subst (λ (x : StepReply). StepCase honest t x S S') (fault_is r is) step.case)

-- A load: its states, and the one at the end.
module _ (honest : Type 0) (S : ClusterState) (after : RunState) (opened : IsOpened S.triggers) (course : Course honest (begun false S) after) where
  states_lawful_in : AllByRecursion HasLawful course.ran.states
  states_lawful_in = run_lawful honest S _ course.replies course.ran.states course.ran.done (opened_lawful S.triggers opened)

  pub recovered_in : AllByRecursion RecoversLosses after.trail
  recovered_in =
      subst (AllByRecursion RecoversLosses) (sym (course.trail ∙ course.ran.trail))
      (All-weaker HasLawful RecoversLosses (S ∷ course.ran.states) recovers (opened_lawful S.triggers opened, states_lawful_in))

  ends_with : HasLawful course.last.cluster
  ends_with = subst HasLawful (sym course.ran.last) (last_lawful S course.ran.states (opened_lawful S.triggers opened) states_lawful_in)

  pub recovered_in_end : RecoversLosses after.cluster
  recovered_in_end = recovers after.cluster (left_lawful course.end) where
    left_lawful : CourseEnd honest course.last after → HasLawful after.cluster
    left_lawful (inl same) = subst HasLawful (sym same) ends_with
    left_lawful (inr (inl may)) = same_lawful _ _ (rested_history course.last after may) ends_with
    left_lawful (inr (inr cut)) = same_lawful _ _ (cut_keeps honest cut.step cut.stop course.last.cluster after.cluster cut.is.case) ends_with
