-- Runs of steps that go on, and new clusters.
use Rattle.std.proofs.Common.{◌≡◌, ℕ, List, [], ◌∷◌, ◌++◌, length, true, false, refl, sym, ap, ◌∙◌, subst, append_assoc}
use Rattle.std.proofs.lemmas.List.{append-nil}
use Rattle.qz_steps.specs.declared.steps.StepReply.{StepReply}
use Rattle.qz_model.specs.History.{history_of_version}
use Rattle.qz_cluster.specs.Script.{TimedStep}
use Rattle.qz_trigger_store.specs.Opening.{IsOpened}
use Rattle.qz_checkin.specs.History.{new_state_history}
use Rattle.qz_checkin.specs.Opening.{IsOpened as AreOpened}
use Rattle.qz_cluster.specs.Steps.{ClusterState, IsStep}
use Rattle.qz_io.proofs.TakenLaws.{AllByRecursion-append}
use Rattle.qz_open.specs.Runs.{StepsDone}
use Rattle.qz_top.specs.Trails.{last_of, is_fault, IsNoFault, RunState, RanSteps, new_cluster}
use Rattle.qz_top.specs.LineOutcomes.{NothingDone}

pub last_of-append : (S : ClusterState) (xs ys : List ClusterState) → last_of S (xs ++ ys) ≡ last_of (last_of S xs) ys
last_of-append S [] ys = refl
last_of-append S (x ∷ xs) ys = last_of-append x xs ys

pub StepsDone-append : (honest : Type 0) (S : ClusterState) (ts us : List TimedStep) (rs qs : List StepReply) (xs ys : List ClusterState)
    → StepsDone honest S ts rs xs → StepsDone honest (last_of S xs) us qs ys → StepsDone honest S (ts ++ us) (rs ++ qs) (xs ++ ys)
StepsDone-append honest S [] us [] qs [] ys p q = q
StepsDone-append honest S (t ∷ ts) us (r ∷ rs) qs (x ∷ xs) ys p q = (p.0, StepsDone-append honest x ts us rs qs xs ys p.1 q)
StepsDone-append honest S [] us (r ∷ rs) qs xs ys p q = absurd p
StepsDone-append honest S [] us [] qs (x ∷ xs) ys p q = absurd p
StepsDone-append honest S (t ∷ ts) us [] qs xs ys p q = absurd p
StepsDone-append honest S (t ∷ ts) us (r ∷ rs) qs [] ys p q = absurd p

pub RanSteps-none : {honest : Type 0} (R : RunState) → RanSteps honest [] [] R R
RanSteps-none R = record { states = []; done = tt; last = refl; trail = sym (append-nil R.trail); own = refl; no_fault = λ own. tt }

pub RanSteps-more : (honest : Type 0) (ts us : List TimedStep) (rs qs : List StepReply) (R S T : RunState) → RanSteps honest ts rs R S → RanSteps honest us qs S T → RanSteps honest (ts ++ us) (rs ++ qs) R T
RanSteps-more honest ts us rs qs R S T p q = record {
  states = p.states ++ q.states;
  done = StepsDone-append honest R.cluster ts us rs qs p.states q.states p.done (subst (λ C. StepsDone honest C us qs q.states) p.last q.done);
  last = q.last ∙ ap (λ C. last_of C q.states) p.last ∙ sym (last_of-append R.cluster p.states q.states);
  trail = q.trail ∙ ap (λ l. l ++ q.states) p.trail ∙ append_assoc R.trail p.states q.states;
  own = q.own ∙ p.own;
  no_fault = λ own. AllByRecursion-append IsNoFault rs qs (p.no_fault own) (q.no_fault (p.own ∙ own));
}

-- one step, whose state was shown
pub RanSteps-one : {honest : Type 0} (t : TimedStep) (r : StepReply) (R S : RunState) → IsStep honest t r R.cluster S.cluster → S.trail ≡ R.trail ++ S.cluster ∷ []
    → S.is_own ≡ R.is_own → (R.is_own ≡ true → is_fault r ≡ false) → RanSteps honest (t ∷ []) (r ∷ []) R S
RanSteps-one t r R S step trail own no_fault =
    record { states = S.cluster ∷ []; done = (step, tt); last = refl; trail = trail; own = own; no_fault = λ is_own. (no_fault is_own, tt) }

-- Clusters on new stores.

pub new_state : (S : ClusterState) → S.triggers.history ≡ history_of_version 2 → S.states.history ≡ new_state_history → IsOpened S.triggers → AreOpened S.states → S.held ≡ []
    → (S.triggers.gate ≡ 16) × (S.triggers.payloads ≡ 0) → (S.states.gate ≡ 16) × (S.states.payloads ≡ 0) → S.behind ≡ 0 → S.standing ≡ true → S ≡ new_cluster S.triggers.faults S.states.faults
new_state S history states_history opened states_opened held (gate, payloads) (states_gate, states_payloads) behind standing =
    λ i. record {
      triggers = record { history = history i; gate = gate i; payloads = payloads i; is_open = opened.is_open i; undecided = opened.settled i; faults = S.triggers.faults };
      states = record {
        history = states_history i;
        gate = states_gate i;
        payloads = states_payloads i;
        is_open = states_opened.is_open i;
        undecided = states_opened.settled i;
        faults = S.states.faults;
      };
      held = held i;
      behind = behind i;
      standing = standing i;
    }

pub NothingDone-none : (R : RunState) → NothingDone R R
NothingDone-none R = record { history = refl; trail = refl; own = refl; stays = λ not_own. refl }
