-- Scripts that go on, and what their steps append.
use Rattle.std.proofs.Common.{◌≡◌, ℤ, Bool, true, false, List, [], ◌∷◌, ◌++◌, Option, Some, None, refl, sym, ap, subst}
use Rattle.std.specs.Prelude.{⊤}
use Rattle.qz_types.specs.Rows.{MemberData}
use Rattle.qz_types.specs.Entries.{EntryData, StateEntryData}
use Rattle.qz_types.specs.declared.replies.Reply.{Reply}
use Rattle.qz_types.specs.declared.replies.Refusal.{Refusal}
use Rattle.qz_steps.specs.declared.steps.Step.{Step}
use Rattle.qz_steps.specs.declared.steps.Step.TheVariants.{Client, Join, CheckIn, Node, Forget, Stop, Restart, Resume, Show, Checkpoint, ShowRoom}
use Rattle.qz_types.specs.Tables.{SchedulerTables}
use Rattle.qz_types.specs.Outcomes.{Outcome, accepted, refused, IsAccepted}
use Rattle.qz_model.specs.Transaction.{transaction}
use Rattle.qz_model.specs.Upgrading.{version_refusal}
use Rattle.qz_model.specs.History.{History, IsLegal, replay}
use Rattle.qz_model.proofs.Histories.{IsLegalFrom-entry}
use Rattle.qz_checkin.specs.Rows.{StateTables, StateOutcome, state_transaction}
use Rattle.qz_checkin.specs.Rows as rows
use Rattle.qz_checkin.specs.History.{StateHistory, IsLegal as AreLegal, replay_states}
use Rattle.qz_checkin.proofs.Histories.{IsLegalFrom-entry as states_legal_entry}
use Rattle.qz_cluster.specs.Script.{ScriptState, TimedStep, StepEffect, unless, effect_of, submit, effect_of_states, submit_state, with_optional, with_optional_state, effect_in, after_step, state_after, step_replies}
use Rattle.qz_cluster.specs.Steps.{ClusterState, is_restart, is_asking, is_unheld, first_refusal, state_entry_of_step, entry_of_step, held_after}
use Rattle.qz_cluster.proofs.Effects.{onto_triggers, onto_states, plain_effect, effect_at, effect_is}

pub state_after-append : (s : ScriptState) (ts us : List TimedStep) → state_after s (ts ++ us) ≡ state_after (state_after s ts) us
state_after-append s [] us = refl
state_after-append s (t ∷ ts) us = state_after-append (after_step s t) ts us

pub step_replies-append : (s : ScriptState) (ts us : List TimedStep) → step_replies s (ts ++ us) ≡ step_replies s ts ++ step_replies (state_after s ts) us
step_replies-append s [] us = refl
step_replies-append s (t ∷ ts) us = ap (λ rs. (effect_in s t).reply ∷ rs) (step_replies-append (after_step s t) ts us)

-- the tables accept the entry, if there is one
abbrev pub IsAcceptedAt : SchedulerTables → Option EntryData → Type 0
IsAcceptedAt T None = ⊤
IsAcceptedAt T (Some e) = IsAccepted (transaction T e)

-- so do the rows
abbrev pub AreAcceptedAt : StateTables → Option StateEntryData → Type 0
AreAcceptedAt R None = ⊤
AreAcceptedAt R (Some e) = rows.IsAccepted (state_transaction R e)

-- an effect appends only what is accepted
abbrev pub IsFit : SchedulerTables → StateTables → StepEffect → Type 0
IsFit T R effect = IsAcceptedAt T effect.entry × AreAcceptedAt R effect.state_entry

effect_of_fit : (T : SchedulerTables) (R : StateTables) (e : EntryData) (held : List MemberData) (after : Reply → List MemberData) (o : Outcome)
    → transaction T e ≡ o → IsFit T R (effect_of e held after o)
effect_of_fit T R e held after (accepted U r) is = (subst IsAccepted (sym is) tt, tt)
effect_of_fit T R e held after (refused x) is = (tt, tt)

unless_fit : (T : SchedulerTables) (R : StateTables) (x : Option Refusal) (held : List MemberData) (effect : StepEffect) → IsFit T R effect → IsFit T R (unless x held effect)
unless_fit T R None held effect fit = fit
unless_fit T R (Some y) held effect fit = (tt, tt)

onto_triggers_fit : (T : SchedulerTables) (R : StateTables) (held : List MemberData) (o : Option EntryData) (after : Reply → List MemberData) → IsFit T R (onto_triggers T held o after)
unfolding submit
onto_triggers_fit T R held None after = (tt, tt)
onto_triggers_fit T R held (Some e) after = unless_fit T R (version_refusal T e.command) held _ (effect_of_fit T R e held after (transaction T e) refl)

effect_of_states_fit : (T : SchedulerTables) (R : StateTables) (e : StateEntryData) (held : List MemberData) (o : StateOutcome) (effect : StepEffect)
    → state_transaction R e ≡ o → IsFit T R effect → IsFit T R (effect_of_states e held o effect)
effect_of_states_fit T R e held (rows.accepted S) effect is fit = (fit.0, subst rows.IsAccepted (sym is) tt)
effect_of_states_fit T R e held (rows.refused x) effect is fit = (tt, tt)

onto_states_fit : (T : SchedulerTables) (R : StateTables) (held : List MemberData) (o : Option StateEntryData) (effect : StepEffect) → IsFit T R effect → IsFit T R (onto_states R held o effect)
unfolding submit_state
onto_states_fit T R held None effect fit = fit
onto_states_fit T R held (Some e) effect fit = effect_of_states_fit T R e held (state_transaction R e) effect refl fit

plain_fit : (stops : Bool) (refusal : Option Refusal) (se : Option StateEntryData) (e : Option EntryData) (T : SchedulerTables) (R : StateTables) (held : List MemberData) (after : Reply → List MemberData)
    → IsFit T R (plain_effect stops refusal se e T R held after)
plain_fit true refusal se e T R held after = (tt, tt)
plain_fit false (Some x) se e T R held after = (tt, tt)
plain_fit false None se e T R held after = onto_states_fit T R held se (onto_triggers T held e after) (onto_triggers_fit T R held e after)

works_fit : (S : ClusterState) (x : Step) (at : ℤ) → is_restart x ≡ false → is_asking x ≡ false → IsFit (replay S.triggers.history) (replay_states S.states.history) (effect_at S x at)
works_fit S x at works acts =
    subst (λ (f : StepEffect). IsFit (replay S.triggers.history) (replay_states S.states.history) f) (sym (effect_is S x at works acts))
    (plain_fit (is_unheld x S.held) (first_refusal S x at) (state_entry_of_step S x at) (entry_of_step S.held x at) (replay S.triggers.history) (replay_states S.states.history) S.held (held_after x S.held))

-- a step appends only what is accepted
pub step_fit : (S : ClusterState) (x : Step) (at : ℤ) → IsFit (replay S.triggers.history) (replay_states S.states.history) (effect_at S x at)
step_fit S Restart at = (tt, tt)
step_fit S (Show question) at = (tt, tt)
step_fit S Checkpoint at = (tt, tt)
step_fit S ShowRoom at = (tt, tt)
step_fit S (Client c) at = works_fit S (Client c) at refl refl
step_fit S (Join node interval) at = works_fit S (Join node interval) at refl refl
step_fit S (CheckIn node interval) at = works_fit S (CheckIn node interval) at refl refl
step_fit S (Node node c) at = works_fit S (Node node c) at refl refl
step_fit S (Forget node failed) at = works_fit S (Forget node failed) at refl refl
step_fit S (Stop node) at = works_fit S (Stop node) at refl refl
step_fit S (Resume node epoch) at = works_fit S (Resume node epoch) at refl refl

-- a cluster with the histories and the held epochs of a script
abbrev pub as_cluster : ScriptState → ClusterState
as_cluster s = record {
  triggers = record { history = s.history; gate = 0; payloads = 0; is_open = true; undecided = None; faults = 0 };
  states = record { history = s.states; gate = 0; payloads = 0; is_open = true; undecided = None; faults = 0 };
  held = s.held;
  behind = 0;
  standing = true;
}

pub IsLegal-with_optional : (e : Option EntryData) (h : History) → IsLegal h → IsAcceptedAt (replay h) e → IsLegal (with_optional e h)
IsLegal-with_optional None h legal now = legal
IsLegal-with_optional (Some e) h legal now = IsLegalFrom-entry h.base h.entries e legal now

AreLegal-with_optional : (e : Option StateEntryData) (h : StateHistory) → AreLegal h → AreAcceptedAt (replay_states h) e → AreLegal (with_optional_state e h)
AreLegal-with_optional None h legal now = legal
AreLegal-with_optional (Some e) h legal now = states_legal_entry h.base h.entries e legal now

-- the steps of a script leave a legal history
pub IsLegal-state_after : (s : ScriptState) (ts : List TimedStep) → IsLegal s.history → IsLegal (state_after s ts).history
IsLegal-state_after s [] legal = legal
IsLegal-state_after s (t ∷ ts) legal =
    IsLegal-state_after (after_step s t) ts (IsLegal-with_optional (effect_in s t).entry s.history legal (step_fit (as_cluster s) t.step t.at).0)

-- of each store
pub AreLegal-state_after : (s : ScriptState) (ts : List TimedStep) → AreLegal s.states → AreLegal (state_after s ts).states
AreLegal-state_after s [] legal = legal
AreLegal-state_after s (t ∷ ts) legal =
    AreLegal-state_after (after_step s t) ts (AreLegal-with_optional (effect_in s t).state_entry s.states legal (step_fit (as_cluster s) t.step t.at).1)
