-- Valid steps append valid entries, and leave valid tables.
use Rattle.std.proofs.Common.{◌≡◌, ℤ, Bool, true, false, List, [], ◌∷◌, ◌++◌, Option, Some, None, IsTrue, IfSome, refl, sym, subst}
use Rattle.std.specs.List.{AllByRecursion}
use Rattle.qz_types.specs.Rows.{MemberData}
use Rattle.qz_types.specs.Entries.{EntryData, StateEntryData, is_entry, is_state_command}
use Rattle.qz_steps.specs.Steps.{is_step}
use Rattle.qz_types.specs.declared.replies.Reply.{Reply}
use Rattle.qz_types.specs.declared.replies.Refusal.{Refusal}
use Rattle.qz_steps.specs.declared.steps.Step.{Step}
use Rattle.qz_steps.specs.declared.steps.Step.TheVariants.{Client, Join, CheckIn, Node, Forget, Stop, Restart, Resume, Show, Checkpoint, ShowRoom}
use Rattle.qz_types.specs.Tables.{SchedulerTables}
use Rattle.qz_types.specs.Outcomes.{Outcome, accepted, refused}
use Rattle.qz_model.specs.Transaction.{transaction}
use Rattle.qz_model.specs.Upgrading.{version_refusal}
use Rattle.qz_model.specs.History.{History, replay}
use Rattle.qz_model.specs.Invariant.{TablesValid}
use Rattle.qz_model.proofs.Histories.{replay_from-append, valid-left}
use Rattle.qz_checkin.specs.Rows.{StateTables, StateOutcome, state_transaction}
use Rattle.qz_checkin.specs.Rows as rows
use Rattle.qz_checkin.specs.History.{StateHistory, replay_states}
use Rattle.qz_cluster.specs.Script.{ScriptState, TimedStep, StepEffect, unless, effect_of, submit, effect_of_states, submit_state, with_optional, with_optional_state, effect_in, after_step, state_after}
use Rattle.qz_cluster.specs.Steps.{ClusterState, is_restart, is_asking, is_unheld, first_refusal, state_entry_of_step, entry_of_step, held_after}
use Rattle.qz_cluster.proofs.Effects.{onto_triggers, onto_states, plain_effect, effect_at, effect_is}
use Rattle.qz_cluster.proofs.Scripts.{as_cluster}
use Rattle.qz_cluster.proofs.Sound.{valid_entry, valid_state_entry}

abbrev pub Good : EntryData → Type 0
Good e = IsTrue (is_entry e)

abbrev pub GoodState : StateEntryData → Type 0
GoodState e = IsTrue (is_state_command e.command)

-- an effect appends only valid entries
abbrev pub AppendsValid : StepEffect → Type 0
AppendsValid effect = IfSome effect.entry Good × IfSome effect.state_entry GoodState

effect_of_valid : (e : EntryData) (held : List MemberData) (after : Reply → List MemberData) (o : Outcome) → Good e → AppendsValid (effect_of e held after o)
effect_of_valid e held after (accepted T r) good = (good, tt)
effect_of_valid e held after (refused x) good = (tt, tt)

unless_valid : (x : Option Refusal) (held : List MemberData) (effect : StepEffect) → AppendsValid effect → AppendsValid (unless x held effect)
unless_valid None held effect valid = valid
unless_valid (Some y) held effect valid = (tt, tt)

onto_triggers_valid : (T : SchedulerTables) (held : List MemberData) (o : Option EntryData) (after : Reply → List MemberData) → IfSome o Good → AppendsValid (onto_triggers T held o after)
unfolding submit
onto_triggers_valid T held None after good = (tt, tt)
onto_triggers_valid T held (Some e) after good = unless_valid (version_refusal T e.command) held _ (effect_of_valid e held after (transaction T e) good)

effect_of_states_valid : (e : StateEntryData) (held : List MemberData) (o : StateOutcome) (effect : StepEffect) → GoodState e → AppendsValid effect → AppendsValid (effect_of_states e held o effect)
effect_of_states_valid e held (rows.accepted S) effect good valid = (valid.0, good)
effect_of_states_valid e held (rows.refused x) effect good valid = (tt, tt)

onto_states_valid : (R : StateTables) (held : List MemberData) (o : Option StateEntryData) (effect : StepEffect) → IfSome o GoodState → AppendsValid effect → AppendsValid (onto_states R held o effect)
unfolding submit_state
onto_states_valid R held None effect good valid = valid
onto_states_valid R held (Some e) effect good valid = effect_of_states_valid e held (state_transaction R e) effect good valid

plain_valid : (stops : Bool) (refusal : Option Refusal) (se : Option StateEntryData) (e : Option EntryData) (T : SchedulerTables) (R : StateTables) (held : List MemberData) (after : Reply → List MemberData)
    → IfSome se GoodState → IfSome e Good → AppendsValid (plain_effect stops refusal se e T R held after)
plain_valid true refusal se e T R held after good_state good = (tt, tt)
plain_valid false (Some x) se e T R held after good_state good = (tt, tt)
plain_valid false None se e T R held after good_state good = onto_states_valid R held se (onto_triggers T held e after) good_state (onto_triggers_valid T held e after good)

if_some : {A : Type 0} (P : A → Type 0) (o : Option A) → ((x : A) → o ≡ Some x → P x) → IfSome o P
if_some P None all = tt
if_some P (Some x) all = all x refl

works_valid : (S : ClusterState) (x : Step) (at : ℤ) → IsTrue (is_step x) → is_restart x ≡ false → is_asking x ≡ false → AppendsValid (effect_at S x at)
works_valid S x at valid works acts =
    subst AppendsValid (sym (effect_is S x at works acts))
    (plain_valid (is_unheld x S.held) (first_refusal S x at) (state_entry_of_step S x at) (entry_of_step S.held x at) (replay S.triggers.history) (replay_states S.states.history) S.held (held_after x S.held)
    (if_some GoodState (state_entry_of_step S x at) (λ e asked. valid_state_entry S x at e valid asked))
    (if_some Good (entry_of_step S.held x at) (λ e asked. valid_entry x S.held at e valid asked)))

-- what a valid step appends is valid
pub step_valid : (S : ClusterState) (x : Step) (at : ℤ) → IsTrue (is_step x) → AppendsValid (effect_at S x at)
step_valid S Restart at valid = (tt, tt)
step_valid S (Show question) at valid = (tt, tt)
step_valid S Checkpoint at valid = (tt, tt)
step_valid S ShowRoom at valid = (tt, tt)
step_valid S (Client c) at valid = works_valid S (Client c) at valid refl refl
step_valid S (Join node interval) at valid = works_valid S (Join node interval) at valid refl refl
step_valid S (CheckIn node interval) at valid = works_valid S (CheckIn node interval) at valid refl refl
step_valid S (Node node c) at valid = works_valid S (Node node c) at valid refl refl
step_valid S (Forget node failed) at valid = works_valid S (Forget node failed) at valid refl refl
step_valid S (Stop node) at valid = works_valid S (Stop node) at valid refl refl
step_valid S (Resume node epoch) at valid = works_valid S (Resume node epoch) at valid refl refl

-- an entry that is valid leaves valid tables, accepted or not
valid-with_optional : (e : Option EntryData) (h : History) → IfSome e Good → TablesValid (replay h) → TablesValid (replay (with_optional e h))
valid-with_optional None h good valid = valid
valid-with_optional (Some e) h good valid = subst TablesValid (sym (replay_from-append h.base h.entries (e ∷ []))) (valid-left (replay h) e good valid)

all_more : {A : Type 0} (P : A → Type 0) (es : List A) (e : A) → AllByRecursion P es → P e → AllByRecursion P (es ++ e ∷ [])
all_more P [] e all good = (good, tt)
all_more P (x ∷ es) e all good = (all.0, all_more P es e all.1 good)

entries_more : (e : Option EntryData) (h : History) → IfSome e Good → AllByRecursion Good h.entries → AllByRecursion Good (with_optional e h).entries
entries_more None h good all = all
entries_more (Some e) h good all = all_more Good h.entries e all good

state_entries_more : (e : Option StateEntryData) (h : StateHistory) → IfSome e GoodState → AllByRecursion GoodState h.entries → AllByRecursion GoodState (with_optional_state e h).entries
state_entries_more None h good all = all
state_entries_more (Some e) h good all = all_more GoodState h.entries e all good

-- valid steps leave valid tables
pub valid-state_after : (s : ScriptState) (ts : List TimedStep) → AllByRecursion (λ t. IsTrue (is_step t.step)) ts → TablesValid (replay s.history) → TablesValid (replay (state_after s ts).history)
valid-state_after s [] good valid = valid
valid-state_after s (t ∷ ts) good valid =
    valid-state_after (after_step s t) ts good.1 (valid-with_optional (effect_in s t).entry s.history (step_valid (as_cluster s) t.step t.at good.0).0 valid)

-- and valid entries
pub entries-state_after : (s : ScriptState) (ts : List TimedStep) → AllByRecursion (λ t. IsTrue (is_step t.step)) ts → AllByRecursion Good s.history.entries → AllByRecursion Good (state_after s ts).history.entries
entries-state_after s [] good all = all
entries-state_after s (t ∷ ts) good all =
    entries-state_after (after_step s t) ts good.1 (entries_more (effect_in s t).entry s.history (step_valid (as_cluster s) t.step t.at good.0).0 all)

pub state_entries-state_after : (s : ScriptState) (ts : List TimedStep) → AllByRecursion (λ t. IsTrue (is_step t.step)) ts → AllByRecursion GoodState s.states.entries → AllByRecursion GoodState (state_after s ts).states.entries
state_entries-state_after s [] good all = all
state_entries-state_after s (t ∷ ts) good all =
    state_entries-state_after (after_step s t) ts good.1 (state_entries_more (effect_in s t).state_entry s.states (step_valid (as_cluster s) t.step t.at good.0).1 all)
