-- A script goes on in the same way from histories that leave the same.
use Rattle.std.proofs.Common.{◌≡◌, List, [], ◌∷◌, Option, Some, None, refl, sym, ap, ◌∙◌}
use Rattle.qz_types.specs.Entries.{EntryData, StateEntryData}
use Rattle.qz_types.specs.Tables.{SchedulerTables}
use Rattle.qz_model.specs.History.{History, replay, tables_left}
use Rattle.qz_model.specs.Transaction.{transaction}
use Rattle.qz_model.proofs.Histories.{replay_from-append}
use Rattle.qz_checkin.specs.History.{StateHistory, replay_states, rows_left}
use Rattle.qz_checkin.specs.Rows.{StateTables, state_transaction}
use Rattle.qz_checkin.specs.Laws.{state_lawful}
use Rattle.qz_steps.specs.declared.steps.StepReply.{StepReply}
use Rattle.qz_cluster.specs.Script.{ScriptState, TimedStep, StepEffect, step_effect, with_optional, with_optional_state, effect_in, after_step, step_replies}

-- both leave the same tables and rows, and the same epochs are held
pub record IsSameScript (s t : ScriptState) : Type 0 where
  pub tables : replay s.history ≡ replay t.history
  pub rows : replay_states s.states ≡ replay_states t.states
  pub held : s.held ≡ t.held

optional_tables : (o : Option EntryData) (h g : History) → replay h ≡ replay g → replay (with_optional o h) ≡ replay (with_optional o g)
optional_tables None h g same = same
optional_tables (Some e) h g same =
    replay_from-append h.base h.entries (e ∷ []) ∙ ap (λ (T : SchedulerTables). tables_left T (transaction T e)) same ∙ sym (replay_from-append g.base g.entries (e ∷ []))

optional_rows : (o : Option StateEntryData) (h g : StateHistory) → replay_states h ≡ replay_states g → replay_states (with_optional_state o h) ≡ replay_states (with_optional_state o g)
optional_rows None h g same = same
optional_rows (Some e) h g same =
    state_lawful.replay_more h.base h.entries e ∙ ap (λ (T : StateTables). rows_left T (state_transaction T e)) same ∙ sym (state_lawful.replay_more g.base g.entries e)

pub same_effect : (s t : ScriptState) (x : TimedStep) → IsSameScript s t → effect_in s x ≡ effect_in t x
same_effect s t x same = λ i. step_effect (same.tables i) (same.rows i) (same.held i) x.step x.at

-- a step leads from both to what leaves the same
pub same_after : (s t : ScriptState) (x : TimedStep) → IsSameScript s t → IsSameScript (after_step s x) (after_step t x)
same_after s t x same =
    let one = same_effect s t x same in
    record {
      tables = optional_tables (effect_in s x).entry s.history t.history same.tables ∙ ap (λ (e : StepEffect). replay (with_optional e.entry t.history)) one;
      rows = optional_rows (effect_in s x).state_entry s.states t.states same.rows ∙ ap (λ (e : StepEffect). replay_states (with_optional_state e.state_entry t.states)) one;
      held = ap (λ (e : StepEffect). e.held) one;
    }

pub same_replies : (s t : ScriptState) (xs : List TimedStep) → IsSameScript s t → step_replies s xs ≡ step_replies t xs
same_replies s t [] same = refl
same_replies s t (x ∷ xs) same =
    ap (λ (e : StepEffect). e.reply ∷ step_replies (after_step s x) xs) (same_effect s t x same)
    ∙ ap (λ (rs : List StepReply). (effect_in t x).reply ∷ rs) (same_replies (after_step s x) (after_step t x) xs (same_after s t x same))

pub then_same : (s t u : ScriptState) → IsSameScript s t → IsSameScript t u → IsSameScript s u
then_same s t u first second = record { tables = first.tables ∙ second.tables; rows = first.rows ∙ second.rows; held = first.held ∙ second.held }
