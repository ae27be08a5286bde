use Rattle.qz_run_stores.proofs.Going.{triggers_went, states_went}
use Rattle.qz_run_stores.proofs.stores.RunStores.into_stores.Goals as goal

pub returns-clause-triggers : goal.returns-clause-triggers
returns-clause-triggers g c =
    let self = c.args.self in
    triggers_went self.entries_before self.triggers_begun.value self.triggers self.version_stays self.base_count_stays self.base_stays self.found_stays self.keeps_stays self.entries_stay self.asked self.kept self.later self.closes

pub returns-clause-states : goal.returns-clause-states
returns-clause-states g c =
    let self = c.args.self in
    states_went self.rows_before self.states_begun.value self.states self.rows_stay self.states_kept self.states_later self.states_close
