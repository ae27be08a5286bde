use Rattle.qz_model.specs.History.{replay}
use Rattle.qz_trigger_store.specs.View.{view}
use Rattle.qz_checkin.specs.View.{view as states_view}
use Rattle.qz_run_stores.proofs.Asked.{none_asked, all_stay}
use Rattle.qz_run_stores.proofs.Ways.{triggers_begin, states_begin}
use Rattle.qz_run_stores.proofs.stores.RunStores.new.Goals as goal

pub invariant_of-result-clause-asked : goal.invariant_of-result-clause-asked
invariant_of-result-clause-asked g c = rw c.of-triggers_begun.ensures (none_asked (replay (view c.args.triggers).history) _ (view c.args.triggers).history.entries c.listed-entries_before.ensures)

pub invariant_of-result-clause-entries_stay : goal.invariant_of-result-clause-entries_stay
invariant_of-result-clause-entries_stay g c = rw c.of-triggers_begun.ensures (all_stay _ (view c.args.triggers).history.entries c.listed-entries_before.ensures)

pub invariant_of-result-clause-rows_stay : goal.invariant_of-result-clause-rows_stay
invariant_of-result-clause-rows_stay g c = rw c.of-states_begun.ensures (all_stay _ (states_view c.args.states).history.entries c.history_len-rows_before.ensures)

pub invariant_of-result-clause-kept : goal.invariant_of-result-clause-kept
invariant_of-result-clause-kept g c = rw c.of-triggers_begun.ensures (triggers_begin (λ d honest. g.met.D.Disk.lawful honest d) c.args.triggers)

pub invariant_of-result-clause-states_kept : goal.invariant_of-result-clause-states_kept
invariant_of-result-clause-states_kept g c = rw c.of-states_begun.ensures (states_begin (λ d honest. g.met.D.Disk.lawful honest d) c.args.states)
