use Rattle.std.proofs.Common.{to_z, of_z, w64, sym, subst}
use Rattle.std.specs.Prelude.{IfOk, IfErr}
use Rattle.qz_stores.specs.Stores.{Appends}
use Rattle.qz_checkin.specs.Entries.{of_states}
use Rattle.qz_checkin.specs.View.{view as states_view, LeavesEither as LeaveEither}
use Rattle.qz_steps.specs.declared.steps.Step.TheVariants.{Join}
use Rattle.qz_cluster.specs.Script.{check_in_entry}
use Rattle.qz_cluster.specs.Steps.{StepCase, EndCase}
use Rattle.qz_cluster.specs.View.{view, IsTold}
use Rattle.qz_cluster.proofs.AtRest.{triggers_rest}
use Rattle.qz_cluster.proofs.NodeCases.{joined, joined_not}
use Rattle.qz_cluster.proofs.StepCases.{the_same}
use Rattle.qz_cluster.proofs.clusters.Cluster.join_in_room.Goals as goal

pub returns-in-Ok-clause-any_moment : goal.returns-in-Ok-clause-any_moment
returns-in-Ok-clause-any_moment g c honest = record {
  triggers = (c.join_with.ensures.any_moment honest).triggers;
  states = subst (λ t. LeaveEither c.args.self.now.states t) (sym c.join_with.ensures.states) (c.check_in.ensures.any_moment honest);
}

-- nothing was done on the other disk
pub returns-in-Err-clause-any_moment : goal.returns-in-Err-clause-any_moment
returns-in-Err-clause-any_moment g c honest =
    let s = c.args.self.now.triggers in
    record { triggers = triggers_rest s (g.met.D.Disk.lawful honest s.store.journal.disk) honest; states = c.check_in.ensures.any_moment honest }

pub returns-in-Ok-clause-ok : goal.returns-in-Ok-clause-ok
returns-in-Ok-clause-ok g c =
    let s = c.args.self.now in
    the_same (λ i at. IfOk c.join_with.result (λ r. StepCase (IsTold s) (record { step = Join c.args.node i; at = at }) r (view s) (view c.join_with.new.self)))
    c.args.interval c.args.at c.ranges.interval c.ranges.at
    (joined (IsTold s) c.args.node _ _ (view s) (view c.join_with.new.self) c.requires.ready
    (subst (λ t. Appends of_states (check_in_entry c.args.node (to_z w64 (of_z w64 c.args.interval)) (to_z w64 (of_z w64 c.args.at))) tt (states_view s.states) (states_view t)) (sym c.join_with.ensures.states)
    (subst (λ n. Appends of_states (check_in_entry n (to_z w64 (of_z w64 c.args.interval)) (to_z w64 (of_z w64 c.args.at))) tt (states_view s.states) (states_view c.check_in.new.self)) c.requires.name c.in-Ok.ensures.one))
    c.join_with.result c.join_with.ensures.ok c.join_with.ensures.held)

pub returns-in-Ok-clause-err : goal.returns-in-Ok-clause-err
returns-in-Ok-clause-err g c =
    let s = c.args.self.now in
    the_same (λ i at. IfErr c.join_with.result (λ e. EndCase (IsTold s) (record { step = Join c.args.node i; at = at }) e (view s) (view c.join_with.new.self)))
    c.args.interval c.args.at c.ranges.interval c.ranges.at
    (joined_not (IsTold s) c.args.node _ _ (view s) (view c.join_with.new.self) c.requires.ready
    (subst (λ t. Appends of_states (check_in_entry c.args.node (to_z w64 (of_z w64 c.args.interval)) (to_z w64 (of_z w64 c.args.at))) tt (states_view s.states) (states_view t)) (sym c.join_with.ensures.states)
    (subst (λ n. Appends of_states (check_in_entry n (to_z w64 (of_z w64 c.args.interval)) (to_z w64 (of_z w64 c.args.at))) tt (states_view s.states) (states_view c.check_in.new.self)) c.requires.name c.in-Ok.ensures.one))
    c.join_with.result c.join_with.ensures.err c.join_with.ensures.held_stays)
