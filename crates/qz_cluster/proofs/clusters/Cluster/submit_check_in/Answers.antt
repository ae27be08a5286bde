use Rattle.std.specs.Prelude.{IfOk}
use Rattle.qz_checkin.specs.View.{view as states_view}
use Rattle.qz_cluster.specs.Script.{check_in_entry}
use Rattle.qz_cluster.specs.Submitting.{StatesSubmitted}
use Rattle.qz_cluster.proofs.AtRest.{triggers_rest}
use Rattle.qz_cluster.proofs.StepCases.{the_same}
use Rattle.qz_cluster.proofs.Unaccepted.{states_replied}
use Rattle.qz_cluster.proofs.clusters.Cluster.submit_check_in.Goals as goal

-- nothing was done on the other disk
pub returns-clause-any_moment : goal.returns-clause-any_moment
returns-clause-any_moment g c honest =
    let s = c.args.self.now.triggers in
    record { triggers = triggers_rest s (g.met.D.Disk.lawful honest s.store.journal.disk) honest; states = c.check_in-answer.ensures.any_moment honest }

pub returns-clause-ok : goal.returns-clause-ok
returns-clause-ok g c =
    the_same (λ i at. IfOk c.answered.result (λ r. StatesSubmitted (check_in_entry c.args.node.now i at) r (states_view c.args.self.now.states) (states_view c.check_in-answer.new.self)))
    c.args.interval c.args.at c.ranges.interval c.ranges.at
    (states_replied _ c.check_in-answer.result c.answered.result _ _ c.answered.ensures c.check_in-answer.ensures.one)
