use Rattle.qz_cluster.proofs.AtRest.{states_rest}
use Rattle.qz_cluster.proofs.clusters.Cluster.submit.Goals as goal

-- nothing was done on the other disk
pub returns-in-Ok-clause-any_moment : goal.returns-in-Ok-clause-any_moment
returns-in-Ok-clause-any_moment g c honest =
    let s = c.args.self.now.states in
    record { triggers = c.submit.ensures.any_moment honest; states = states_rest s (g.met.D.Disk.lawful honest s.store.journal.disk) honest }

pub returns-in-Err-clause-any_moment : goal.returns-in-Err-clause-any_moment
returns-in-Err-clause-any_moment g c honest =
    let s = c.args.self.now.states in
    record { triggers = c.submit.ensures.any_moment honest; states = states_rest s (g.met.D.Disk.lawful honest s.store.journal.disk) honest }
