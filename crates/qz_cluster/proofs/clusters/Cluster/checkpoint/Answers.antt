use Rattle.qz_cluster.proofs.AtRest.{states_rest}
use Rattle.qz_cluster.proofs.clusters.Cluster.checkpoint.Goals as goal

-- nothing was done on the other disk
pub returns-in-Ok-true-clause-any_moment : goal.returns-in-Ok-true-clause-any_moment
returns-in-Ok-true-clause-any_moment g c honest =
    let s = c.args.self.now.states in
    record { triggers = c.checkpoint.ensures.any_moment honest; states = states_rest s (g.met.D.Disk.lawful honest s.store.journal.disk) honest }

pub returns-in-Ok-false-clause-any_moment : goal.returns-in-Ok-false-clause-any_moment
returns-in-Ok-false-clause-any_moment g c honest =
    let s = c.args.self.now.states in
    record { triggers = c.checkpoint.ensures.any_moment honest; states = states_rest s (g.met.D.Disk.lawful honest s.store.journal.disk) honest }

pub returns-in-Err-Fault-clause-any_moment : goal.returns-in-Err-Fault-clause-any_moment
returns-in-Err-Fault-clause-any_moment g c honest =
    let s = c.args.self.now.states in
    record { triggers = c.checkpoint.ensures.any_moment honest; states = states_rest s (g.met.D.Disk.lawful honest s.store.journal.disk) honest }

pub returns-in-Err-Closed-clause-any_moment : goal.returns-in-Err-Closed-clause-any_moment
returns-in-Err-Closed-clause-any_moment g c honest =
    let s = c.args.self.now.states in
    record { triggers = c.checkpoint.ensures.any_moment honest; states = states_rest s (g.met.D.Disk.lawful honest s.store.journal.disk) honest }

pub returns-in-Err-NoMemory-clause-any_moment : goal.returns-in-Err-NoMemory-clause-any_moment
returns-in-Err-NoMemory-clause-any_moment g c honest =
    let s = c.args.self.now.states in
    record { triggers = c.checkpoint.ensures.any_moment honest; states = states_rest s (g.met.D.Disk.lawful honest s.store.journal.disk) honest }
