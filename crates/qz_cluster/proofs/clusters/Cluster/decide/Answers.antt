use Rattle.qz_cluster.proofs.AtRest.{rests}
use Rattle.qz_cluster.proofs.clusters.Cluster.decide.Goals as goal

-- nothing is done
pub returns-in-Ok-clause-any_moment : goal.returns-in-Ok-clause-any_moment
returns-in-Ok-clause-any_moment g c honest =
    let s = c.args.self.now in
    rests s (g.met.D.Disk.lawful honest s.triggers.store.journal.disk) (g.met.D.Disk.lawful honest s.states.store.journal.disk) honest

pub returns-in-Err-clause-any_moment : goal.returns-in-Err-clause-any_moment
returns-in-Err-clause-any_moment g c honest =
    let s = c.args.self.now in
    rests s (g.met.D.Disk.lawful honest s.triggers.store.journal.disk) (g.met.D.Disk.lawful honest s.states.store.journal.disk) honest
