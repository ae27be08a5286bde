use Rattle.qz_cluster.proofs.AtRest.{rests}
use Rattle.qz_cluster.proofs.clusters.Cluster.show_room.Goals as goal

-- nothing is done
pub returns-then-self-clause-any_moment : goal.returns-then-self-clause-any_moment
returns-then-self-clause-any_moment g c honest =
    let s = c.args.self.now in
    rests s (g.met.D.Disk.lawful honest s.triggers.store.journal.disk) (g.met.D.Disk.lawful honest s.states.store.journal.disk) honest

pub returns-else-self-clause-any_moment : goal.returns-else-self-clause-any_moment
returns-else-self-clause-any_moment g c honest =
    let s = c.args.self.now in
    rests s (g.met.D.Disk.lawful honest s.triggers.store.journal.disk) (g.met.D.Disk.lawful honest s.states.store.journal.disk) honest
