use Rattle.qz_cluster.proofs.AtRest.{rests, triggers_rest, states_rest}
use Rattle.qz_cluster.proofs.clusters.Cluster.stop.Goals as goal

-- nothing was done
pub returns-then-is_none-clause-any_moment : goal.returns-then-is_none-clause-any_moment
returns-then-is_none-clause-any_moment g c honest =
    let s = c.args.self.now in
    rests s (g.met.D.Disk.lawful honest s.triggers.store.journal.disk) (g.met.D.Disk.lawful honest s.states.store.journal.disk) honest

-- nothing was done on the disks
pub returns-clause-any_moment : goal.returns-clause-any_moment
returns-clause-any_moment g c honest =
    let s = c.args.self.now in
    record {
      triggers = triggers_rest s.triggers (g.met.D.Disk.lawful honest s.triggers.store.journal.disk) honest;
      states = states_rest s.states (g.met.D.Disk.lawful honest s.states.store.journal.disk) honest;
    }
