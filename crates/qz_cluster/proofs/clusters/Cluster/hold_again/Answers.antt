use Rattle.qz_cluster.proofs.AtRest.{triggers_rest, states_rest}
use Rattle.qz_cluster.proofs.clusters.Cluster.hold_again.Goals as goal

-- nothing was done on the disks
pub returns-clause-any_moment : goal.returns-clause-any_moment
returns-clause-any_moment g c honest =
    let s = c.args.self.now in
    record {
      triggers = triggers_rest s.triggers (g.met.D.Disk.lawful honest s.triggers.store.journal.disk) honest;
      states = states_rest s.states (g.met.D.Disk.lawful honest s.states.store.journal.disk) honest;
    }

pub returns-in_err-reserve-clause-any_moment : goal.returns-in_err-reserve-clause-any_moment
returns-in_err-reserve-clause-any_moment g c honest =
    let s = c.args.self.now in
    record {
      triggers = triggers_rest s.triggers (g.met.D.Disk.lawful honest s.triggers.store.journal.disk) honest;
      states = states_rest s.states (g.met.D.Disk.lawful honest s.states.store.journal.disk) honest;
    }
