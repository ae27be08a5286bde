use Rattle.qz_snapshot.proofs.Midway.{partly_first}
use Rattle.qz_snapshot.proofs.checkpoints.append_each.Goals as goal

pub returns-clause-any_moment : goal.returns-clause-any_moment
returns-clause-any_moment g c h all holds gate_is =
    let j = c.args.journal.now in
    partly_first j.version j.kind j.gate (g.D.Disk.state j.disk) (g.D.Disk.state c.append_all.new.self.disk) all c.args.payloads.now j.after_header (c.append_all.ensures.any_moment h all holds gate_is) (c.append_all.ensures.front h)
