use Rattle.qz_snapshot.proofs.Unique.{snapshot_once}
use Rattle.qz_snapshot.proofs.laws.snapshots_are_read_in_one_way.Goals as goal

pub returns : goal.returns
returns c = snapshot_once
