use Rattle.qz_snapshot.proofs.HeadBytes.{heads_once}
use Rattle.qz_snapshot.proofs.heads.heads_are_read_in_one_way.Goals as goal

pub returns : goal.returns
returns c = heads_once
