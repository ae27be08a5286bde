use Rattle.qz_seen.proofs.Effects.{refuses}
use Rattle.qz_seen.proofs.laws.only_limits_refuse.Goals as goal

pub returns : goal.returns
returns c T n at command x valid time later can e = refuses T n at command x valid time later can e
