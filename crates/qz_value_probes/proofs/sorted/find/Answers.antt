use Rattle.std.proofs.Common.{rules}
use Rattle.qz_value_probes.proofs.sorted.find.Goals as goal

pub returns : goal.returns
returns g c = search rules
