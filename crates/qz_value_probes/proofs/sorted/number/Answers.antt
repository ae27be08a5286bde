use Rattle.std.proofs.Common.{rules}
use Rattle.qz_value_probes.proofs.sorted.number.Goals as goal

pub returns : goal.returns
returns c = search rules
