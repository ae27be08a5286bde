use Rattle.std.proofs.Common.{rules}
use Rattle.qz_store_probes.proofs.histories.behind.Goals as goal

pub returns : goal.returns
returns g c = search rules
