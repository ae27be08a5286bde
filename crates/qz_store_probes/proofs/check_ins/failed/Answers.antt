use Rattle.std.proofs.Common.{rules}
use Rattle.qz_store_probes.proofs.check_ins.failed.Goals as goal

pub returns : goal.returns
returns g c = search rules
