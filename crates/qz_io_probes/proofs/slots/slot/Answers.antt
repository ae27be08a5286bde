use Rattle.std.proofs.Common.{rules}
use Rattle.qz_io_probes.proofs.slots.slot.Goals as goal

pub returns : goal.returns
returns g c = search rules
