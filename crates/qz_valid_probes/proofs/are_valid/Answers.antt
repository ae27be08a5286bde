use Rattle.std.proofs.Common.{rules}
use Rattle.qz_valid_probes.proofs.are_valid.Goals as goal

pub returns : goal.returns
returns c = search rules
