use Rattle.std.proofs.Common.{rules}
use Rattle.qz_io_probes.proofs.outputs.write.Goals as goal

pub returns-clause-bound : goal.returns-clause-bound
returns-clause-bound g c = search rules

pub returns-clause-some : goal.returns-clause-some
returns-clause-some g c = search rules

pub returns-clause-bytes : goal.returns-clause-bytes
returns-clause-bytes g c = search rules

pub returns-clause-cause : goal.returns-clause-cause
returns-clause-cause g c = search rules
