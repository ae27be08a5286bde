use Rattle.std.proofs.Common.{rules}
use Rattle.qz_io_probes.proofs.outputs.flush.Goals as goal

pub returns-clause-bytes : goal.returns-clause-bytes
returns-clause-bytes g c = search rules

pub returns-clause-handed : goal.returns-clause-handed
returns-clause-handed g c = search rules

pub returns-clause-cause : goal.returns-clause-cause
returns-clause-cause g c = search rules
