use Rattle.std.proofs.Common.{rules}
use Rattle.qz_io_probes.proofs.disks.restart.Goals as goal

pub returns-clause-cause : goal.returns-clause-cause
returns-clause-cause g c = search rules

pub returns-clause-told : goal.returns-clause-told
returns-clause-told g c = search rules
