use Rattle.std.proofs.Common.{rules}
use Rattle.qz_io_probes.proofs.disks.sync.Goals as goal

pub returns-clause-length : goal.returns-clause-length
returns-clause-length g c = search rules

pub returns-clause-cause : goal.returns-clause-cause
returns-clause-cause g c = search rules

pub returns-clause-told : goal.returns-clause-told
returns-clause-told g c = search rules
