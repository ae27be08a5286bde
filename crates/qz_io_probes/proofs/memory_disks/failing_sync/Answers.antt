use Rattle.std.proofs.Common.{rules}
use Rattle.qz_io_probes.proofs.memory_disks.failing_sync.Goals as goal

pub returns-clause-cause : goal.returns-clause-cause
returns-clause-cause g c = search rules

pub returns-clause-told : goal.returns-clause-told
returns-clause-told g c = search rules

pub returns-clause-call : goal.returns-clause-call
returns-clause-call g c = search rules
