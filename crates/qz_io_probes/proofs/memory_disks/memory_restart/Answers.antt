use Rattle.std.proofs.Common.{rules}
use Rattle.qz_io_probes.proofs.memory_disks.memory_restart.Goals as goal

pub returns-clause-told : goal.returns-clause-told
returns-clause-told c = search rules

pub returns-clause-recorded : goal.returns-clause-recorded
returns-clause-recorded c = search rules
