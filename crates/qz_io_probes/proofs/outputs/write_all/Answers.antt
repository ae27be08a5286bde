use Rattle.std.proofs.Common.{rules}
use Rattle.qz_io_probes.proofs.outputs.write_all.Goals as goal

pub returns-clause-ok : goal.returns-clause-ok
returns-clause-ok g c = search rules

pub returns-clause-part : goal.returns-clause-part
returns-clause-part g c = search rules

pub returns-clause-cause : goal.returns-clause-cause
returns-clause-cause g c = search rules
