use Rattle.std.proofs.Common.{rules}
use Rattle.qz_top_probes.proofs.histories.tell.Goals as goal

pub returns-clause-done : goal.returns-clause-done
returns-clause-done g c = search rules

pub returns-clause-write : goal.returns-clause-write
returns-clause-write g c = search rules

pub returns-clause-disk : goal.returns-clause-disk
returns-clause-disk g c = search rules

pub returns-clause-complete : goal.returns-clause-complete
returns-clause-complete g c = search rules

pub returns-clause-handed : goal.returns-clause-handed
returns-clause-handed g c = search rules

pub returns-clause-reported : goal.returns-clause-reported
returns-clause-reported g c = search rules
