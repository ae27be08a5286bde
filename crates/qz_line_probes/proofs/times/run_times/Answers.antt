use Rattle.std.proofs.Common.{rules}
use Rattle.qz_line_probes.proofs.times.run_times.Goals as goal

pub returns-clause-run : goal.returns-clause-run
returns-clause-run g c = search rules

pub returns-clause-read : goal.returns-clause-read
returns-clause-read g c = search rules

pub returns-clause-write : goal.returns-clause-write
returns-clause-write g c = search rules
