use Rattle.std.proofs.Common.{rules}
use Rattle.qz_io_probes.proofs.inputs.now.Goals as goal

pub returns-clause-tells : goal.returns-clause-tells
returns-clause-tells c = search rules

pub returns-clause-exact : goal.returns-clause-exact
returns-clause-exact c = search rules

pub returns-clause-list : goal.returns-clause-list
returns-clause-list c = search rules
