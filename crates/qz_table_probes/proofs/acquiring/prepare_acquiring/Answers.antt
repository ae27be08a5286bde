use Rattle.std.proofs.Common.{rules}
use Rattle.qz_table_probes.proofs.acquiring.prepare_acquiring.Goals as goal

pub returns-clause-ok : goal.returns-clause-ok
returns-clause-ok c = search rules

pub returns-clause-cause : goal.returns-clause-cause
returns-clause-cause c = search rules

pub returns-clause-memory : goal.returns-clause-memory
returns-clause-memory c = search rules

pub returns-clause-same : goal.returns-clause-same
returns-clause-same c = search rules
