use Rattle.std.proofs.Common.{rules}
use Rattle.qz_table_probes.proofs.stores.prepare.Goals as goal

pub returns-clause-ok : goal.returns-clause-ok
returns-clause-ok c = search rules

pub returns-clause-accepted : goal.returns-clause-accepted
returns-clause-accepted c = search rules

pub returns-clause-cause : goal.returns-clause-cause
returns-clause-cause c = search rules

pub returns-clause-memory : goal.returns-clause-memory
returns-clause-memory c = search rules

pub returns-clause-tables : goal.returns-clause-tables
returns-clause-tables c = search rules

pub returns-clause-valid : goal.returns-clause-valid
returns-clause-valid c = search rules
