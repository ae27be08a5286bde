use Rattle.std.proofs.Common.{rules}
use Rattle.qz_table_probes.proofs.rows.resume_group_states.Goals as goal

pub returns-clause-tables : goal.returns-clause-tables
returns-clause-tables c = search rules

pub returns-clause-links : goal.returns-clause-links
returns-clause-links c = search rules

pub returns-clause-spare : goal.returns-clause-spare
returns-clause-spare c = search rules
