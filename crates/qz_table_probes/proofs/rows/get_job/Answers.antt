use Rattle.std.proofs.Common.{rules}
use Rattle.qz_table_probes.proofs.rows.get_job.Goals as goal

pub returns-clause-row : goal.returns-clause-row
returns-clause-row c = search rules

pub returns-clause-sorted : goal.returns-clause-sorted
returns-clause-sorted c = search rules
