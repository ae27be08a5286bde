use Rattle.std.proofs.Common.{rules}
use Rattle.qz_table_probes.proofs.scheduling.commit_scheduling.Goals as goal

pub returns-clause-ok : goal.returns-clause-ok
returns-clause-ok c = search rules

pub returns-clause-valid : goal.returns-clause-valid
returns-clause-valid c = search rules
