use Rattle.std.proofs.Common.{rules}
use Rattle.qz_table_probes.proofs.rows.first_due.Goals as goal

pub returns : goal.returns
returns c = search rules
