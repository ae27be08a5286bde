use Rattle.std.proofs.Common.{rules}
use Rattle.qz_table_probes.proofs.rows.next_due.Goals as goal

pub returns : goal.returns
returns g c = search rules
