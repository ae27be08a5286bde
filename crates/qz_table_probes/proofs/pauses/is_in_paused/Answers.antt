use Rattle.std.proofs.Common.{rules}
use Rattle.qz_table_probes.proofs.pauses.is_in_paused.Goals as goal

pub returns : goal.returns
returns c = search rules
