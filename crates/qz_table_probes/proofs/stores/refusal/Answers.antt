use Rattle.std.proofs.Common.{rules}
use Rattle.qz_table_probes.proofs.stores.refusal.Goals as goal

pub returns : goal.returns
returns c = search rules
