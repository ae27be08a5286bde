use Rattle.std.proofs.Common.{rules}
use Rattle.qz_value_probes.proofs.fire_times.next_of_daily.Goals as goal

pub returns : goal.returns
returns c = search rules
