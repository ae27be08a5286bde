use Rattle.std.proofs.Common.{refl}
use Rattle.qz_tables.proofs.by_job.slots_of.Goals as goal

pub returns : goal.returns
returns g c = record { low = c.range_of-low.result.0; high = c.range_of-low.result.1; range = c.range_of-low.ensures.range; here_is = refl }
