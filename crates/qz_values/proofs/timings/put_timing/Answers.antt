use Rattle.qz_values.proofs.Truths.{last_true}
use Rattle.qz_values.proofs.timings.put_timing.Goals as goal

pub put_end-requires : goal.put_end-requires
put_end-requires c = last_true _ _ c.requires
