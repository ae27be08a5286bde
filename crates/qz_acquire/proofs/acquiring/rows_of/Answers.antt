use Rattle.std.proofs.Common.{arith}
use Rattle.qz_acquire.proofs.acquiring.rows_of.Goals as goal

pub overflow_add-entry : goal.overflow_add-entry
overflow_add-entry c = omega (arith, c.loop-trigger.invariant.0, c.loop-trigger-test.true, c.requires)
