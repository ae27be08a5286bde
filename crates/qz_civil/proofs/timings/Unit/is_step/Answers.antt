-- The step is far below the greatest number.
use Rattle.std.proofs.Common.{arith, sym}
use Rattle.qz_civil.proofs.StepLemmas.{step_most}
use Rattle.qz_civil.proofs.timings.Unit.is_step.Goals as goal

pub overflow_mul-step : goal.overflow_mul-step
overflow_mul-step c =
    let small = step_most c.args.every c.in-Some.length c.args.self (omega arith) (sym c.in-Some.ensures) in
    rw c.from.ensures (omega (arith, small))
