use Rattle.qz_run.proofs.Going.{then_breaks}
use Rattle.qz_top.proofs.nodes.moments.pass.Goals as goal

pub returns-then-fired-plan-clause-calls : goal.returns-then-fired-plan-clause-calls
returns-then-fired-plan-clause-calls g c = λ before ran. c.in-Ok.ensures.calls before (c.loop-node.invariant.calls before ran)

pub returns-in-Err-clause-err : goal.returns-in-Err-clause-err
returns-in-Err-clause-err g c = then_breaks _ _ _ _ _ _ _ c.loop-node.invariant.calls c.in-Err.ensures.err
