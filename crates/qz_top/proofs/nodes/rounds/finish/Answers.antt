use Rattle.qz_run.proofs.Going.{then_finishes, then_breaks}
use Rattle.qz_top.proofs.nodes.rounds.finish.Goals as goal

pub returns-in-Ok-true-clause-ok : goal.returns-in-Ok-true-clause-ok
returns-in-Ok-true-clause-ok g c = then_finishes _ _ _ _ _ _ c.loop-context.invariant.went (rw c.in-Ok-true.field-0-test at c.in-Ok-true.ensures.ok)

pub returns-in-Ok-true-clause-calls : goal.returns-in-Ok-true-clause-calls
returns-in-Ok-true-clause-calls g c = λ before ran. c.in-Ok-true.ensures.calls before (c.loop-context.invariant.calls before ran)

pub returns-in-Err-clause-err : goal.returns-in-Err-clause-err
returns-in-Err-clause-err g c = then_breaks _ _ _ _ _ _ _ c.loop-context.invariant.calls c.in-Err.ensures.err
