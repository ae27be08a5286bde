use Rattle.qz_run.proofs.Going.{then_breaks}
use Rattle.qz_run.proofs.Passing.{worked_quiet}
use Rattle.qz_top.proofs.nodes.moments.work_off.Goals as goal

pub returns-in-Ok-Quiet-clause-ok : goal.returns-in-Ok-Quiet-clause-ok
returns-in-Ok-Quiet-clause-ok g c = worked_quiet _ _ _ _ _ _ _ _ _ c.requires.plan.some c.loop-why.invariant.begun c.loop-why.invariant.passes c.loop-why.invariant.fired_is c.loop-why.invariant.within (rw c.in-Ok-Quiet.field-0-is at c.in-Ok-Quiet.ensures.ok)

pub returns-in-Ok-Quiet-clause-calls : goal.returns-in-Ok-Quiet-clause-calls
returns-in-Ok-Quiet-clause-calls g c = λ before ran. c.in-Ok-Quiet.ensures.calls before (c.loop-why.invariant.calls before ran)

pub returns-in-Err-clause-err : goal.returns-in-Err-clause-err
returns-in-Err-clause-err g c = then_breaks _ _ _ _ _ _ _ c.loop-why.invariant.calls c.in-Err.ensures.err
