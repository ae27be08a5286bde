use Rattle.qz_run.proofs.Going.{then_breaks}
use Rattle.qz_top.proofs.nodes.working.work.Goals as goal

pub returns-in-Err-clause-err : goal.returns-in-Err-clause-err
returns-in-Err-clause-err g c = then_breaks _ _ _ _ _ _ _ c.loop-next.invariant.calls c.in-Err.ensures.err
