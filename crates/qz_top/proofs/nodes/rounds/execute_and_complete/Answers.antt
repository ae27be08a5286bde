use Rattle.qz_run.proofs.Going.{continues}
use Rattle.qz_top.proofs.nodes.rounds.execute_and_complete.Goals as goal

pub returns-in-Ok-false-clause-ok : goal.returns-in-Ok-false-clause-ok
returns-in-Ok-false-clause-ok g c = continues _ _ _ _ _ _ _ (rw c.in-Ok-false.field-0-test at c.in-Ok-false.ensures.ok) c.execute-code.ensures.within
