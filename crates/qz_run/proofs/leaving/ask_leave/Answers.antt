use Rattle.qz_run.proofs.Leaves.{leaves_by}
use Rattle.qz_run.proofs.leaving.ask_leave.Goals as goal

pub returns-clause-ok : goal.returns-clause-ok
returns-clause-ok g c = leaves_by _ _ _ _ _ _ c.requires.leaving c.requires.ours c.in_ok-submit_as.ensures.accepted
