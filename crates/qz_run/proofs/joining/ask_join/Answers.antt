use Rattle.qz_run.proofs.Joins.{joins_by}
use Rattle.qz_run.proofs.joining.ask_join.Goals as goal

pub returns-clause-ok : goal.returns-clause-ok
returns-clause-ok g c = joins_by _ _ _ _ _ _ c.requires.joining c.requires.ours c.in_ok-submit_as.ensures.accepted
