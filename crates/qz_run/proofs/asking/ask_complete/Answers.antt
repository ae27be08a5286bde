use Rattle.qz_run.proofs.Asks.{completed, repeated}
use Rattle.qz_run.proofs.asking.ask_complete.Goals as goal

pub returns-in-Ok-Completed-clause-ok : goal.returns-in-Ok-Completed-clause-ok
returns-in-Ok-Completed-clause-ok g c = completed _ _ _ _ _ _ _ _ (rw c.in-Ok-Completed.field-0-is at c.in-Ok-Completed.ensures.accepted) c.requires.ready c.requires.ours c.requires.member c.requires.told

pub returns-in-Ok-Again-clause-ok : goal.returns-in-Ok-Again-clause-ok
returns-in-Ok-Again-clause-ok g c = repeated _ _ _ _ _ _ _ _ (rw c.in-Ok-Again.field-0-is at c.in-Ok-Again.ensures.accepted) c.requires.ready c.requires.ours c.requires.member c.requires.row c.requires.told c.requires.within
