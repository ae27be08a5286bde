use Rattle.qz_run.proofs.Asks.{settled_at, moved_at}
use Rattle.qz_run.proofs.asking.ask_misfires.Goals as goal

pub returns-in-empty-clause-ok : goal.returns-in-empty-clause-ok
returns-in-empty-clause-ok g c = settled_at _ _ _ _ _ _ _ (rw c.in-Ok-Misfired.field-0-is at c.in-Ok-Misfired.ensures.accepted) c.as_slice.ensures c.in-empty.len_below c.requires.ready c.requires.ours c.requires.work

pub returns-in-Ok-Misfired-clause-ok : goal.returns-in-Ok-Misfired-clause-ok
returns-in-Ok-Misfired-clause-ok g c = moved_at _ _ _ _ _ _ _ (rw c.in-Ok-Misfired.field-0-is at c.in-Ok-Misfired.ensures.accepted) c.as_slice.ensures c.in-len1-up.len_at_least c.requires.ready c.requires.ours c.requires.work
