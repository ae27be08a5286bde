use Rattle.qz_run.proofs.Asks.{took_none_at, took_at}
use Rattle.qz_run.proofs.asking.ask_acquire.Goals as goal

pub returns-in-empty-clause-ok : goal.returns-in-empty-clause-ok
returns-in-empty-clause-ok g c = took_none_at _ _ _ _ _ _ _ c.in-Ok.ensures.ok c.as_slice.ensures c.in-empty.len_below c.requires.ready c.requires.ours c.requires.free c.requires.settled c.requires.may_acquire

pub returns-in-len1-clause-ok : goal.returns-in-len1-clause-ok
returns-in-len1-clause-ok g c = took_at _ _ _ _ _ _ _ _ _ c.in-Ok.ensures.ok c.as_slice.ensures c.in-len1.len_at_least c.in-len1.len_below c.first-item.is c.requires.ready c.requires.ours c.requires.member c.requires.free c.requires.settled c.grip_of.ensures
