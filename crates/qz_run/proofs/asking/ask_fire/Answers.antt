use Rattle.std.proofs.Common.{sym, ◌∙◌}
use Rattle.qz_run.proofs.Asks.{fired}
use Rattle.qz_run.proofs.asking.ask_fire.Goals as goal

pub returns-in-Some-clause-ok : goal.returns-in-Some-clause-ok
returns-in-Some-clause-ok g c = fired _ _ _ _ _ _ _ _ c.requires.ready c.requires.ours c.requires.member c.requires.within (sym c.of_reply.ensures ∙ c.in-Some.is) c.in-Ok.ensures.accepted
