use Rattle.qz_run.proofs.Turning.{rises, rises_ask}
use Rattle.qz_run.proofs.clocks.turn_clock.Goals as goal

pub returns-then-is_later-clause-working : goal.returns-then-is_later-clause-working
returns-then-is_later-clause-working g c = rises _ _ _ _ c.requires.plan c.requires.working c.requires.some c.requires.due c.requires.within (c.is_later.ensures.later c.if-is_later.true)

pub returns-then-is_later-clause-may_ask : goal.returns-then-is_later-clause-may_ask
returns-then-is_later-clause-may_ask g c = rises_ask _ _ _ _ c.requires.working (c.is_later.ensures.later c.if-is_later.true)
