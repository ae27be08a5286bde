use Rattle.std.proofs.Common.{arith}
use Rattle.qz_run.proofs.Passing.{turn_fires, turn_rests}
use Rattle.qz_top.proofs.nodes.moments.take_turn.Goals as goal

pub returns-in-Ok-false-clause-ok : goal.returns-in-Ok-false-clause-ok
returns-in-Ok-false-clause-ok g c = turn_rests _ _ _ _ _ _ _ c.requires.passes c.requires.ours (omega (arith, c.requires.plan.few, c.requires.ours.below, c.told-resting)) c.requires.fired_is c.requires.within (rw c.in-Ok-false.field-0-test at c.in-Ok-false.ensures.ok)

pub returns-in-Ok-true-clause-ok : goal.returns-in-Ok-true-clause-ok
returns-in-Ok-true-clause-ok g c = turn_fires _ _ _ _ _ _ _ c.requires.passes c.requires.ours c.requires.awake c.requires.fired_is c.requires.within (rw c.in-Ok-true.field-0-test at c.in-Ok-true.ensures.ok)
