use Rattle.std.proofs.Common.{ap, length, subst, arith}
use Rattle.qz_recover.specs.Rows.{AreNew}
use Rattle.qz_recover.proofs.ending.insert_triggers.Goals as goal

pub insert_trigger-requires-clause-absent : goal.insert_trigger-requires-clause-absent
insert_trigger-requires-clause-absent c = (subst (AreNew c.loop-row.tables.tables.triggers) c.in-Some.ensures.steps.0 c.loop-row.invariant.2).0

pub insert_trigger-requires-clause-room : goal.insert_trigger-requires-clause-room
insert_trigger-requires-clause-room c = omega (arith, ap length c.in-Some.ensures.steps.0, c.loop-row.invariant.3)
