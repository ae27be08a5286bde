use Rattle.std.proofs.Common.{ap, length, subst, ◌∙◌, arith}
use Rattle.qz_types.specs.Words.{fired_of}
use Rattle.qz_acquire.specs.Choosing.{AreNew}
use Rattle.qz_acquire.proofs.acquiring.acquire_each.Goals as goal

pub insert_fired-requires-clause-absent : goal.insert_fired-requires-clause-absent
insert_fired-requires-clause-absent c =
    ap (λ T. fired_of c.in-Some.row.entry T.fired) c.set_trigger_state.ensures.tables ∙ (subst (AreNew c.loop-row.tables.tables) c.in-Some.ensures.steps.0 c.loop-row.invariant.2).0

pub insert_fired-requires-clause-room : goal.insert_fired-requires-clause-room
insert_fired-requires-clause-room c =
    let keeps = c.set_trigger_state.ensures.spare.fired in
    omega (arith, ap length c.in-Some.ensures.steps.0, c.loop-row.invariant.4, keeps)
