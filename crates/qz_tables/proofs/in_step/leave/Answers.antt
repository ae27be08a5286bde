use Rattle.std.proofs.Common.{sym, subst}
use Rattle.qz_tables.specs.DueKeys.{IsInStepBut}
use Rattle.qz_tables.proofs.Steps.{step_known, step_left}
use Rattle.qz_tables.proofs.in_step.leave.Goals as goal

pub remove-requires : goal.remove-requires
remove-requires c = record { known = step_known c.args.rows.now.slots c.args.queue.now.pairs (c.requires c.if-not-is_in_step.false) c.laws.ensures.slots }

pub returns-clause-others : goal.returns-clause-others
returns-clause-others c = λ _.
    let step = c.requires c.if-not-is_in_step.false in
    subst (λ pairs. IsInStepBut c.args.rows.now.slots pairs c.args.slot) (sym c.remove.ensures.pairs) (step_left c.args.rows.now.slots c.args.queue.now.pairs c.args.slot step)
