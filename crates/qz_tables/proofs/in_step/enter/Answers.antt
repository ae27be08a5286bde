use Rattle.std.proofs.Common.{sym, subst, get_or, None}
use Rattle.qz_tables.specs.DueKeys.{IsInStep}
use Rattle.qz_tables.proofs.Steps.{all_known, all_free, step_entered, due_slot, due_known, absent_own}
use Rattle.qz_tables.proofs.in_step.enter.Goals as goal

pub insert-requires-clause-known : goal.insert-requires-clause-known
insert-requires-clause-known c =
    let t = c.if-not-is_in_step.false in
    all_known c.args.rows.now.slots c.args.queue.now.pairs c.args.slot (c.requires.others t) (absent_own c.args.rows.now.slots c.args.queue.now.pairs c.args.slot (c.requires.absent t)) c.laws.ensures.slots

pub insert-requires-clause-free : goal.insert-requires-clause-free
insert-requires-clause-free c =
    let t = c.if-not-is_in_step.false in
    all_free c.args.rows.now.slots c.args.queue.now.pairs c.args.slot (c.requires.others t) c.due_key-due.result (due_slot c.args.slot (get_or c.args.rows.now.slots c.args.slot None) c.due_key-due.result c.due_key-due.ensures) (absent_own c.args.rows.now.slots c.args.queue.now.pairs c.args.slot (c.requires.absent t)) c.laws.ensures.slots

pub insert-requires-clause-due : goal.insert-requires-clause-due
insert-requires-clause-due c = due_known c.args.rows.now.slots c.args.slot c.due_key-due.result c.due_key-due.ensures

pub returns : goal.returns
returns c = λ _.
    let t = c.if-not-is_in_step.false in
    subst (IsInStep c.args.rows.now.slots) (sym c.insert.ensures.pairs) (step_entered c.args.rows.now.slots c.args.queue.now.pairs c.args.slot (c.requires.others t) c.due_key-due.result c.due_key-due.ensures (c.requires.absent t))
