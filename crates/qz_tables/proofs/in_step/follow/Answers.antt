use Rattle.std.proofs.Common.{get_or, None}
use Rattle.qz_tables.proofs.Steps.{all_known, all_free, step_followed, due_slot, due_known}
use Rattle.qz_tables.proofs.in_step.follow.Goals as goal

pub change-requires-clause-known : goal.change-requires-clause-known
change-requires-clause-known c =
    let t = c.if-not-is_in_step.false in
    all_known c.args.rows.now.slots c.args.queue.now.pairs c.args.slot (c.requires.others t) (c.requires.own t) c.laws.ensures.slots

pub change-requires-clause-free : goal.change-requires-clause-free
change-requires-clause-free c =
    let t = c.if-not-is_in_step.false in
    all_free c.args.rows.now.slots c.args.queue.now.pairs c.args.slot (c.requires.others t) c.due_key-due.result (due_slot c.args.slot (get_or c.args.rows.now.slots c.args.slot None) c.due_key-due.result c.due_key-due.ensures) (c.requires.own t) c.laws.ensures.slots

pub change-requires-clause-due : goal.change-requires-clause-due
change-requires-clause-due c = due_known c.args.rows.now.slots c.args.slot c.due_key-due.result c.due_key-due.ensures

pub returns : goal.returns
returns c = λ _.
    let t = c.if-not-is_in_step.false in
    step_followed c.args.rows.now.slots c.args.queue.now.pairs c.args.slot (c.requires.others t) c.change.new.self.pairs c.due_key-due.result c.due_key-due.ensures c.change.ensures.pairs c.change.ensures.now
