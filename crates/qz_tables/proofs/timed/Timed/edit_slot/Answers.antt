use Rattle.std.proofs.Common.{None, get_or, ap, sym, subst, ◌∙◌}
use Rattle.std.specs.Prelude.{IsSome, option_map}
use Rattle.qz_tables.specs.Changes.{trigger_edited}
use Rattle.qz_tables.proofs.Steps.{but_from, but_written, some_told, own_written}
use Rattle.qz_tables.proofs.Written.{some_is, some_mapped, edit_keeps}
use Rattle.qz_tables.proofs.timed.Timed.edit_slot.Goals as goal

pub follow-requires-clause-filled : goal.follow-requires-clause-filled
follow-requires-clause-filled c = subst (λ o. IsSome o) (sym c.edit_slot.ensures.slot.changed) (some_mapped (trigger_edited c.args.edit.now) (get_or c.self.inside.rows.slots c.args.slot None) (rw (← c.self.view_is) at c.requires.present))

pub follow-requires-clause-others : goal.follow-requires-clause-others
follow-requires-clause-others c = λ t. but_written c.self.inside.rows.slots c.edit_slot.new.self.slots c.self.inside.queue.pairs c.args.slot (option_map (trigger_edited c.args.edit.now) (get_or c.self.inside.rows.slots c.args.slot None)) (but_from c.self.inside.rows.slots c.self.inside.queue.pairs c.args.slot (c.self.invariant t)) c.edit_slot.ensures.slot

pub follow-requires-clause-present : goal.follow-requires-clause-present
follow-requires-clause-present c = λ t.
    let r = some_is (get_or c.self.inside.rows.slots c.args.slot None) (rw (← c.self.view_is) at c.requires.present) in
    some_told c.self.inside.rows.slots c.self.inside.queue.pairs c.args.slot r.0 (c.self.invariant t) r.1

pub follow-requires-clause-own : goal.follow-requires-clause-own
follow-requires-clause-own c = λ t.
    let r = some_is (get_or c.self.inside.rows.slots c.args.slot None) (rw (← c.self.view_is) at c.requires.present) in
    own_written c.self.inside.rows.slots c.edit_slot.new.self.slots c.self.inside.queue.pairs c.args.slot r.0 (trigger_edited c.args.edit.now r.0) (c.self.invariant t) r.1 (c.edit_slot.ensures.slot.changed ∙ ap (option_map (trigger_edited c.args.edit.now)) r.1) (edit_keeps c.args.edit.now r.0)
