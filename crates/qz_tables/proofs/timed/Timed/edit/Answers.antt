use Rattle.std.proofs.Common.{None, get_or, ap, sym, subst, ◌∙◌}
use Rattle.std.specs.Prelude.{IsSome, option_map}
use Rattle.qz_types.specs.Rows.{TriggerData}
use Rattle.qz_types.specs.Sorted.{row_of}
use Rattle.qz_types.specs.Words.{key_cmp}
use Rattle.qz_tables.specs.Changes.{trigger_edited}
use Rattle.qz_tables.proofs.Steps.{but_from, but_written, some_told, own_written}
use Rattle.qz_tables.proofs.Written.{some_is, some_mapped, edit_keeps}
use Rattle.qz_tables.proofs.timed.Timed.edit.Goals as goal

pub follow-requires-clause-filled : goal.follow-requires-clause-filled
follow-requires-clause-filled c = subst (λ o. IsSome o) (sym c.in-Some.ensures.slot.changed) (some_mapped (trigger_edited c.args.edit.now) (get_or c.self.inside.rows.slots c.in-Some.slot None) c.in-Some.ensures.filled)

pub follow-requires-clause-others : goal.follow-requires-clause-others
follow-requires-clause-others c = λ t. but_written c.self.inside.rows.slots c.edit.new.self.slots c.self.inside.queue.pairs c.in-Some.slot (option_map (trigger_edited c.args.edit.now) (get_or c.self.inside.rows.slots c.in-Some.slot None)) (but_from c.self.inside.rows.slots c.self.inside.queue.pairs c.in-Some.slot (c.self.invariant t)) c.in-Some.ensures.slot

pub follow-requires-clause-present : goal.follow-requires-clause-present
follow-requires-clause-present c = λ t.
    let r = some_is (get_or c.self.inside.rows.slots c.in-Some.slot None) c.in-Some.ensures.filled in
    some_told c.self.inside.rows.slots c.self.inside.queue.pairs c.in-Some.slot r.0 (c.self.invariant t) r.1

pub follow-requires-clause-own : goal.follow-requires-clause-own
follow-requires-clause-own c = λ t.
    let r = some_is (get_or c.self.inside.rows.slots c.in-Some.slot None) c.in-Some.ensures.filled in
    own_written c.self.inside.rows.slots c.edit.new.self.slots c.self.inside.queue.pairs c.in-Some.slot r.0 (trigger_edited c.args.edit.now r.0) (c.self.invariant t) r.1 (c.in-Some.ensures.slot.changed ∙ ap (option_map (trigger_edited c.args.edit.now)) r.1) (edit_keeps c.args.edit.now r.0)

pub edit-requires : goal.edit-requires
edit-requires c = λ row e. c.requires row (ap (λ v. row_of key_cmp (λ (r : TriggerData). r.spec.key) c.args.key.now v.rows) (sym c.self.view_is) ∙ e)
