use Rattle.std.proofs.Common.{◌<◌, length, None, get_or, ap, sym, subst, ◌∙◌}
use Rattle.std.specs.Prelude.{IsSome, option_map}
use Rattle.qz_tables.specs.Changes.{trigger_edited}
use Rattle.qz_tables.proofs.Steps.{but_from, but_written, some_told, own_written}
use Rattle.qz_tables.proofs.Written.{edited_written, some_is, some_mapped, some_nth, edit_keeps}
use Rattle.qz_tables.proofs.timed.Timed.edit_nth.Goals as goal

pub follow-requires-clause-filled : goal.follow-requires-clause-filled
follow-requires-clause-filled c = subst (λ o. IsSome o) (sym c.edit_nth-slot.ensures.slot.changed) (some_mapped (trigger_edited c.args.edit.now) (get_or c.self.inside.rows.slots c.edit_nth-slot.result None) (subst (λ o. IsSome o) (sym c.edit_nth-slot.ensures.was) (some_nth c.self.inside.rows.rows c.args.place (subst (λ v. c.args.place < length v.rows) (sym c.self.view_is) c.requires.present))))

pub follow-requires-clause-others : goal.follow-requires-clause-others
follow-requires-clause-others c = λ t. but_written c.self.inside.rows.slots c.edit_nth-slot.new.self.slots c.self.inside.queue.pairs c.edit_nth-slot.result (option_map (trigger_edited c.args.edit.now) (get_or c.self.inside.rows.slots c.edit_nth-slot.result None)) (but_from c.self.inside.rows.slots c.self.inside.queue.pairs c.edit_nth-slot.result (c.self.invariant t)) c.edit_nth-slot.ensures.slot

pub follow-requires-clause-present : goal.follow-requires-clause-present
follow-requires-clause-present c = λ t.
    let r = some_is (get_or c.self.inside.rows.slots c.edit_nth-slot.result None) (subst (λ o. IsSome o) (sym c.edit_nth-slot.ensures.was) (some_nth c.self.inside.rows.rows c.args.place (subst (λ v. c.args.place < length v.rows) (sym c.self.view_is) c.requires.present))) in
    some_told c.self.inside.rows.slots c.self.inside.queue.pairs c.edit_nth-slot.result r.0 (c.self.invariant t) r.1

pub follow-requires-clause-own : goal.follow-requires-clause-own
follow-requires-clause-own c = λ t.
    let r = some_is (get_or c.self.inside.rows.slots c.edit_nth-slot.result None) (subst (λ o. IsSome o) (sym c.edit_nth-slot.ensures.was) (some_nth c.self.inside.rows.rows c.args.place (subst (λ v. c.args.place < length v.rows) (sym c.self.view_is) c.requires.present))) in
    own_written c.self.inside.rows.slots c.edit_nth-slot.new.self.slots c.self.inside.queue.pairs c.edit_nth-slot.result r.0 (trigger_edited c.args.edit.now r.0) (c.self.invariant t) r.1 (c.edit_nth-slot.ensures.slot.changed ∙ ap (option_map (trigger_edited c.args.edit.now)) r.1) (edit_keeps c.args.edit.now r.0)

pub returns-clause-slots : goal.returns-clause-slots
returns-clause-slots c = rw (← c.self.view_is) (edited_written c.self.inside.rows.slots c.edit_nth-slot.new.self.slots c.edit_nth-slot.result (trigger_edited c.args.edit.now) c.edit_nth-slot.ensures.slot)
