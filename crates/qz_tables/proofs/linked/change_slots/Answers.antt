use Rattle.std.proofs.Common.{subst, sym, add-one, ◌∙◌}
use Rattle.std.specs.Prelude.{IsSome}
use Rattle.qz_tables.specs.Changes.{trigger_edited}
use Rattle.qz_tables.specs.declared.edits.TriggerEdit.TheVariants.{State}
use Rattle.qz_tables.proofs.JobRanges.{still, edited-more, filled-nth}
use Rattle.qz_tables.proofs.linked.change_slots.Goals as goal

pub edit_slot-requires-clause-present : goal.edit_slot-requires-clause-present
edit_slot-requires-clause-present c =
    subst (λ o. IsSome o) (sym (still (trigger_edited (State c.args.change)) c.args.rows.now.slots c.loop-place.rows.slots c.loop-place.rows.slots c.args.slots.now c.loop-place.place c.requires.apart c.loop-place-test.true c.loop-place.invariant.each))
    (filled-nth c.args.rows.now.slots c.args.slots.now c.loop-place.place c.requires.filled c.loop-place-test.true)

pub loop-place-preserved : goal.loop-place-preserved
loop-place-preserved c = record {
  each = rw add-one (edited-more (trigger_edited (State c.args.change)) c.args.rows.now.slots c.loop-place.rows.slots c.edit_slot.new.self.slots c.args.slots.now c.loop-place.place c.requires.apart c.loop-place-test.true c.loop-place.invariant.each c.edit_slot.ensures.slot);
  order = c.edit_slot.ensures.order ∙ c.loop-place.invariant.order;
  spare = c.edit_slot.ensures.spare ∙ c.loop-place.invariant.spare;
}
