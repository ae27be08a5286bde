use Rattle.std.proofs.Common.{◌≡◌, ◌+◌, Bool, Some, sym, ap, ◌∙◌, arith}
use Rattle.std.proofs.lemmas.Grind.{common_steps}
use Rattle.std.specs.List.{slice_get}
use Rattle.qz_types.specs.Rows.{TriggerData}
use Rattle.qz_model.specs.Calendars.{is_named}
use Rattle.qz_schedule.proofs.Counting.{one_more, no_more}
use Rattle.qz_schedule.proofs.uses.triggers_with_calendar.Goals as goal
use Rattle.qz_schedule.proofs.uses.triggers_with_calendar.Goals.{then-has_calendar, else-has_calendar}

pub loop-place-preserved : goal.loop-place-preserved
loop-place-preserved c =
    let passes : TriggerData → Bool = (λ t. is_named c.args.name.now t.spec.calendar) in
    let is : slice_get c.args.tables.now.tables.triggers c.loop-place.place ≡ Some c.in-Some.trigger.now = grind (arith, common_steps) in
    elim c.if-has_calendar.branch [
      | then-has_calendar w ↦ w.count-is ∙ ap (λ n. n + 1) c.loop-place.invariant ∙ sym (one_more passes c.args.tables.now.tables.triggers c.loop-place.place c.in-Some.trigger.now is (sym c.has_calendar.ensures ∙ w.if-has_calendar.true))
      | else-has_calendar w ↦ w.count-is ∙ c.loop-place.invariant ∙ sym (no_more passes c.args.tables.now.tables.triggers c.loop-place.place c.in-Some.trigger.now is (sym c.has_calendar.ensures ∙ w.if-has_calendar.false))
    ]
