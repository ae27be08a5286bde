use Rattle.std.proofs.Common.{◌≡◌, ◌+◌, Bool, Some, sym, ap, ◌∙◌, arith}
use Rattle.std.proofs.lemmas.Grind.{common_steps}
use Rattle.std.specs.List.{slice_get}
use Rattle.qz_types.specs.Rows.{CalendarData}
use Rattle.qz_model.specs.Calendars.{is_named}
use Rattle.qz_schedule.proofs.Counting.{one_more, no_more}
use Rattle.qz_schedule.proofs.uses.calendars_above.Goals as goal
use Rattle.qz_schedule.proofs.uses.calendars_above.Goals.{then-has_base, else-has_base}

pub loop-place-preserved : goal.loop-place-preserved
loop-place-preserved c =
    let passes : CalendarData → Bool = (λ d. is_named c.args.name.now d.base) in
    let is : slice_get c.args.tables.now.tables.calendars c.loop-place.place ≡ Some c.in-Some.calendar.now = grind (arith, common_steps) in
    elim c.if-has_base.branch [
      | then-has_base w ↦ w.count-is ∙ ap (λ n. n + 1) c.loop-place.invariant ∙ sym (one_more passes c.args.tables.now.tables.calendars c.loop-place.place c.in-Some.calendar.now is (sym c.has_base.ensures ∙ w.if-has_base.true))
      | else-has_base w ↦ w.count-is ∙ c.loop-place.invariant ∙ sym (no_more passes c.args.tables.now.tables.calendars c.loop-place.place c.in-Some.calendar.now is (sym c.has_base.ensures ∙ w.if-has_base.false))
    ]
