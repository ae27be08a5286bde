use Rattle.std.proofs.Common.{◌≡◌, ◌+◌, Bool, Some, sym, ap, ◌∙◌, arith}
use Rattle.std.proofs.lemmas.Grind.{common_steps}
use Rattle.std.specs.List.{slice_get}
use Rattle.qz_types.specs.Rows.{CalendarData}
use Rattle.qz_types.specs.Words.{same_text}
use Rattle.qz_schedule.proofs.Counting.{one_more, no_more}
use Rattle.qz_schedule.proofs.uses.calendars_in_zone.Goals as goal
use Rattle.qz_schedule.proofs.uses.calendars_in_zone.Goals.{then-is_read_in, else-is_read_in}

pub loop-place-preserved : goal.loop-place-preserved
loop-place-preserved c =
    let passes : CalendarData → Bool = (λ d. same_text c.args.name.now d.zone) in
    let is : slice_get c.args.tables.now.tables.calendars c.loop-place.place ≡ Some c.in-Some.calendar.now = grind (arith, common_steps) in
    elim c.if-is_read_in.branch [
      | then-is_read_in w ↦ w.count-is ∙ ap (λ n. n + 1) c.loop-place.invariant ∙ sym (one_more passes c.args.tables.now.tables.calendars c.loop-place.place c.in-Some.calendar.now is (sym c.is_read_in.ensures ∙ w.if-is_read_in.true))
      | else-is_read_in w ↦ w.count-is ∙ c.loop-place.invariant ∙ sym (no_more passes c.args.tables.now.tables.calendars c.loop-place.place c.in-Some.calendar.now is (sym c.is_read_in.ensures ∙ w.if-is_read_in.false))
    ]
