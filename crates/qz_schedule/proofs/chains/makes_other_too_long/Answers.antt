use Rattle.std.proofs.Common.{◌≡◌, Some, not, ◌&&◌, sym, ◌∙◌, arith}
use Rattle.std.proofs.lemmas.Grind.{common_steps}
use Rattle.std.specs.List.{slice_get}
use Rattle.qz_types.specs.Words.{same_text}
use Rattle.qz_model.specs.Calendars.{with_new_calendar, is_too_long}
use Rattle.qz_apply.proofs.Searches.{none_up_to}
use Rattle.qz_schedule.proofs.chains.makes_other_too_long.Goals as goal

pub loop-place-preserved : goal.loop-place-preserved
loop-place-preserved c =
    let is : slice_get c.args.tables.now.tables.calendars c.loop-place.place ≡ Some c.in-Some.row.now = grind (arith, common_steps) in
    none_up_to (λ d. not (same_text c.args.new.now.name d.name) && is_too_long (with_new_calendar c.args.new.now c.args.tables.now.tables.calendars) d) c.args.tables.now.tables.calendars
    c.loop-place.place c.in-Some.row.now is (sym c.is_other_too_long.ensures ∙ c.if-is_other_too_long.false) c.loop-place.invariant
