use Rattle.std.proofs.Common.{◌≡◌, Some, true, arith}
use Rattle.std.proofs.lemmas.Grind.{common_steps}
use Rattle.std.specs.List.{slice_get}
use Rattle.qz_valid.specs.Calendars.{calendar_fits}
use Rattle.qz_valid.proofs.Walks.{pass_up_to}
use Rattle.qz_valid.proofs.calendars.calendars_fit.Goals as goal

pub loop-place-preserved : goal.loop-place-preserved
loop-place-preserved c =
    let is : slice_get c.args.tables.now.tables.calendars c.loop-place.place ≡ Some c.in-Some.row.now = grind (arith, common_steps) in
    let fits : calendar_fits c.args.tables.now.tables c.in-Some.row.now ≡ true = cc in
    pass_up_to (calendar_fits c.args.tables.now.tables) c.args.tables.now.tables.calendars c.loop-place.place c.in-Some.row.now is fits c.loop-place.invariant
