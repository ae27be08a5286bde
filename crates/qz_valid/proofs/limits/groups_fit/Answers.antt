use Rattle.std.proofs.Common.{◌≡◌, Some, true, arith}
use Rattle.std.proofs.lemmas.Grind.{common_steps}
use Rattle.std.specs.List.{slice_get}
use Rattle.qz_civil.specs.Timings.{is_name}
use Rattle.qz_valid.proofs.Walks.{pass_up_to}
use Rattle.qz_valid.proofs.limits.groups_fit.Goals as goal

pub loop-place-preserved : goal.loop-place-preserved
loop-place-preserved c =
    let is : slice_get c.args.tables.now.tables.paused_groups c.loop-place.place ≡ Some c.in-Some.group.now = grind (arith, common_steps) in
    let fits : is_name c.in-Some.group.now ≡ true = cc in
    pass_up_to is_name c.args.tables.now.tables.paused_groups c.loop-place.place c.in-Some.group.now is fits c.loop-place.invariant
