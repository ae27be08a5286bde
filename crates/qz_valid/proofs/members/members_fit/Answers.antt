use Rattle.std.proofs.Common.{◌≡◌, Some, true, arith}
use Rattle.std.proofs.lemmas.Grind.{common_steps}
use Rattle.std.specs.List.{slice_get}
use Rattle.qz_valid.specs.Members.{member_fits}
use Rattle.qz_valid.proofs.Walks.{pass_up_to}
use Rattle.qz_valid.proofs.members.members_fit.Goals as goal

pub loop-place-preserved : goal.loop-place-preserved
loop-place-preserved c =
    let is : slice_get c.args.tables.now.tables.members c.loop-place.place ≡ Some c.in-Some.row.now = grind (arith, common_steps) in
    let fits : member_fits c.args.tables.now.tables c.in-Some.row.now ≡ true = cc in
    pass_up_to (member_fits c.args.tables.now.tables) c.args.tables.now.tables.members c.loop-place.place c.in-Some.row.now is fits c.loop-place.invariant
