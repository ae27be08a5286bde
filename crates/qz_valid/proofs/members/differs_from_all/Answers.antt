use Rattle.std.proofs.Common.{◌≡◌, Some, true, arith}
use Rattle.std.proofs.lemmas.Grind.{common_steps}
use Rattle.std.specs.List.{slice_get}
use Rattle.qz_valid.specs.Members.{differs_from}
use Rattle.qz_valid.proofs.Walks.{pass_up_to}
use Rattle.qz_valid.proofs.members.differs_from_all.Goals as goal

pub loop-place-preserved : goal.loop-place-preserved
loop-place-preserved c =
    let is : slice_get c.args.tables.now.tables.members c.loop-place.place ≡ Some c.in-Some.other.now = grind (arith, common_steps) in
    let fits : differs_from c.args.member.now c.in-Some.other.now ≡ true = cc in
    pass_up_to (differs_from c.args.member.now) c.args.tables.now.tables.members c.loop-place.place c.in-Some.other.now is fits c.loop-place.invariant
