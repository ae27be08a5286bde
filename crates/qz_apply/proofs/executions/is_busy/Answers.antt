use Rattle.std.proofs.Common.{◌≡◌, Some, false, arith}
use Rattle.std.proofs.lemmas.Grind.{common_steps}
use Rattle.std.specs.List.{slice_get}
use Rattle.qz_model.specs.Executions.{is_exclusive_of}
use Rattle.qz_apply.proofs.Searches.{none_up_to}
use Rattle.qz_apply.proofs.executions.is_busy.Goals as goal

pub loop-place-preserved : goal.loop-place-preserved
loop-place-preserved c =
    let is : slice_get c.args.tables.now.tables.fired c.loop-place.place ≡ Some c.in-Some.row.now = grind (arith, common_steps) in
    let fails : is_exclusive_of c.args.key.now c.in-Some.row.now ≡ false = cc in
    none_up_to (is_exclusive_of c.args.key.now) c.args.tables.now.tables.fired c.loop-place.place c.in-Some.row.now is fails c.loop-place.invariant
