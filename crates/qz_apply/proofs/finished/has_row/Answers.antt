use Rattle.std.proofs.Common.{◌≡◌, Some, false, ap, arith}
use Rattle.std.proofs.lemmas.Grind.{common_steps}
use Rattle.std.specs.List.{slice_get}
use Rattle.qz_types.specs.Words.{same_key}
use Rattle.qz_apply.proofs.Searches.{none_up_to}
use Rattle.qz_apply.proofs.finished.has_row.Goals as goal

pub loop-place-preserved : goal.loop-place-preserved
loop-place-preserved c =
    let is : slice_get c.args.tables.now.tables.fired c.loop-place.place ≡ Some c.in-Some.row.now = grind (arith, common_steps) in
    let key : c.row.inside.trigger ≡ c.in-Some.row.now.trigger = ap (λ v. v.trigger) c.row.view_is in
    let fails : same_key c.args.trigger.now c.in-Some.row.now.trigger ≡ false = cc in
    none_up_to (λ f. same_key c.args.trigger.now f.trigger) c.args.tables.now.tables.fired c.loop-place.place c.in-Some.row.now is fails c.loop-place.invariant
