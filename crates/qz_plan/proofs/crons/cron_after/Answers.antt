use Rattle.std.proofs.Common.{rules, FitsSigned, w64}
use Rattle.std.proofs.lemmas.Int.{to_z-of_z}
use Rattle.qz_plan.proofs.NextLaws.{IsNext-up_to, IsNext-cron}
use Rattle.qz_plan.proofs.crons.cron_after.Goals as goal

pub returns : goal.returns
returns c =
    let s = to_z-of_z w64 c.args.start c.ranges.start in
    let a = to_z-of_z w64 c.args.after c.ranges.after in
    let f : FitsSigned w64 c.start_second.result = search rules in
    let e = to_z-of_z w64 c.start_second.result f in
    let v = rw s at c.start_second.ensures.value in
    let found = rw v at (rw a at (rw e at c.from_first.ensures)) in
    rw c.up_to.ensures (IsNext-cron _ _ c.args.start _ _ _ (IsNext-up_to _ c.args.end _ _ found))
