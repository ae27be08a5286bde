use Rattle.std.proofs.Common.{rules, FitsSigned, w64}
use Rattle.std.proofs.lemmas.Int.{to_z-of_z}
use Rattle.qz_plan.proofs.NextLaws.{IsNext-from}
use Rattle.qz_plan.proofs.crons.from_first.Goals as goal

pub returns : goal.returns
returns c =
    let f : FitsSigned w64 c.search_from.result = search rules in
    let e = to_z-of_z w64 c.search_from.result f in
    let a = to_z-of_z w64 c.args.after c.ranges.after in
    let b = to_z-of_z w64 c.args.first c.ranges.first in
    let s = rw a at (rw b at c.search_from.ensures) in
    IsNext-from _ _ _ _ _ s.behind s.reached s.ahead (rw e at c.next.ensures)
