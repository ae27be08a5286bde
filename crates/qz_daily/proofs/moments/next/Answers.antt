use Rattle.std.proofs.Common.{w64}
use Rattle.std.proofs.lemmas.Int.{to_z-of_z}
use Rattle.qz_daily.proofs.Fires.{least-later}
use Rattle.qz_daily.proofs.moments.next.Goals as goal

pub returns : goal.returns
returns c =
    let start = to_z-of_z w64 c.args.start c.ranges.start in
    let after = to_z-of_z w64 c.args.after c.ranges.after in
    least-later _ c.args.zone.now c.args.start c.args.end c.args.after c.floor_of.result c.in_ok-second.second c.before_end.result
    (rw start at c.floor_of.ensures.started) (rw after at c.floor_of.ensures.later)
    (λ s started later. c.floor_of.ensures.first s (rw start started) (rw after later))
    (rw c.new-pattern.ensures.value at c.in_ok-second.ensures) c.before_end.ensures.kept c.before_end.ensures.gone
