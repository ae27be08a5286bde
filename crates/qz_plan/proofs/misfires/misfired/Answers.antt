use Rattle.std.proofs.Common.{w64, arith}
use Rattle.std.proofs.lemmas.Int.{ints, to_z-of_z}
use Rattle.qz_plan.proofs.PlanLaws.{fire_time-next}
use Rattle.qz_plan.proofs.misfires.misfired.Goals as goal

pub returns : goal.returns
returns c =
    let next = to_z-of_z w64 c.args.next c.ranges.next in
    let now = to_z-of_z w64 c.args.now c.ranges.now in
    let least = rw (next, now, c.new-later.ensures.timing, c.new-later.ensures.zone, c.new-later.ensures.chain) at c.after_misfire.ensures in
    record { least = least; value = least _ (fire_time-next _ _ _ c.requires.timing c.args.now (omega (arith, ints, c.requires.next, c.requires.missed))) }
