use Rattle.std.proofs.Common.{◌≡◌, pos, ◌≤ℤ◌, option_copied, w64, to_z, of_z, arith}
use Rattle.std.proofs.lemmas.Grind.{common_steps}
use Rattle.std.proofs.lemmas.Int.{ints, to_z-of_z}
use Rattle.qz_civil.specs.Least.{IsNext}
use Rattle.qz_civil.specs.declared.limits.TheConstants.{LAST}
use Rattle.qz_misfire.specs.Table.{moved}
use Rattle.qz_misfire.proofs.MovedLaws.{IsMove}
use Rattle.qz_plan.specs.FireTimes.{IsFireTime}
use Rattle.qz_plan.specs.Plan.{fire_time_after}
use Rattle.qz_plan.proofs.PlanLaws.{fire_time-next}
use Rattle.qz_model.specs.Plan.{within}
use Rattle.qz_apply.proofs.Moves.{moved-as, moved-by, moved-row, times_of, timing_of}
use Rattle.qz_apply.proofs.UpToHorizon.{up_to}
use Rattle.qz_apply.proofs.plans.move_of.Goals as goal

pub new-requires : goal.new-requires
new-requires c = timing_of _ _ c.trigger.view_is c.trigger.invariant

low : (c : goal.Joined-utc) → pos 0 ≤ℤ c.args.moment
low c = omega (arith, ints, c.requires.next, c.requires.missed)

-- what the misfire table makes of the trigger, whose later times are those up to the horizon
by_table : (c : goal.Joined-utc) → c.after_misfire.result ≡ moved c.trigger.inside.spec.timing
    (within c.args.tables.now.tables.horizon (fire_time_after c.trigger.inside.spec.timing c.zone_for-zone.result.now c.zoned_chain-chain.result c.args.moment)) c.unwrap_or-next.result c.trigger.inside.times c.args.moment
by_table c =
    let now = to_z-of_z w64 c.args.moment c.ranges.moment in
    let next : to_z w64 (of_z w64 c.unwrap_or-next.result) ≡ c.unwrap_or-next.result = grind (arith, common_steps, to_z-of_z) in
    let horizon : to_z w64 (of_z w64 c.horizon.result) ≡ c.args.tables.now.tables.horizon = grind (arith, common_steps, to_z-of_z) in
    let least = rw (next, now, horizon) at c.after_misfire.ensures in
    let times = fire_time_after c.trigger.inside.spec.timing c.zone_for-zone.result.now c.zoned_chain-chain.result c.args.moment in
    let next_time : IsNext LAST (IsFireTime c.new.result.timing.now c.new.result.zone.now c.new.result.chain.now) c.args.moment times =
    rw (c.new.ensures.timing, c.new.ensures.zone, c.new.ensures.chain) (fire_time-next _ _ _ (timing_of _ _ c.trigger.view_is c.trigger.invariant) c.args.moment (omega (arith, ints, low c))) in
    least (within c.args.tables.now.tables.horizon times) (up_to c.args.tables.now.tables.horizon (IsFireTime c.new.result.timing.now c.new.result.zone.now c.new.result.chain.now) c.args.moment times next_time)

pub returns-clause-value : goal.returns-clause-value
returns-clause-value c =
    moved-as c.args.tables.now.tables c.args.moment _ c.args.trigger.now c.zone_for-zone.result.now c.zoned_chain-chain.result (option_copied c.as_ref.result) c.unwrap_or-next.result c.after_misfire.result c.trigger.view_is
    c.zone_for-zone.ensures c.zoned_chain-chain.ensures c.as_ref.ensures.value c.unwrap_or-next.ensures (by_table c)

moves : (c : goal.Joined-utc) → IsMove c.trigger.inside.spec.timing c.after_misfire.result
moves c = moved-by c.trigger.inside.spec.timing _ _ c.args.tables.now.tables.horizon _ c.args.moment c.trigger.inside.times c.after_misfire.result (times_of _ _ c.trigger.view_is c.trigger.invariant) (low c) c.requires.moment (by_table c)

pub returns-clause-timing : goal.returns-clause-timing
returns-clause-timing c = moved-row _ _ c.after_misfire.result c.trigger.view_is (timing_of _ _ c.trigger.view_is c.trigger.invariant) (moves c)

pub returns-clause-times : goal.returns-clause-times
returns-clause-times c = (moves c).times

pub returns-clause-next : goal.returns-clause-next
returns-clause-next c = (moves c).next
