use Rattle.std.proofs.Common.{◌≡◌, ◌-ℤ◌, rules, ap, sym, ◌∙◌, pos, to_z, of_z, FitsSigned, w64, None, Some, arith}
use Rattle.std.proofs.lemmas.Int.{ints, to_z-of_z}
use Rattle.qz_plan.proofs.FireLaws.{excluded, fires, quieter, unscheduled}
use Rattle.qz_plan.proofs.PlanLaws.{fire_time-one}
use Rattle.qz_plan.proofs.fire_times.after.Goals as goal

pub returns-in_err-next : goal.returns-in_err-next
returns-in_err-next c =
    let fits : FitsSigned w64 c.in-Some.time = search rules in
    let time = to_z-of_z w64 c.in-Some.time fits in
    let quiet = rw (to_z-of_z w64 c.args.t c.ranges.t) at c.loop-time.invariant.quiet in
    let least = rw c.in-Some.is at c.scheduled_after.ensures in
    let none = rw time at (rw c.in_err-next.was at c.next_included.ensures) in
    let next = excluded _ _ _ _ _ quiet c.in-Some.time least none in
    rw c.from_residual.ensures (record { least = next; value = fire_time-one _ _ _ c.requires.timing _ None c.requires.low next })

pub returns-then-next-time : goal.returns-then-next-time
returns-then-next-time c =
    let fits : FitsSigned w64 c.in-Some.time = search rules in
    let time = to_z-of_z w64 c.in-Some.time fits in
    let next_fits : FitsSigned w64 c.in_ok-next.next = search rules in
    let next = to_z-of_z w64 c.in_ok-next.next next_fits in
    let same : c.in_ok-next.next ≡ c.in-Some.time = sym next ∙ ap (to_z w64) c.if-next-time.true ∙ time in
    let quiet = rw (to_z-of_z w64 c.args.t c.ranges.t) at c.loop-time.invariant.quiet in
    let least = rw c.in-Some.is at c.scheduled_after.ensures in
    let in_chain = rw time at (rw c.in_ok-next.was at c.next_included.ensures) in
    let first = fires _ _ _ _ _ quiet c.in-Some.time (omega (arith, ints, c.loop-time.invariant.later)) least (rw same at in_chain) in
    rw time (record { least = first; value = fire_time-one _ _ _ c.requires.timing _ (Some c.in-Some.time) c.requires.low first })

pub returns-clause-value : goal.returns-clause-value
returns-clause-value c =
    let quiet = rw (to_z-of_z w64 c.args.t c.ranges.t) at c.loop-time.invariant.quiet in
    fire_time-one _ _ _ c.requires.timing _ None c.requires.low (unscheduled _ _ _ _ _ quiet (rw c.in_default.is at c.scheduled_after.ensures))

pub loop-time-preserved : goal.loop-time-preserved
loop-time-preserved c =
    let fits : FitsSigned w64 c.in-Some.time = search rules in
    let time = to_z-of_z w64 c.in-Some.time fits in
    let quiet = rw (to_z-of_z w64 c.args.t c.ranges.t) at c.loop-time.invariant.quiet in
    let least = rw c.in-Some.is at c.scheduled_after.ensures in
    let in_chain = rw time at (rw c.in_ok-next.was at c.next_included.ensures) in
    let later = least.later in
    let reach = in_chain.later in
    let last : to_z w64 (of_z w64 (to_z w64 (of_z w64 c.in_ok-next.next) -ℤ pos 1)) ≡ c.in_ok-next.next -ℤ pos 1 = omega (arith, ints) in
    rw (last, to_z-of_z w64 c.args.t c.ranges.t) (record {
      low = omega (arith, ints, c.loop-time.invariant.low);
      high = omega (arith, ints, in_chain.within);
      later = omega (arith, ints, c.loop-time.invariant.later);
      quiet = quieter _ _ _ _ _ quiet c.in-Some.time c.in_ok-next.next least in_chain;
    })
