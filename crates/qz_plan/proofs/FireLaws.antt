-- The search for a fire time: by turns the next one of the schedule, and the next timestamp that the chain includes.
use Rattle.std.proofs.Common.{ℤ, pos, ◌-ℤ◌, ◌<ℤ◌, ◌≤ℤ◌, List, None, arith}
use Rattle.std.proofs.lemmas.Int.{ints}
use Rattle.qz_civil.specs.declared.limits.TheConstants.{LAST}
use Rattle.qz_civil.specs.declared.stretches.Stretch.{Stretch}
use Rattle.qz_civil.specs.declared.timings.Timing.{Timing}
use Rattle.qz_civil.specs.Least.{IsLeast, IsNext}
use Rattle.qz_calendar.specs.Chains.{ZonedCalendar, Included}
use Rattle.qz_plan.specs.FireTimes.{IsFireTime}
use Rattle.qz_plan.specs.Schedule.{IsScheduled}

-- what fires after t fires after `last`
pub record IsQuiet (timing : Timing) (zone : List Stretch) (chain : List ZonedCalendar) (t last : ℤ) : Type 0 where
  pub later : (s : ℤ) → IsFireTime timing zone chain s → t <ℤ s → last <ℤ s

module _ (timing : Timing) (zone : List Stretch) (chain : List ZonedCalendar) (t last : ℤ) (quiet : IsQuiet timing zone chain t last) where
  pub unscheduled : IsNext LAST (IsScheduled timing zone) last None → IsNext LAST (IsFireTime timing zone chain) t None
  unscheduled none s fires later within = none s fires.scheduled (quiet.later s fires later) within

  pub excluded : (time : ℤ) → IsLeast LAST (IsScheduled timing zone) last time → IsNext LAST (Included chain) (time -ℤ pos 1) None → IsNext LAST (IsFireTime timing zone chain) t None
  excluded time least none s fires later within =
      let reach = least.least s fires.scheduled (quiet.later s fires later) in
      none s fires.included (omega (arith, ints)) within

  pub fires : (time : ℤ) → t ≤ℤ last → IsLeast LAST (IsScheduled timing zone) last time → IsLeast LAST (Included chain) (time -ℤ pos 1) time → IsLeast LAST (IsFireTime timing zone chain) t time
  fires time le least in_chain =
      let later = least.later in
      record {
        member = record { scheduled = least.member; included = in_chain.member };
        later = omega (arith, ints);
        within = least.within;
        least = λ s fire after. least.least s fire.scheduled (quiet.later s fire after);
      }

  pub quieter : (time next : ℤ) → IsLeast LAST (IsScheduled timing zone) last time → IsLeast LAST (Included chain) (time -ℤ pos 1) next → IsQuiet timing zone chain t (next -ℤ pos 1)
  quieter time next least in_chain = record {
    later = λ s fire after.
        let reach = least.least s fire.scheduled (quiet.later s fire after) in
        let again = in_chain.least s fire.included (omega (arith, ints)) in
        omega (arith, ints);
  }
