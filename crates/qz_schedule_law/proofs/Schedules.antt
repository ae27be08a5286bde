-- The times that a schedule goes through are the members of its set of fire times, up to the horizon.
use Rattle.std.proofs.Common.{◌≡◌, ℤ, negsuc, ◌≤ℤ◌, List, [], ◌∷◌, Option, Some, None, IsTrue, arith}
use Rattle.std.proofs.lemmas.Int.{ints}
use Rattle.qz_civil.specs.declared.limits.TheConstants.{LAST}
use Rattle.qz_civil.specs.declared.stretches.Stretch.{Stretch}
use Rattle.qz_civil.specs.declared.timings.Timing.{Timing}
use Rattle.qz_civil.specs.Least.{IsNext}
use Rattle.qz_civil.specs.Timings.{is_timing}
use Rattle.qz_calendar.specs.Chains.{ZonedCalendar}
use Rattle.qz_plan.specs.FireTimes.{IsFireTime, AreAllAfter}
use Rattle.qz_plan.specs.Plan.{fire_time_after}
use Rattle.qz_plan.proofs.FireTimesLaws.{all-empty, all-head, all-tail}
use Rattle.qz_plan.proofs.PlanLaws.{fire_time-next}
use Rattle.qz_types.specs.declared.triggers.TriggerSpec.{TriggerSpec}
use Rattle.qz_types.specs.Tables.{SchedulerTables}
use Rattle.qz_model.specs.Plan.{zone_named_by, stretches_for, zoned_chain, within, next_after}
use Rattle.qz_model.proofs.NextTimes.{within-one}
use Rattle.qz_schedule_law.specs.Turns.{AreInTurn, AreAllFrom}

module _ (timing : Timing) (zone : List Stretch) (chain : List ZonedCalendar) (valid : IsTrue (is_timing timing)) (horizon : ℤ) (near : horizon ≤ℤ LAST) where
  abbrev up_to_horizon : ℤ → Option ℤ
  up_to_horizon after = within horizon (fire_time_after timing zone chain after)

  -- what is the least fire time up to the horizon is what is kept
  is_kept : (after : ℤ) (r : Option ℤ) → negsuc 0 ≤ℤ after → IsNext horizon (IsFireTime timing zone chain) after r → up_to_horizon after ≡ r
  is_kept after r low next = within-one horizon LAST (IsFireTime timing zone chain) after (fire_time_after timing zone chain after) r near (fire_time-next timing zone chain valid after low) next

  times_turn : (after : ℤ) (ts : List ℤ) → negsuc 0 ≤ℤ after → AreAllAfter horizon (IsFireTime timing zone chain) after ts → AreInTurn up_to_horizon (up_to_horizon after) ts None
  times_turn after [] low are = is_kept after None low (all-empty horizon (IsFireTime timing zone chain) after are)
  times_turn after (t ∷ ts) low are =
      let first = all-head horizon (IsFireTime timing zone chain) after t ts are in (
        is_kept after (Some t) low first,
        times_turn t ts (omega (arith, ints, first.later)) (all-tail horizon (IsFireTime timing zone chain) after t ts are),
      )

-- all fire times of a trigger up to the horizon are its schedule from its first time on
pub fire_times_turn : (T : SchedulerTables) (s : TriggerSpec) (all : List ℤ) → IsTrue (is_timing s.timing) → T.horizon ≤ℤ LAST
    → AreAllAfter T.horizon (IsFireTime s.timing (stretches_for T.zones (zone_named_by s.timing.kind)) (zoned_chain T s.calendar)) (negsuc 0) all
    → AreAllFrom (next_after T s) (next_after T s (negsuc 0)) all
unfolding next_after
fire_times_turn T s all valid near are =
    times_turn s.timing (stretches_for T.zones (zone_named_by s.timing.kind)) (zoned_chain T s.calendar) valid T.horizon near (negsuc 0) all (omega (arith, ints)) are
