-- The fire times of the example's trigger.
use Rattle.std.proofs.Common.{◌≡◌, ℕ, ℤ, pos, negsuc, ◌≤ℤ◌, ◌<ℤ◌, ◌+ℤ◌, ◌*ℤ◌, false, List, [], Some, inl, refl, sym, arith}
use Rattle.std.proofs.lemmas.Int.{ints}
use Rattle.std.proofs.lemmas.List.Elements.{All-nil}
use Rattle.qz_civil.specs.declared.limits.TheConstants.{LAST}
use Rattle.qz_civil.specs.declared.stretches.Stretch.{Stretch}
use Rattle.qz_civil.specs.Least.{IsLeast}
use Rattle.qz_calendar.specs.Chains.{ZonedCalendar, excludes_at}
use Rattle.qz_plan.specs.FireTimes.{IsFireTime}
use Rattle.qz_plan.specs.Plan.{fire_time_after}
use Rattle.qz_plan.proofs.PlanLaws.{fire_time-one}
use Rattle.qz_schedule_law.specs.Example.{every_2_ms}

turn : (zone : List Stretch) (k : ℕ) (after : ℤ) → after <ℤ (pos k *ℤ pos 2) → (pos k *ℤ pos 2) ≤ℤ (after +ℤ pos 2) → (pos k *ℤ pos 2) ≤ℤ LAST → IsLeast LAST (IsFireTime every_2_ms zone []) after (pos k *ℤ pos 2)
turn zone k after low high within = record {
  member = record { scheduled = record { place = k; at = omega (arith, ints); counted = inl refl; before = tt }; included = All-nil (λ (c : ZonedCalendar). excludes_at c (pos k *ℤ pos 2) ≡ false) };
  later = low;
  within = within;
  least = λ s member later. (let at = member.scheduled.at in omega (arith, ints));
}

pub first_turn : (zone : List Stretch) → fire_time_after every_2_ms zone [] (negsuc 0) ≡ Some (pos 0)
first_turn zone = sym (fire_time-one every_2_ms zone [] refl (negsuc 0) (Some (pos 0)) (omega (arith, ints)) (turn zone 0 (negsuc 0) (omega (arith, ints)) (omega (arith, ints)) (omega (arith, ints))))

pub second_turn : (zone : List Stretch) → fire_time_after every_2_ms zone [] (pos 0) ≡ Some (pos 2)
second_turn zone = sym (fire_time-one every_2_ms zone [] refl (pos 0) (Some (pos 2)) (omega (arith, ints)) (turn zone 1 (pos 0) (omega (arith, ints)) (omega (arith, ints)) (omega (arith, ints))))

pub third_turn : (zone : List Stretch) → fire_time_after every_2_ms zone [] (pos 2) ≡ Some (pos 4)
third_turn zone = sym (fire_time-one every_2_ms zone [] refl (pos 2) (Some (pos 4)) (omega (arith, ints)) (turn zone 2 (pos 2) (omega (arith, ints)) (omega (arith, ints)) (omega (arith, ints))))
