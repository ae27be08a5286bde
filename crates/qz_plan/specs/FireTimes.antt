-- The fire times of a trigger: its schedule, less what its calendars exclude. Times are in ms.
use Rattle.std.specs.Prelude.{ℤ, negsuc, ◌<ℤ◌, ◌≤ℤ◌, List, All, AllPairs, Contains}
use Rattle.qz_civil.specs.declared.stretches.Stretch.{Stretch}
use Rattle.qz_civil.specs.declared.timings.Timing.{Timing}
use Rattle.qz_calendar.specs.Chains.{ZonedCalendar, Included}
use Rattle.qz_plan.specs.Schedule.{IsScheduled}

-- t is in the schedule, and the chain of calendars includes it
pub record IsFireTime (timing : Timing) (zone : List Stretch) (chain : List ZonedCalendar) (t : ℤ) : Type 0 where
  pub scheduled : IsScheduled timing zone t
  pub included : Included chain t

-- the numbers are the members of the set that come after `after`, up to the horizon: all of them and no others, ascending
pub record AreAllAfter (horizon : ℤ) (Member : ℤ → Type 0) (after : ℤ) (ts : List ℤ) : Type 0 where
  pub ascending : AllPairs (λ s t. s <ℤ t) ts
  pub only : All (λ t. Member t × (after <ℤ t) × (t ≤ℤ horizon)) ts
  pub all : (t : ℤ) → Member t → after <ℤ t → t ≤ℤ horizon → Contains ts t

-- all fire times of the trigger up to the horizon, ascending
abbrev pub AreFireTimes : ℤ → Timing → List Stretch → List ZonedCalendar → List ℤ → Type 0
AreFireTimes horizon timing zone chain ts = AreAllAfter horizon (IsFireTime timing zone chain) (negsuc 0) ts
