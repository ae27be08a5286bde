-- The clocks by which turns are told.
use Rattle.std.specs.Prelude.{ℕ, ℤ, List, ◌⊎◌}
use Rattle.qz_civil.specs.declared.stretches.Stretch.{Stretch}
use Rattle.qz_civil.specs.Instants.{IsEarliest, IsShownAt}
use Rattle.qz_civil.specs.Zones.{fixed_offset}
use Rattle.qz_interval.specs.declared.clocks.Clock.{Clock}
use Rattle.qz_interval.specs.declared.clocks.Clock.TheVariants.{Skipping, Waiting, Fixed}
use Rattle.qz_interval.specs.Interval.{IsGapEnd}

-- the stretches of its offsets
abbrev pub stretches : Clock → List Stretch
stretches (Skipping zone) = zone.now
stretches (Waiting zone) = zone.now
stretches (Fixed offset) = fixed_offset offset

-- t is the moment of a turn that has that local time
abbrev pub MomentBy : Clock → ℕ → ℤ → Type 0
MomentBy (Skipping zone) clock t = IsEarliest (IsShownAt zone.now clock) t
MomentBy (Waiting zone) clock t = IsEarliest (IsShownAt zone.now clock) t ⊎ IsGapEnd zone.now clock t
MomentBy (Fixed offset) clock t = IsShownAt (fixed_offset offset) clock t
