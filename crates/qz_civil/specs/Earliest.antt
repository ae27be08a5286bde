-- The first timestamp of a set.
use Rattle.std.specs.Prelude.{ℤ, Option, None, Some}
use Rattle.qz_civil.specs.Instants.{IsEarliest}

-- the answer is the set's first timestamp, and None where it has none
abbrev pub HasEarliest : (ℤ → Type 0) → Option ℤ → Type 0
HasEarliest Member None = (t : ℤ) → Member t → ⊥
HasEarliest Member (Some t) = IsEarliest Member t
