-- Looking in a heap for the first pair that passes a test.
use Rattle.std.specs.Prelude.{◌≡◌, ℕ, zero, suc, ◌-◌, ◌/◌, ◌<◌, Bool, true, ◌&&◌, List, length, slice_index_or, Option, Some, None}

-- The place that is so many steps above another. The top stays where it is.
abbrev pub above : ℕ → ℕ → ℕ
above zero place = place
above (suc steps) place = (above steps place - 1) / 2

-- A place is this one, or below it.
abbrev pub IsUnder : ℕ → ℕ → Type 0
IsUnder top place = (steps : ℕ) × (above steps place ≡ top)

module _ {K : Type 0} (before : K → K → Bool) where
  -- A key stands after the given one, if one is given.
  abbrev pub is_after : Option K → K → Bool
  is_after None key = true
  is_after (Some due) key = before due key

  -- A pair stands after the given key, if one is given, and its slot is wanted.
  abbrev pub is_wanted : (ℕ → Bool) → Option K → K × ℕ → Bool
  is_wanted wants due pair = is_after due pair.0 && wants pair.1

-- The pair at this place passes.
pub record IsPassing {K : Type 0} (P : K × ℕ → Bool) (xs : List (K × ℕ)) (place : ℕ) : Type 0 where
  pub within : place < length xs
  pub passes : (d : K × ℕ) → P (slice_index_or xs place d) ≡ true
