-- Numbers of days, and times of the day, as they are printed.
use Rattle.std.specs.Prelude.{ℕ, ◌+◌, ◌/◌, ◌%◌, List, [], ◌∷◌, ◌++◌, ◌==◌, if◌then◌else◌, zero, suc}
use Rattle.std.specs.Fmt.{decimal}
use Rattle.qz_civil.specs.Fields.{has_bit}
use Rattle.qz_json_rows.specs.Json.{listed, more, plain}

-- the last two digits of a number
unfoldable pub two : ℕ → List ℕ
two n = (48 + n / 10 % 10) ∷ (48 + n % 10) ∷ []

-- the numbers from 1 to the last that a set has, ascending; bit 0 is that of number 1
abbrev pub numbers_in : ℕ → ℕ → List ℕ
numbers_in set zero = []
numbers_in set (suc last) = if has_bit set last then numbers_in set last ++ suc last ∷ [] else numbers_in set last

unfoldable pub set_text : ℕ → ℕ → List ℕ
set_text last set = listed decimal (numbers_in set last)

-- a set of numbers, left out where it is the usual one
unfoldable pub more_days : ℕ → ℕ → List ℕ → ℕ → List ℕ
more_days last usual name set = if set == usual then [] else more name (set_text last set)

-- a second of the day, as HH:MM:SS
unfoldable pub clock_text : ℕ → List ℕ
clock_text second = two (second / 3600) ++ 58 ∷ two (second / 60 % 60) ++ 58 ∷ two (second % 60)

-- the same, left out where it is the usual one
unfoldable pub more_clock : List ℕ → ℕ → ℕ → List ℕ
more_clock name usual second = if second == usual then [] else more name (plain (clock_text second))
