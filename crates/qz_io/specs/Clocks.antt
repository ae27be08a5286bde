-- What a reading does to the readings that a clock tells, and which reading a clock over a list gives next.
use Rattle.std.specs.Prelude.{◌≡◌, ℕ, ℤ, pos, ◌-◌, min, List, ◌++◌, length, slice_index_or, ⊤, Option, None, Some}

-- told readings grow by rs
abbrev pub Tells : Option (List ℤ) → Option (List ℤ) → List ℤ → Type 0
Tells None new rs = ⊤
Tells (Some xs) None rs = ⊥
Tells (Some xs) (Some ys) rs = ys ≡ xs ++ rs

-- the reading at a place, counted from 0: behind the end of the list its last one, and 0 where it has none
abbrev pub reading_at : List ℤ → ℕ → ℤ
reading_at readings k = slice_index_or readings (min k (length readings - 1)) (pos 0)

-- a clock over a list: the list, and the readings that it gave so far
pub record ListClockData : Type 0 where
  pub readings : List ℤ
  pub given : List ℤ
