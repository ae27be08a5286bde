-- The fire times of a simple trigger, as of Quartz's SimpleTrigger; the end is not included. Times are in ms.
use Rattle.std.specs.Prelude.{◌≡◌, ℕ, ℤ, pos, negsuc, ◌≤ℤ◌, ◌+ℤ◌, ◌*ℤ◌, Option, ◌⊎◌}
use Rattle.qz_civil.specs.Occurrences.{IsBefore}

-- a trigger of that count fires k intervals after its start: with -1 for any k
abbrev pub IsCounted : ℤ → ℕ → Type 0
IsCounted count k = (count ≡ negsuc 0) ⊎ (pos k ≤ℤ count)

-- t is a whole number of intervals after the start, no more than the count, and before the end
pub record IsSimple (start : ℤ) (end : Option ℤ) (interval count t : ℤ) : Type 0 where
  pub place : ℕ
  pub at : t ≡ start +ℤ pos place *ℤ interval
  pub counted : IsCounted count place
  pub before : IsBefore end t
