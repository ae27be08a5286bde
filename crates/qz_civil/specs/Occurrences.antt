-- The occurrences of an even stepping, and the end of a schedule. Times are in ms.
use Rattle.std.specs.Prelude.{ℕ, ◌+◌, ◌*◌, ◌≤◌, ℤ, pos, ◌≤ℤ◌, ◌<ℤ◌, Option, Some, None}
use Rattle.qz_civil.specs.declared.limits.TheConstants.{LAST}

-- t is before the end, where there is one
abbrev pub IsBefore : Option ℤ → ℤ → Type 0
IsBefore None t = Unit {0}
IsBefore (Some end) t = t <ℤ end

-- k is the place of the first of start, start + step, .. that isn't below `from`
pub record IsOccurrence (start step from k : ℕ) : Type 0 where
  pub reached : from ≤ start + k * step
  pub first : (j : ℕ) → from ≤ start + j * step → k ≤ j

-- from that moment on no timestamp is before the end
abbrev pub IsPast : Option ℤ → ℕ → Type 0
IsPast end moment = (t : ℤ) → pos moment ≤ℤ t → t ≤ℤ LAST → IsBefore end t → ⊥
