-- The least of a set that is later, and the first number of a range that passes a test.
use Rattle.std.specs.Prelude.{◌≡◌, ℕ, ◌<◌, ◌≤◌, Bool, true, false, ℤ, ◌<ℤ◌, ◌≤ℤ◌, Option, Some, None}

-- t is the least of the set's timestamps after `after`, up to the horizon
pub record IsLeast (horizon : ℤ) (Member : ℤ → Type 0) (after t : ℤ) : Type 0 where
  pub member : Member t
  pub later : after <ℤ t
  pub within : t ≤ℤ horizon
  pub least : (s : ℤ) → Member s → after <ℤ s → t ≤ℤ s

-- the answer is that timestamp, and None exactly where there is none
abbrev pub IsNext : ℤ → (ℤ → Type 0) → ℤ → Option ℤ → Type 0
IsNext horizon Member after None = (s : ℤ) → Member s → after <ℤ s → s ≤ℤ horizon → ⊥
IsNext horizon Member after (Some t) = IsLeast horizon Member after t

-- no number from `from` to before `to` passes
abbrev pub NoneIn : (ℕ → Bool) → ℕ → ℕ → Type 0
NoneIn test from to = (k : ℕ) → from ≤ k → k < to → test k ≡ false

-- n passes and lies in the range, and no number of the range before it passes
pub record IsLeastIn (test : ℕ → Bool) (from to n : ℕ) : Type 0 where
  pub low : from ≤ n
  pub high : n < to
  pub passes : test n ≡ true
  pub none : NoneIn test from n

-- the answer is that number, and None exactly where there is none
abbrev pub IsFirst : (ℕ → Bool) → ℕ → ℕ → Option ℕ → Type 0
IsFirst test from to None = NoneIn test from to
IsFirst test from to (Some n) = IsLeastIn test from to n
