-- How a pair rises and sinks in a heap, and how far.
use Rattle.std.specs.Prelude.{◌≡◌, ℕ, ◌+◌, ◌*◌, ◌^◌, ◌≤◌, ◌⊎◌, Bool, List}
use Rattle.qz_queue.specs.Heap.{IsHeapBut, IsOverChildren}

-- The pair that was at `start` in xs is at `at` in ys. Either nothing moved, or no child of `at` stands before it.
pub record HasRisen {K : Type 0} (before : K → K → Bool) (xs ys : List (K × ℕ)) (start at : ℕ) : Type 0 where
  pub heap : IsHeapBut before ys at
  pub below : at ≤ start
  pub over : ((at ≡ start) × (ys ≡ xs)) ⊎ IsOverChildren before ys at at

-- A pair rose from start to at in s steps: each step at least halves the distance from the front, counted from 1.
abbrev pub IsClimb : ℕ → ℕ → ℕ → Type 0
IsClimb s start at = 2 ^ s * (at + 1) ≤ start + 1

-- A pair sank from start to at in s steps.
abbrev pub IsFall : ℕ → ℕ → ℕ → Type 0
IsFall s start at = 2 ^ s * (start + 1) ≤ at + 1
