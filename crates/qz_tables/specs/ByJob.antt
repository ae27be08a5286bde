-- Rows that stand side by side by their jobs.
use Rattle.std.specs.Prelude.{⊤, ◌≡◌, ℕ, ◌<◌, ◌≤◌, ◌-◌, Bool, true, false, not, List, [], ◌∷◌, Option, Some, length, take, drop}
use Rattle.std.specs.List.{AllByRecursion, slice_get}
use Rattle.std.specs.Ordering.{is_lt, is_gt}
use Rattle.std.specs.declared.cmp.Ordering.{Ordering}
use Rattle.std.specs.declared.cmp.Ordering.TheVariants.{Less, Equal, Greater}
use Rattle.qz_types.specs.Words.{key_cmp}
use Rattle.qz_types.specs.declared.keys.Key.{Key}
use Rattle.qz_tables.specs.Slots.{rows_at}
use Rattle.qz_tables.specs.declared.by_job.Bound.{Bound}
use Rattle.qz_tables.specs.declared.by_job.Bound.TheVariants.{Lower, Upper}

-- what comes before the bound of a job: what stands so to it
abbrev pub is_below : Bound → Ordering → Bool
is_below Lower o = is_lt o
is_below Upper o = not (is_gt o)

module _ {R : Type 0} (job : R → Key) where
  -- no row comes before one of an earlier job
  abbrev pub AreByJob : List R → Type 0
  AreByJob [] = ⊤
  AreByJob (r ∷ rows) = AllByRecursion (λ q. is_gt (key_cmp (job r) (job q)) ≡ false) rows × AreByJob rows

  -- just so many rows come before this bound of a job
  pub record IsBoundOf (bound : Bound) (k : Key) (rows : List R) (count : ℕ) : Type 0 where
    pub within : count ≤ length rows
    pub before : (i : ℕ) (r : R) → i < count → slice_get rows i ≡ Some r → is_below bound (key_cmp (job r) k) ≡ true
    pub after : (i : ℕ) (r : R) → count ≤ i → slice_get rows i ≡ Some r → is_below bound (key_cmp (job r) k) ≡ false

  -- the rows of a job are those from place low on, and before place high
  pub record IsRangeOf (k : Key) (rows : List R) (low high : ℕ) : Type 0 where
    pub ordered : low ≤ high
    pub within : high ≤ length rows
    pub before : (i : ℕ) (r : R) → i < low → slice_get rows i ≡ Some r → key_cmp (job r) k ≡ Less
    pub here : (i : ℕ) (r : R) → low ≤ i → i < high → slice_get rows i ≡ Some r → key_cmp (job r) k ≡ Equal
    pub after : (i : ℕ) (r : R) → high ≤ i → slice_get rows i ≡ Some r → key_cmp (job r) k ≡ Greater

  -- of an order of slots, these are the ones whose rows are of a job
  pub record AreSlotsOf (k : Key) (slots : List (Option R)) (order here : List ℕ) : Type 0 where
    pub low : ℕ
    pub high : ℕ
    pub range : IsRangeOf k (rows_at slots order) low high
    pub here_is : here ≡ take (high - low) (drop low order)
