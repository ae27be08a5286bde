-- A binary heap of pairs, with a table of their places. The parent of the pair at k is at (k - 1) / 2.
use Rattle.std.specs.Prelude.{◌≡◌, ◌≢◌, ℕ, ◌-◌, ◌/◌, ◌<◌, Bool, false, List, length, slice_index_or, slice_index}
use Rattle.std.specs.List.{Contains}

module _ {K : Type 0} (before : K → K → Bool) where
  -- The pair at k doesn't stand before the one at p.
  abbrev pub IsOver : List (K × ℕ) → ℕ → ℕ → Type 0
  IsOver xs p k = (d : K × ℕ) → before (slice_index_or xs k d).0 (slice_index_or xs p d).0 ≡ false

  -- r says whether the pair at a stands before the one at b.
  abbrev pub ComparesAt : List (K × ℕ) → ℕ → ℕ → Bool → Type 0
  ComparesAt xs a b r = (d : K × ℕ) → before (slice_index_or xs a d).0 (slice_index_or xs b d).0 ≡ r

  -- No pair stands before its parent.
  unfoldable pub IsHeap : List (K × ℕ) → Type 0
  IsHeap xs = (k : ℕ) → 0 < k → k < length xs → IsOver xs ((k - 1) / 2) k

  -- A heap but for the pair at j: no other pair stands before its parent, and the children of j don't stand before the
  -- parent of j.
  pub record IsHeapBut (xs : List (K × ℕ)) (j : ℕ) : Type 0 where
    pub others : (k : ℕ) → 0 < k → k < length xs → k ≢ j → (k - 1) / 2 ≢ j → IsOver xs ((k - 1) / 2) k
    pub around : (k : ℕ) → 0 < k → k < length xs → (k - 1) / 2 ≡ j → 0 < j → IsOver xs ((j - 1) / 2) k

  -- No child of j stands before the pair at c.
  unfoldable pub IsOverChildren : List (K × ℕ) → ℕ → ℕ → Type 0
  IsOverChildren xs j c = (k : ℕ) → 0 < k → k < length xs → (k - 1) / 2 ≡ j → IsOver xs c k

  -- The pair at j doesn't stand before its parent.
  unfoldable pub IsUnderParent : List (K × ℕ) → ℕ → Type 0
  IsUnderParent xs j = 0 < j → IsOver xs ((j - 1) / 2) j

module _ {K : Type 0} where
  -- The table has, for each slot in the heap, the place of its pair.
  unfoldable pub IsPlaced : List (K × ℕ) → List ℕ → Type 0
  IsPlaced xs ps = (i : ℕ) (d : K × ℕ) → i < length xs → ((slice_index_or xs i d).1 < length ps) × (slice_index ps (slice_index_or xs i d).1 ≡ i)

  -- Two pairs of one key are the same pair.
  unfoldable pub AreKeysApart : List (K × ℕ) → Type 0
  AreKeysApart xs = (a b : K × ℕ) → Contains xs a → Contains xs b → a.0 ≡ b.0 → a ≡ b
