-- Rows in slots, in the order of a list of slots.
use Rattle.std.specs.declared.cmp.Ordering.{Ordering}
use Rattle.std.specs.Prelude.{◌≢◌, ◌<◌, ◌≡◌, ◌⊎◌, ⊤, ℕ, Bool, true, false, List, [], ◌∷◌, Option, Some, None, IsSome, option_map, slice_index_or, length, nat_eq, if◌then◌else◌}
use Rattle.qz_types.specs.Sorted.{place_of, row_of}

-- the number stands in the list
abbrev pub has_number : ℕ → List ℕ → Bool
has_number n [] = false
has_number n (x ∷ xs) = if nat_eq n x then true else has_number n xs

-- what contracts see of the rows of a kind: the rows, in the order of their ids; the row of each slot; the slots in the
-- order of the rows; and how many rows more there is memory for
pub record Kept (R : Type 0) : Type 0 where
  pub rows : List R
  pub slots : List (Option R)
  pub order : List ℕ
  pub spare : ℕ

module _ {R : Type 0} where
  abbrev pub with_found : Option R → List R → List R
  with_found None rows = rows
  with_found (Some row) rows = row ∷ rows

  -- the rows at these slots, in that order
  abbrev pub rows_at : List (Option R) → List ℕ → List R
  rows_at slots [] = []
  rows_at slots (s ∷ ss) = with_found (slice_index_or slots s None) (rows_at slots ss)

  -- each slot has a row
  abbrev pub AreFilled : List (Option R) → List ℕ → Type 0
  AreFilled slots [] = ⊤
  AreFilled slots (s ∷ ss) = IsSome (slice_index_or slots s None) × AreFilled slots ss

  module _ {K : Type 0} (cmp : K → K → Ordering) (id : R → K) (slots : List (Option R)) (order : List ℕ) (k : K) where
    -- the row of this id stands at place i
    pub record IsFound (i : ℕ) : Type 0 where
      pub in_range : i < length order
      pub place : place_of cmp id k (rows_at slots order) ≡ i
      pub row : row_of cmp id k (rows_at slots order) ≡ slice_index_or slots (slice_index_or order i 0) None

    -- no row has this id
    pub record IsAbsent : Type 0 where
      pub absent : row_of cmp id k (rows_at slots order) ≡ None

  -- the slot has this now, and every other slot what it had
  pub record IsWritten (old new : List (Option R)) (slot : ℕ) (here : Option R) : Type 0 where
    pub changed : slice_index_or new slot None ≡ here
    pub others : (other : ℕ) → other ≢ slot → slice_index_or new other None ≡ slice_index_or old other None

  -- each slot has what it had, or was edited in this way
  abbrev pub AreEdited : (Option R → Option R → Type 0) → List (Option R) → List (Option R) → Type 0
  AreEdited Edit old new = (s : ℕ) → (slice_index_or new s None ≡ slice_index_or old s None) ⊎ Edit (slice_index_or old s None) (slice_index_or new s None)

  -- what has become of a slot where those of a list were edited
  abbrev pub edited_in : (R → R) → List ℕ → ℕ → Option R → Option R
  edited_in f edited s o = if has_number s edited then option_map f o else o
