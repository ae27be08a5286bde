-- The bytes of lists, both ways.
use Rattle.std.specs.Prelude.{ℕ, zero, suc, List, [], ◌∷◌, ◌++◌, length, Option, Some, None, Ok}
use Rattle.std.specs.Int.{w16}
use Rattle.std.specs.List.{flat_map}
use Rattle.qz_values.specs.Fields.{number, is_long, ◌>>=◌, Read, checked, number_at}

-- how many items there are, and the items
abbrev pub list : {A : Type 0} → (A → List ℕ) → List A → List ℕ
list item xs = number w16 (length xs) ++ flat_map item xs

-- So many items. A rule of an item may name the one before; `before` is what stands before the first.
abbrev pub items_at : {A : Type 0} → (Option A → List ℕ → Read A) → ℕ → Option A → List ℕ → Read (List A)
items_at read zero before bytes = Ok ([], bytes)
items_at read (suc n) before bytes = do
  x ← read before bytes
  xs ← items_at read n (Some x.0) x.1
  Ok (x.0 ∷ xs.0, xs.1)

-- a list of at least and at most so many items
abbrev pub list_at : {A : Type 0} → ℕ → ℕ → (Option A → List ℕ → Read A) → List ℕ → Read (List A)
list_at least most read bytes = do
  n ← checked (is_long least most) (number_at w16) bytes
  items_at read n.0 None n.1
