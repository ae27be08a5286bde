-- Walks over rows, place by place.
use Rattle.std.proofs.Common.{◌≡◌, ℕ, zero, suc, ◌+◌, ◌≤◌, Bool, true, false, List, [], ◌∷◌, length, take, count_by, ◌<◌, Some, None, sym, ap, ◌∙◌, arith}
use Rattle.std.specs.List.{slice_get, list_all}
use Rattle.std.proofs.lemmas.Bool.{and_from}
use Rattle.std.proofs.lemmas.List.{take_all}
use Rattle.std.proofs.lemmas.List.Folds.{list_all_at, list_all_more}
use Rattle.std.proofs.lemmas.List.Sums.{count_by_more_yes, count_by_more_no}
use Rattle.std.proofs.lemmas.Option.{slice_get_within}
use Rattle.qz_apply.proofs.Searches.{at_place}
use Rattle.qz_model.proofs.RowPoints.{count_by-cons}

-- there is a row at each place before the end
pub is_there : {R : Type 0} (rows : List R) (place : ℕ) → place < length rows → None ≡ slice_get rows place → ⊥
is_there [] place lt none = absurd (omega arith)
is_there (x ∷ rows) zero lt none = cc
is_there (x ∷ rows) (suc place) lt none = is_there rows place (omega arith) none

module _ {R : Type 0} (p : R → Bool) where
  -- one row more passes
  pub pass_up_to : (rows : List R) (place : ℕ) (row : R) → slice_get rows place ≡ Some row → p row ≡ true → list_all p (take place rows) ≡ true → list_all p (take (place + 1) rows) ≡ true
  pass_up_to rows place row is passes before =
      list_all_more p rows place row (slice_get_within rows place row is) ∙ and_from (list_all p (take place rows)) _ before (ap p (at_place rows place row is) ∙ passes)

  -- a row that doesn't pass settles the answer
  pub fails_at : (rows : List R) (place : ℕ) (row : R) → slice_get rows place ≡ Some row → p row ≡ false → list_all p rows ≡ false
  fails_at rows place row is fails = list_all_at p rows place row (slice_get_within rows place row is) (ap p (at_place rows place row is) ∙ fails)

  pub all_pass : (rows : List R) (place : ℕ) → length rows ≤ place → list_all p (take place rows) ≡ true → list_all p rows ≡ true
  all_pass rows place le passes = ap (list_all p) (sym (take_all place rows le)) ∙ passes

  -- how many of the rows pass so far
  pub count_yes : (rows : List R) (place : ℕ) (row : R) → slice_get rows place ≡ Some row → p row ≡ true → count_by p (take (place + 1) rows) ≡ count_by p (take place rows) + 1
  count_yes rows place row is passes = count_by_more_yes p rows place row (slice_get_within rows place row is) (ap p (at_place rows place row is) ∙ passes)

  pub count_no : (rows : List R) (place : ℕ) (row : R) → slice_get rows place ≡ Some row → p row ≡ false → count_by p (take (place + 1) rows) ≡ count_by p (take place rows)
  count_no rows place row is fails = count_by_more_no p rows place row (slice_get_within rows place row is) (ap p (at_place rows place row is) ∙ fails)

  pub count_by-take-le : (n : ℕ) (xs : List R) → count_by p (take n xs) ≤ count_by p xs
  count_by-take-le zero xs = omega arith
  count_by-take-le (suc n) [] = omega arith
  count_by-take-le (suc n) (x ∷ xs) = rw (count_by-cons p x (take n xs), count_by-cons p x xs) (omega (arith, count_by-take-le n xs))

  pub count_all : (rows : List R) (place : ℕ) → length rows ≤ place → count_by p (take place rows) ≡ count_by p rows
  count_all rows place le = ap (count_by p) (take_all place rows le)
