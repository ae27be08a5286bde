-- A search for a row that passes a test, place by place.
use Rattle.std.proofs.Common.{◌≡◌, ℕ, ◌+◌, ◌||◌, Bool, true, false, List, [], ◌∷◌, zero, suc, cond, find, Some, None, refl, take, get_or, unwrap_or, sym, ap, ◌∙◌}
use Rattle.std.specs.List.{slice_get, list_any}
use Rattle.std.proofs.lemmas.Option.{slice_get_within, unwrap_or-slice_get}
use Rattle.std.proofs.lemmas.List.Folds.{list_any_at, list_any_more}

pub at_place : {R : Type 0} (rows : List R) (place : ℕ) (row : R) → slice_get rows place ≡ Some row → get_or rows place row ≡ row
at_place rows place row is = sym (unwrap_or-slice_get rows place row) ∙ ap (λ o. unwrap_or o row) is

-- a row that passes settles the answer
pub found_at : {R : Type 0} (p : R → Bool) (rows : List R) (place : ℕ) (row : R) → slice_get rows place ≡ Some row → p row ≡ true → list_any p rows ≡ true
found_at p rows place row is passes = list_any_at p rows place row (slice_get_within rows place row is) (ap p (at_place rows place row is) ∙ passes)

-- a row that doesn't pass leaves it open
pub none_up_to : {R : Type 0} (p : R → Bool) (rows : List R) (place : ℕ) (row : R) → slice_get rows place ≡ Some row → p row ≡ false → list_any p (take place rows) ≡ false
    → list_any p (take (place + 1) rows) ≡ false
none_up_to p rows place row is fails before =
    list_any_more p rows place row (slice_get_within rows place row is) ∙ ap (λ b. b || p (get_or rows place row)) before ∙ ap p (at_place rows place row is) ∙ fails

-- the first row that passes, and that there is none
pub first_at : {R : Type 0} (p : R → Bool) (rows : List R) (place : ℕ) (row : R) → list_any p (take place rows) ≡ false → slice_get rows place ≡ Some row → p row ≡ true → find p rows ≡ Some row
first_at p [] place row none is passes = absurd (cc)
first_at p (x ∷ rows) zero row none is passes = let same : x ≡ row = cc in rw (ap p same ∙ passes) is
first_at p (x ∷ rows) (suc place) row none is passes = elim (p x) as (λ b. (b || list_any p (take place rows)) ≡ false → cond b (Some x) (find p rows) ≡ Some row) [
  | true ↦ λ e. absurd (cc)
  | false ↦ λ e. first_at p rows place row e is passes
] none

pub none_passes : {R : Type 0} (p : R → Bool) (rows : List R) → list_any p rows ≡ false → find p rows ≡ None
none_passes p [] none = refl
none_passes p (x ∷ rows) none = elim (p x) as (λ b. (b || list_any p rows) ≡ false → cond b (Some x) (find p rows) ≡ None) [
  | true ↦ λ e. absurd (cc)
  | false ↦ λ e. none_passes p rows e
] none
