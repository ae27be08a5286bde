-- What an edit of the slot at a place makes of the rows.
use Rattle.std.proofs.Common.{◌≡◌, ◌≢◌, ℕ, zero, suc, ◌<◌, List, [], ◌∷◌, length, get_or, set, Option, Some, None, refl, sym, subst, ◌∙◌}
use Rattle.std.specs.List.{remove, slice_get}
use Rattle.std.specs.Cmp.{IsTotalOrder}
use Rattle.std.specs.declared.cmp.Ordering.{Ordering}
use Rattle.std.proofs.lemmas.List.{get_or-set_same, get_or-set_other}
use Rattle.qz_types.specs.Sorted.{IsBefore, IsAscending}
use Rattle.qz_tables.specs.Changes.{changed_nth}
use Rattle.qz_tables.specs.Slots.{rows_at, AreFilled}
use Rattle.qz_tables.proofs.BulkLemmas.{changed-set}
use Rattle.qz_tables.proofs.Filled.{filled_at, nth_row, rows-kept, filled-kept, rows-remove, filled-remove, others-at, rows-set, filled-set, keep-removed}
use Rattle.qz_tables.proofs.SlotEdits.{Edited, within_slots}

module _ {R K : Type 0} (cmp : K → K → Ordering) (id : R → K) where
  before-changed : (f : R → R) (k : K) (xs : List R) (n : ℕ) → ((x : R) → id (f x) ≡ id x) → IsBefore cmp id k xs → IsBefore cmp id k (changed_nth f n xs)
  before-changed f k [] n keeps b = tt
  before-changed f k (x ∷ xs) zero keeps b = (rw (keeps x) b.0, b.1)
  before-changed f k (x ∷ xs) (suc n) keeps b = (b.0, before-changed f k xs n keeps b.1)

  ascending-changed : (f : R → R) (xs : List R) (n : ℕ) → ((x : R) → id (f x) ≡ id x) → IsAscending cmp id xs → IsAscending cmp id (changed_nth f n xs)
  ascending-changed f [] n keeps up = tt
  ascending-changed f (x ∷ xs) zero keeps up = (subst (λ k. IsBefore cmp id k xs) (sym (keeps x)) up.0, up.1)
  ascending-changed f (x ∷ xs) (suc n) keeps up = (before-changed f (id x) xs n keeps up.0, ascending-changed f xs n keeps up.1)

  before-remove : (k : K) (xs : List R) (n : ℕ) → IsBefore cmp id k xs → IsBefore cmp id k (remove xs n)
  before-remove k [] zero b = tt
  before-remove k [] (suc n) b = tt
  before-remove k (x ∷ xs) zero b = b.1
  before-remove k (x ∷ xs) (suc n) b = (b.0, before-remove k xs n b.1)

  ascending-remove : (xs : List R) (n : ℕ) → IsAscending cmp id xs → IsAscending cmp id (remove xs n)
  ascending-remove [] zero up = tt
  ascending-remove [] (suc n) up = tt
  ascending-remove (x ∷ xs) zero up = up.1
  ascending-remove (x ∷ xs) (suc n) up = (before-remove (id x) xs n up.0, ascending-remove xs n up.1)

  module _ (laws : IsTotalOrder cmp) where
    pub changed-slot : (old : List (Option R)) (order : List ℕ) (i : ℕ) (f : R → R) (r : R) → AreFilled old order → IsAscending cmp id (rows_at old order)
        → ((x : R) → id (f x) ≡ id x) → i < length order → get_or old (get_or order i 0) None ≡ Some r
        → Edited cmp id laws (set old (get_or order i 0) (Some (f r))) order (changed_nth f i (rows_at old order))
    changed-slot old order i f r filled up keeps lt was =
        let slot = get_or order i 0 in
        let new = set old slot (Some (f r)) in
        let written = get_or-set_same old slot (Some (f r)) None (within_slots cmp id laws old slot (filled_at old order i filled lt)) in
        let others : (other : ℕ) → other ≢ slot → get_or new other None ≡ get_or old other None = λ other differs. get_or-set_other old slot other (Some (f r)) None differs in
        let at : slice_get (rows_at old order) i ≡ Some r = nth_row old order i slot filled lt refl ∙ was in
        let rows : rows_at new order ≡ changed_nth f i (rows_at old order) = rows-set old new order i (f r) filled lt (others-at cmp id laws old order i filled up lt) written others ∙ changed-set f (rows_at old order) i r at in
        record {
          rows = rows;
          ascending = rw rows (ascending-changed f (rows_at old order) i keeps up);
          filled = filled-set old new order slot (f r) filled written others;
        }

    pub removed-slot : (old new : List (Option R)) (order : List ℕ) (i : ℕ) → AreFilled old order → IsAscending cmp id (rows_at old order) → i < length order
        → ((other : ℕ) → other ≢ get_or order i 0 → get_or new other None ≡ get_or old other None)
        → Edited cmp id laws new (remove order i) (remove (rows_at old order) i)
    removed-slot old new order i filled up lt others =
        let kept = keep-removed old new order i (others-at cmp id laws old order i filled up lt) lt others in
        let rows : rows_at new (remove order i) ≡ remove (rows_at old order) i = rows-kept old new (remove order i) kept ∙ rows-remove old order i filled lt in
        record {
          rows = rows;
          ascending = rw rows (ascending-remove (rows_at old order) i up);
          filled = filled-kept old new (remove order i) kept (filled-remove old order i filled lt);
        }
