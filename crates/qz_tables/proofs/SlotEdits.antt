-- What an edit of slots makes of the rows.
use Rattle.std.proofs.Common.{◌≡◌, ◌≢◌, ℕ, zero, suc, ◌<◌, ◌≤◌, List, [], ◌∷◌, length, get_or, set, Bool, true, false, if◌then◌else◌, Option, Some, None, refl, sym, ap, subst, ◌∙◌, arith, inl, inr}
use Rattle.std.specs.Prelude.{IsSome, IfSome}
use Rattle.std.specs.List.{insert, remove}
use Rattle.std.specs.Ordering.{is_eq, is_gt}
use Rattle.std.specs.Cmp.{IsTotalOrder}
use Rattle.std.specs.declared.cmp.Ordering.{Ordering}
use Rattle.std.specs.declared.cmp.Ordering.TheVariants.{Less, Equal, Greater}
use Rattle.std.proofs.lemmas.Bool.{cases_eq}
use Rattle.std.proofs.lemmas.List.{get_or-set_same, get_or-set_other}
use Rattle.qz_types.specs.Sorted.{place_of, row_of, put, IsAscending}
use Rattle.qz_types.proofs.SortedLemmas.{place_le, insert-place}
use Rattle.qz_types.proofs.Ascending.{IsAscending-put}
use Rattle.qz_tables.specs.Ids.{changed_at, without}
use Rattle.qz_tables.specs.Slots.{rows_at, AreFilled, AreEdited, IsFound, IsAbsent}
use Rattle.qz_tables.proofs.Places.{place_after, place_here, row_at_place, row_absent}
use Rattle.qz_tables.proofs.ByIds.{IsAscending-without, IsAscending-changed, set-place, remove-place}
use Rattle.qz_tables.proofs.Filled.{length-rows, filled_at, row_here, rows-kept, filled-kept, keep-vacant, rows-insert, filled-insert, rows-remove, filled-remove, others-at, rows-set, filled-set, keep-removed}

module _ {R K : Type 0} (cmp : K → K → Ordering) (id : R → K) (laws : IsTotalOrder cmp) where
  -- ---- what the searches find

  test_here : (o : Option R) (f : R → Bool) (b : Bool) → IsSome o → IfSome o (λ r. b ≡ f r) → (r : R) × (o ≡ Some r) × (f r ≡ b)
  test_here None f b s h = absurd cc
  test_here (Some r) f b s h = (r, refl, sym h)

  some_same : (x y : R) → Some x ≡ Some y → x ≡ y
  some_same x y e = cc

  pub here : (slots : List (Option R)) (order : List ℕ) (f : R → Bool) (b : Bool) (i : ℕ) → AreFilled slots order → i < length order
      → IfSome (get_or slots (get_or order i 0) None) (λ r. b ≡ f r) → (r : R) × (get_or slots (get_or order i 0) None ≡ Some r) × (f (get_or (rows_at slots order) i r) ≡ b)
  here slots order f b i filled lt h =
      let t = test_here (get_or slots (get_or order i 0) None) f b (filled_at slots order i filled lt) h in
      let e : get_or (rows_at slots order) i t.0 ≡ t.0 = some_same _ _ (sym (row_here slots order i t.0 filled lt) ∙ t.1) in
      (t.0, t.1, ap f e ∙ t.2)

  pub further : (slots : List (Option R)) (order : List ℕ) (k : K) (i : ℕ) → AreFilled slots order → IsAscending cmp id (rows_at slots order) → i < length order
      → IfSome (get_or slots (get_or order i 0) None) (λ r. true ≡ is_gt (cmp k (id r))) → i < place_of cmp id k (rows_at slots order)
  further slots order k i filled up lt h =
      let t = here slots order (λ r. is_gt (cmp k (id r))) true i filled lt h in
      place_after cmp id laws k (rows_at slots order) i t.0 up (rw (length-rows slots order filled) lt) t.2

  pub not_further : (slots : List (Option R)) (order : List ℕ) (k : K) (i : ℕ) → AreFilled slots order → i < length order
      → IfSome (get_or slots (get_or order i 0) None) (λ r. false ≡ is_gt (cmp k (id r))) → place_of cmp id k (rows_at slots order) ≤ i
  not_further slots order k i filled lt h =
      let t = here slots order (λ r. is_gt (cmp k (id r))) false i filled lt h in
      place_here cmp id laws k (rows_at slots order) i t.0 t.2

  pub found : (slots : List (Option R)) (order : List ℕ) (k : K) (i : ℕ) → AreFilled slots order → i ≡ place_of cmp id k (rows_at slots order) → i < length order
      → IfSome (get_or slots (get_or order i 0) None) (λ r. true ≡ is_eq (cmp k (id r))) → IsFound cmp id slots order k i
  found slots order k i filled is lt h =
      let t = here slots order (λ r. is_eq (cmp k (id r))) true i filled lt h in
      let xs = rows_at slots order in
      let within : place_of cmp id k xs < length xs = rw (← is, length-rows slots order filled) lt in
      let same : is_eq (cmp k (id (get_or xs (place_of cmp id k xs) t.0))) ≡ true = rw (← is) t.2 in
      record {
        in_range = lt;
        place = sym is;
        row = row_at_place cmp id laws k xs t.0 within same ∙ ap (λ j. Some (get_or xs j t.0)) (sym is) ∙ sym (row_here slots order i t.0 filled lt);
      }

  pub absent : (slots : List (Option R)) (order : List ℕ) (k : K) (i : ℕ) → AreFilled slots order → IsAscending cmp id (rows_at slots order) → i ≡ place_of cmp id k (rows_at slots order) → i < length order
      → IfSome (get_or slots (get_or order i 0) None) (λ r. false ≡ is_eq (cmp k (id r))) → IsAbsent cmp id slots order k
  absent slots order k i filled up is lt h =
      let t = here slots order (λ r. is_eq (cmp k (id r))) false i filled lt h in
      record { absent = row_absent cmp id laws k (rows_at slots order) t.0 up (λ _. rw (← is) t.2) }

  none_there : (k : K) (xs : List R) → length xs ≤ place_of cmp id k xs → row_of cmp id k xs ≡ None
  none_there k [] le = refl
  none_there k (x ∷ xs) le = none_step (cmp k (id x)) k x xs (none_there k xs) le
    where
      none_step : (o : Ordering) (k : K) (x : R) (xs : List R) → (length xs ≤ place_of cmp id k xs → row_of cmp id k xs ≡ None) → suc (length xs) ≤ (if is_gt o then suc (place_of cmp id k xs) else 0) → (if is_eq o then Some x else row_of cmp id k xs) ≡ None
      none_step Less k x xs more le = absurd (omega arith)
      none_step Equal k x xs more le = absurd (omega arith)
      none_step Greater k x xs more le = more (omega arith)

  pub absent_end : (slots : List (Option R)) (order : List ℕ) (k : K) (i : ℕ) → AreFilled slots order → i ≡ place_of cmp id k (rows_at slots order) → i ≡ length order → IsAbsent cmp id slots order k
  absent_end slots order k i filled is at_end = record { absent = none_there k (rows_at slots order) (omega (arith, is, at_end, length-rows slots order filled)) }

  -- ---- edits

  -- what an edit leaves
  pub record Edited (slots : List (Option R)) (order : List ℕ) (listed : List R) : Type 0 where
    pub rows : rows_at slots order ≡ listed
    pub ascending : IsAscending cmp id (rows_at slots order)
    pub filled : AreFilled slots order

  edited : (slots : List (Option R)) (order : List ℕ) (rows : List R) → rows_at slots order ≡ rows → IsAscending cmp id rows → AreFilled slots order → Edited slots order rows
  edited slots order rows e up f = record { rows = e; ascending = rw e up; filled = f }

  some_is : (o : Option R) (r : R) → o ≡ Some r → IsSome o
  some_is o r e = rw e refl

  pub inserted : (old new : List (Option R)) (order : List ℕ) (i slot : ℕ) (r : R) → AreFilled old order → IsAscending cmp id (rows_at old order)
      → i ≡ place_of cmp id (id r) (rows_at old order) → row_of cmp id (id r) (rows_at old order) ≡ None
      → get_or old slot None ≡ None → get_or new slot None ≡ Some r → ((other : ℕ) → other ≢ slot → get_or new other None ≡ get_or old other None)
      → Edited new (insert order i slot) (put cmp id r (rows_at old order))
  inserted old new order i slot r filled up is none vacant written others =
      let k = keep-vacant old new order slot filled vacant others in
      let within : i ≤ length order = omega (arith, is, place_le cmp id (id r) (rows_at old order), length-rows old order filled) in
      let now_filled = filled-kept old new order k filled in
      let e : rows_at new (insert order i slot) ≡ insert (rows_at new order) i r = rows-insert new order i slot r now_filled written within in
      edited new (insert order i slot) _
      (e ∙ ap (λ xs. insert xs i r) (rows-kept old new order k) ∙ ap (λ j. insert (rows_at old order) j r) is ∙ insert-place cmp id r (rows_at old order))
      (IsAscending-put cmp id laws r (rows_at old order) up none)
      (filled-insert new order i slot now_filled (some_is _ r written) within)

  -- the row at the place of an id that is found
  pub record StandsAt (slots : List (Option R)) (order : List ℕ) (k : K) (i : ℕ) : Type 0 where
    pub row : R
    pub in_slot : get_or slots (get_or order i 0) None ≡ Some row
    pub in_rows : get_or (rows_at slots order) i row ≡ row
    pub within : place_of cmp id k (rows_at slots order) < length (rows_at slots order)
    pub same : is_eq (cmp k (id (get_or (rows_at slots order) (place_of cmp id k (rows_at slots order)) row))) ≡ true

  some_row : (o : Option R) → IsSome o → (r : R) × (o ≡ Some r)
  some_row None s = absurd cc
  some_row (Some r) s = (r, refl)

  id_found : (k : K) (r : R) (xs : List R) → row_of cmp id k xs ≡ Some r → is_eq (cmp k (id r)) ≡ true
  id_found k r [] e = absurd (cc)
  id_found k r (x ∷ xs) e = elim (is_eq (cmp k (id x))) as (λ b. is_eq (cmp k (id x)) ≡ b → (if b then Some x else row_of cmp id k xs) ≡ Some r → is_eq (cmp k (id r)) ≡ true) [
    | true ↦ λ is h. ap (λ y. is_eq (cmp k (id y))) (sym (some_same x r h)) ∙ is
    | false ↦ λ is h. id_found k r xs h
  ] refl e

  pub stands : (slots : List (Option R)) (order : List ℕ) (k : K) (i : ℕ) → AreFilled slots order → IsFound cmp id slots order k i → StandsAt slots order k i
  stands slots order k i filled is =
      let s = some_row (get_or slots (get_or order i 0) None) (filled_at slots order i filled is.in_range) in
      let xs = rows_at slots order in
      let e : get_or xs i s.0 ≡ s.0 = some_same _ _ (sym (row_here slots order i s.0 filled is.in_range) ∙ s.1) in
      record {
        row = s.0;
        in_slot = s.1;
        in_rows = e;
        within = rw (is.place, length-rows slots order filled) is.in_range;
        same = rw (is.place, e) (id_found k s.0 xs (is.row ∙ s.1));
      }

  pub removed : (old new : List (Option R)) (order : List ℕ) (i : ℕ) (k : K) → AreFilled old order → IsAscending cmp id (rows_at old order)
      → IsFound cmp id old order k i
      → ((other : ℕ) → other ≢ get_or order i 0 → get_or new other None ≡ get_or old other None)
      → Edited new (remove order i) (without cmp id k (rows_at old order))
  removed old new order i k filled up is others =
      let kept = keep-removed old new order i (others-at cmp id laws old order i filled up is.in_range) is.in_range others in
      let s = stands old order k i filled is in
      edited new (remove order i) _
      (rows-kept old new (remove order i) kept ∙ rows-remove old order i filled is.in_range ∙ ap (λ j. remove (rows_at old order) j) (sym is.place) ∙ remove-place cmp id laws k (rows_at old order) s.row up s.within s.same)
      (IsAscending-without cmp id k (rows_at old order) up)
      (filled-kept old new (remove order i) kept (filled-remove old order i filled is.in_range))

  -- the row that is found is written anew by f, which keeps its id
  pub written : (old new : List (Option R)) (order : List ℕ) (i : ℕ) (k : K) (f : R → R) (r : R) → AreFilled old order → IsAscending cmp id (rows_at old order)
      → ((x : R) → cmp k (id x) ≡ Equal → cmp (id (f x)) (id x) ≡ Equal)
      → IsFound cmp id old order k i → get_or old (get_or order i 0) None ≡ Some r → get_or new (get_or order i 0) None ≡ Some (f r)
      → ((other : ℕ) → other ≢ get_or order i 0 → get_or new other None ≡ get_or old other None)
      → Edited new order (changed_at cmp id k f (rows_at old order))
  written old new order i k f r filled up keeps is was now others =
      let xs = rows_at old order in
      let s = stands old order k i filled is in
      let q : s.row ≡ r = some_same _ _ (sym s.in_slot ∙ was) in
      let at : f r ≡ f (get_or xs (place_of cmp id k xs) s.row) = ap f (sym q ∙ sym s.in_rows ∙ ap (λ j. get_or xs j s.row) (sym is.place)) in
      edited new order _
      (rows-set old new order i (f r) filled is.in_range (others-at cmp id laws old order i filled up is.in_range) now others
      ∙ ap (λ j. set xs j (f r)) (sym is.place) ∙ ap (λ y. set xs (place_of cmp id k xs) y) at
      ∙ set-place cmp id laws k f xs s.row up s.within s.same)
      (IsAscending-changed cmp id laws k f xs keeps up)
      (filled-set old new order (get_or order i 0) (f r) filled now others)

  pub within_slots : (xs : List (Option R)) (i : ℕ) → IsSome (get_or xs i None) → i < length xs
  within_slots [] i s = absurd cc
  within_slots (x ∷ xs) zero s = omega arith
  within_slots (x ∷ xs) (suc i) s = let l = within_slots xs i s in omega arith

  pub set_in_place : (old : List (Option R)) (order : List ℕ) (i : ℕ) (k : K) (f : R → R) (r : R) → AreFilled old order → IsAscending cmp id (rows_at old order)
      → ((x : R) → cmp k (id x) ≡ Equal → cmp (id (f x)) (id x) ≡ Equal)
      → IsFound cmp id old order k i → get_or old (get_or order i 0) None ≡ Some r
      → Edited (set old (get_or order i 0) (Some (f r))) order (changed_at cmp id k f (rows_at old order))
  set_in_place old order i k f r filled up keeps is was =
      let slot = get_or order i 0 in
      written old (set old slot (Some (f r))) order i k f r filled up keeps is was
      (get_or-set_same old slot (Some (f r)) None (within_slots old slot (filled_at old order i filled is.in_range)))
      (λ other differs. get_or-set_other old slot other (Some (f r)) None differs)

  -- one slot that is edited
  pub one_edited : (old : List (Option R)) (Edit : Option R → Option R → Type 0) (slot : ℕ) (r : R) → IsSome (get_or old slot None) → Edit (get_or old slot None) (Some r) → AreEdited Edit old (set old slot (Some r))
  one_edited old Edit slot r filled e s = elim (cases_eq s slot) [
    | inl same ↦ inr (subst (λ i. Edit (get_or old i None) (get_or (set old slot (Some r)) i None)) (sym same) (rw (get_or-set_same old slot (Some r) None (within_slots old slot filled)) e))
    | inr differs ↦ inl (get_or-set_other old slot s (Some r) None differs)
  ]
