-- Places in rows whose ids ascend.
use Rattle.std.proofs.lemmas.Bool.{cases_lt}
use Rattle.std.proofs.Common.{inl, inr, ◌≡◌, ℕ, zero, suc, ◌<◌, ◌≤◌, List, [], ◌∷◌, length, get_or, Bool, true, false, if◌then◌else◌, Option, Some, None, refl, ◌∙◌, arith}
use Rattle.std.specs.Ordering.{is_gt, is_eq}
use Rattle.std.specs.Cmp.{IsTotalOrder}
use Rattle.std.specs.declared.cmp.Ordering.{Ordering}
use Rattle.std.specs.declared.cmp.Ordering.TheVariants.{Less, Equal, Greater}
use Rattle.qz_types.specs.Sorted.{place_of, row_of, IsBefore, IsAscending}

module _ {R K : Type 0} (cmp : K → K → Ordering) (id : R → K) where
  -- an id comes after each row before its place
  after_step : (b : Bool) (n i : ℕ) (k : K) (x d : R) (xs : List R) → is_gt (cmp k (id x)) ≡ b
      → ((j : ℕ) → j < n → is_gt (cmp k (id (get_or xs j d))) ≡ true)
      → i < (if b then suc n else 0) → is_gt (cmp k (id (get_or (x ∷ xs) i d))) ≡ true
  after_step true n zero k x d xs e more lt = e
  after_step true n (suc i) k x d xs e more lt = more i (omega arith)
  after_step false n i k x d xs e more lt = absurd (omega arith)

  pub is_after_before : (k : K) (xs : List R) (i : ℕ) (d : R) → i < place_of cmp id k xs → is_gt (cmp k (id (get_or xs i d))) ≡ true
  is_after_before k [] i d lt = absurd (omega arith)
  is_after_before k (x ∷ xs) i d lt = after_step (is_gt (cmp k (id x))) _ i k x d xs refl (λ j l. is_after_before k xs j d l) lt

  before_at : (k : K) (xs : List R) (i : ℕ) (d : R) → IsBefore cmp id k xs → i < length xs → cmp k (id (get_or xs i d)) ≡ Less
  before_at k [] i d b lt = absurd (omega arith)
  before_at k (x ∷ xs) zero d b lt = b.0
  before_at k (x ∷ xs) (suc i) d b lt = before_at k xs i d b.1 (omega arith)

  module _ (order : IsTotalOrder cmp) where
    smaller : (o : Ordering) (k y z : K) → cmp k y ≡ o → is_gt o ≡ false → cmp y z ≡ Less → cmp k z ≡ Less
    smaller Less k y z e n l = order.trans k y z e l
    smaller Equal k y z e n l = order.congr k y z e ∙ l
    smaller Greater k y z e n l = absurd cc

    -- and after no row from its place on
    after_rest : (b : Bool) (n i : ℕ) (k : K) (x d : R) (xs : List R) → is_gt (cmp k (id x)) ≡ b
        → IsBefore cmp id (id x) xs
        → ((j : ℕ) → n ≤ j → j < length xs → is_gt (cmp k (id (get_or xs j d))) ≡ false)
        → (if b then suc n else 0) ≤ i → i < suc (length xs) → is_gt (cmp k (id (get_or (x ∷ xs) i d))) ≡ false
    after_rest true n zero k x d xs e below more le lt = absurd (omega arith)
    after_rest true n (suc i) k x d xs e below more le lt = more i (omega arith) (omega arith)
    after_rest false n zero k x d xs e below more le lt = e
    after_rest false n (suc i) k x d xs e below more le lt =
        let l : cmp k (id (get_or xs i d)) ≡ Less = smaller (cmp k (id x)) k (id x) _ refl e (before_at (id x) xs i d below (omega arith)) in
        rw l refl

    pub not_after : (k : K) (xs : List R) (i : ℕ) (d : R) → IsAscending cmp id xs → place_of cmp id k xs ≤ i → i < length xs → is_gt (cmp k (id (get_or xs i d))) ≡ false
    not_after k [] i d up le lt = absurd (omega arith)
    not_after k (x ∷ xs) i d up le lt = after_rest (is_gt (cmp k (id x))) _ i k x d xs refl up.0 (λ j l m. not_after k xs j d up.1 l m) le lt

    pub place_after : (k : K) (xs : List R) (i : ℕ) (d : R) → IsAscending cmp id xs → i < length xs → is_gt (cmp k (id (get_or xs i d))) ≡ true → i < place_of cmp id k xs
    place_after k xs i d up lt e = elim (cases_lt i (place_of cmp id k xs)) [ inl l ↦ l | inr m ↦ absurd (let f = not_after k xs i d up m lt in cc) ]

    pub place_here : (k : K) (xs : List R) (i : ℕ) (d : R) → is_gt (cmp k (id (get_or xs i d))) ≡ false → place_of cmp id k xs ≤ i
    place_here k xs i d e = elim (cases_lt i (place_of cmp id k xs)) [ inl l ↦ absurd (let f = is_after_before k xs i d l in cc) | inr m ↦ m ]

    -- where ids are equal the row is found
    row_step : (o : Ordering) (k : K) (x d : R) (xs : List R) (n : ℕ) (r : Option R) → cmp k (id x) ≡ o
        → (n < length xs → is_eq (cmp k (id (get_or xs n d))) ≡ true → r ≡ Some (get_or xs n d))
        → (if is_gt o then suc n else 0) < suc (length xs)
        → is_eq (cmp k (id (get_or (x ∷ xs) (if is_gt o then suc n else 0) d))) ≡ true
        → (if is_eq o then Some x else r) ≡ Some (get_or (x ∷ xs) (if is_gt o then suc n else 0) d)
    row_step Less k x d xs n r e more lt same = absurd cc
    row_step Equal k x d xs n r e more lt same = refl
    row_step Greater k x d xs n r e more lt same = more (omega arith) same

    pub row_at_place : (k : K) (xs : List R) (d : R) → place_of cmp id k xs < length xs → is_eq (cmp k (id (get_or xs (place_of cmp id k xs) d))) ≡ true → row_of cmp id k xs ≡ Some (get_or xs (place_of cmp id k xs) d)
    row_at_place k [] d lt same = absurd (omega arith)
    row_at_place k (x ∷ xs) d lt same = row_step (cmp k (id x)) k x d xs _ _ refl (row_at_place k xs d) lt same

    absent_before : (k : K) (xs : List R) → IsBefore cmp id k xs → row_of cmp id k xs ≡ None
    absent_before k [] b = refl
    absent_before k (x ∷ xs) b = rw b.0 (absent_before k xs b.1)

    before_further : (k y : K) (xs : List R) → cmp k y ≡ Less → IsBefore cmp id y xs → IsBefore cmp id k xs
    before_further k y [] e b = tt
    before_further k y (x ∷ xs) e b = (order.trans k y (id x) e b.0, before_further k y xs e b.1)

    none_step : (o : Ordering) (k : K) (x d : R) (xs : List R) (n : ℕ) → cmp k (id x) ≡ o
        → IsBefore cmp id (id x) xs
        → ((n < length xs → is_eq (cmp k (id (get_or xs n d))) ≡ false) → row_of cmp id k xs ≡ None)
        → ((if is_gt o then suc n else 0) < suc (length xs) → is_eq (cmp k (id (get_or (x ∷ xs) (if is_gt o then suc n else 0) d))) ≡ false)
        → (if is_eq o then Some x else row_of cmp id k xs) ≡ None
    none_step Less k x d xs n e below more differs = absent_before k xs (before_further k (id x) xs e below)
    none_step Equal k x d xs n e below more differs = absurd (let f : is_eq (cmp k (id x)) ≡ false = differs (omega arith) in let g : is_eq (cmp k (id x)) ≡ true = rw e refl in cc)
    none_step Greater k x d xs n e below more differs = more (λ lt. differs (omega arith))

    pub row_absent : (k : K) (xs : List R) (d : R) → IsAscending cmp id xs → (place_of cmp id k xs < length xs → is_eq (cmp k (id (get_or xs (place_of cmp id k xs) d))) ≡ false) → row_of cmp id k xs ≡ None
    row_absent k [] d up differs = refl
    row_absent k (x ∷ xs) d up differs = none_step (cmp k (id x)) k x d xs _ refl up.0 (row_absent k xs d up.1) differs
