-- Rows ascend where each comes before its neighbour.
use Rattle.std.proofs.Common.{◌≡◌, ℕ, zero, suc, ◌+◌, ◌-◌, ◌<◌, List, [], ◌∷◌, ◌++◌, length, get_or, None, inl, inr, ap, true, false, refl, sym, subst, ◌∙◌, arith}
use Rattle.std.proofs.lemmas.Bool.{cases_lt}
use Rattle.std.specs.Ordering.{is_lt, ordering_reverse}
use Rattle.std.specs.Cmp.{IsTotalOrder}
use Rattle.std.specs.declared.cmp.Ordering.{Ordering}
use Rattle.std.specs.declared.cmp.Ordering.TheVariants.{Less, Equal, Greater}
use Rattle.qz_types.specs.Sorted.{IsBefore, IsAscending, put, row_of}

any_default : {R : Type 0} (xs : List R) (i : ℕ) (d e : R) → i < length xs → get_or xs i d ≡ get_or xs i e
any_default [] i d e lt = absurd (omega arith)
any_default (x ∷ xs) zero d e lt = refl
any_default (x ∷ xs) (suc i) d e lt = any_default xs i d e (omega arith)

module _ {R K : Type 0} (cmp : K → K → Ordering) (id : R → K) where
  -- each of the first n rows but the last comes before the next
  abbrev pub Rises : ℕ → List R → Type 0
  Rises n xs = (k : ℕ) (d : R) → suc k < n → cmp (id (get_or xs k d)) (id (get_or xs (suc k) d)) ≡ Less

  before_at : (k : K) (xs : List R) (i : ℕ) (d : R) → IsBefore cmp id k xs → i < length xs → cmp k (id (get_or xs i d)) ≡ Less
  before_at k [] i d b lt = absurd (omega arith)
  before_at k (x ∷ xs) zero d b lt = b.0
  before_at k (x ∷ xs) (suc i) d b lt = before_at k xs i d b.1 (omega arith)

  pub next_after : (xs : List R) (k : ℕ) (d : R) → IsAscending cmp id xs → suc k < length xs → cmp (id (get_or xs k d)) (id (get_or xs (suc k) d)) ≡ Less
  next_after [] k d up lt = absurd (omega arith)
  next_after (x ∷ xs) zero d up lt = before_at (id x) xs zero d up.0 (omega arith)
  next_after (x ∷ xs) (suc k) d up lt = next_after xs k d up.1 (omega arith)

  at_place : (xs : List R) (k : ℕ) (x d : R) → k < length xs → x ≡ get_or xs k x → get_or xs k d ≡ x
  at_place xs k x d lt e = any_default xs k d x lt ∙ sym e

  -- two neighbours of which the first doesn't come before the second
  pub not_rising : (xs : List R) (k n : ℕ) (x y : R) → n ≡ suc k → n < length xs → x ≡ get_or xs k x → y ≡ get_or xs n y → is_lt (cmp (id x) (id y)) ≡ false → IsAscending cmp id xs → ⊥
  not_rising xs k n x y next lt here there fails up =
      let less : cmp (id (get_or xs k x)) (id (get_or xs (suc k) x)) ≡ Less = next_after xs k x up (omega arith) in
      let first : get_or xs k x ≡ x = sym here in
      let second : get_or xs (suc k) x ≡ y = rw (← next) (at_place xs n y x lt there) in
      let same : cmp (id x) (id y) ≡ Less = subst (λ (z : R). cmp (id x) (id z) ≡ Less) second (subst (λ (z : R). cmp (id z) (id (get_or xs (suc k) x)) ≡ Less) first less) in
      let is : is_lt (cmp (id x) (id y)) ≡ true = rw same refl in
      cc

  less_from : (o : Ordering) → is_lt o ≡ true → o ≡ Less
  less_from Less e = refl
  less_from Equal e = absurd cc
  less_from Greater e = absurd cc

  rises_step : (n k : ℕ) (xs : List R) (x y d : R) → Rises n xs → n < length xs → suc k < n + 1 → x ≡ get_or xs (n - 1) x → y ≡ get_or xs n y → is_lt (cmp (id x) (id y)) ≡ true
      → cmp (id (get_or xs k d)) (id (get_or xs (suc k) d)) ≡ Less
  rises_step n k xs x y d rises lt below here there less = elim (cases_lt (suc k) n) [
    | inl earlier ↦ rises k d earlier
    | inr last ↦
        let n_is : suc k ≡ n = omega arith in
        let k_is : n - 1 ≡ k = omega arith in
        let first : get_or xs k d ≡ x = at_place xs k x d (omega arith) (rw (← k_is) here) in
        let second : get_or xs (suc k) d ≡ y = at_place xs (suc k) y d (omega arith) (rw n_is there) in
        ap (λ z. cmp (id z) (id (get_or xs (suc k) d))) first ∙ ap (λ z. cmp (id x) (id z)) second ∙ less_from (cmp (id x) (id y)) less
  ]

  -- one neighbour more
  pub rises_more : (n : ℕ) (xs : List R) (x y : R) → Rises n xs → n < length xs → x ≡ get_or xs (n - 1) x → y ≡ get_or xs n y → is_lt (cmp (id x) (id y)) ≡ true → Rises (n + 1) xs
  rises_more n xs x y rises lt here there less k d below = rises_step n k xs x y d rises lt below here there less

  module _ (order : IsTotalOrder cmp) where
    further : (k y : K) (xs : List R) → cmp k y ≡ Less → IsBefore cmp id y xs → IsBefore cmp id k xs
    further k y [] e b = tt
    further k y (x ∷ xs) e b = (order.trans k y (id x) e b.0, further k y xs e b.1)

    first_before : (x : R) (xs : List R) → ((d : R) → 0 < length xs → cmp (id x) (id (get_or xs 0 d)) ≡ Less) → IsAscending cmp id xs → IsBefore cmp id (id x) xs
    first_before x [] first up = tt
    first_before x (y ∷ xs) first up = (first y (omega arith), further (id x) (id y) xs (first y (omega arith)) up.0)

    pub ascending_from : (xs : List R) → Rises (length xs) xs → IsAscending cmp id xs
    ascending_from [] rises = tt
    ascending_from (x ∷ xs) rises =
        let rest : IsAscending cmp id xs = ascending_from xs (λ k d lt. rises (suc k) d (omega arith)) in
        (first_before x xs (λ d lt. rises 0 d (omega arith)) rest, rest)

    before_later : (k : K) (xs rest : List R) (r : R) → IsBefore cmp id k (xs ++ r ∷ rest) → cmp k (id r) ≡ Less
    before_later k [] rest r b = b.0
    before_later k (x ∷ xs) rest r b = before_later k xs rest r b.1

    behind : (x r : R) → cmp (id x) (id r) ≡ Less → cmp (id r) (id x) ≡ Greater
    behind x r less = order.antisymm (id r) (id x) ∙ ap ordering_reverse less

    -- a row that comes after all others is put after them, and none of them has its id
    put_next : (xs rest : List R) (r : R) → IsAscending cmp id (xs ++ r ∷ rest) → put cmp id r xs ≡ xs ++ r ∷ []
    put_next [] rest r up = refl
    put_next (x ∷ xs) rest r up = rw (behind x r (before_later (id x) xs rest r up.0)) (ap (λ (ys : List R). x ∷ ys) (put_next xs rest r up.1))

    absent_next : (xs rest : List R) (r : R) → IsAscending cmp id (xs ++ r ∷ rest) → row_of cmp id (id r) xs ≡ None
    absent_next [] rest r up = refl
    absent_next (x ∷ xs) rest r up = rw (behind x r (before_later (id x) xs rest r up.0)) (absent_next xs rest r up.1)

    cut : (all xs left rest : List R) (r : R) → IsAscending cmp id all → xs ++ left ≡ all → left ≡ r ∷ rest → IsAscending cmp id (xs ++ r ∷ rest)
    cut all xs left rest r up parts is = subst (IsAscending cmp id) (sym parts ∙ ap (λ (l : List R). xs ++ l) is) up

    -- the next of rows that ascend
    pub next_put : (all xs left rest : List R) (r : R) → IsAscending cmp id all → xs ++ left ≡ all → left ≡ r ∷ rest → put cmp id r xs ≡ xs ++ r ∷ []
    next_put all xs left rest r up parts is = put_next xs rest r (cut all xs left rest r up parts is)

    pub next_absent : (all xs left rest : List R) (r : R) → IsAscending cmp id all → xs ++ left ≡ all → left ≡ r ∷ rest → row_of cmp id (id r) xs ≡ None
    next_absent all xs left rest r up parts is = absent_next xs rest r (cut all xs left rest r up parts is)
