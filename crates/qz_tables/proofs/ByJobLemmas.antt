-- Rows that stand side by side by their jobs.
use Rattle.std.proofs.Common.{◌≡◌, ℕ, zero, suc, ◌<◌, ◌≤◌, List, [], ◌∷◌, length, map, get_or, Bool, true, false, not, if◌then◌else◌, Option, Some, None, refl, sym, ap, subst, ◌∙◌, arith, inl, inr}
use Rattle.std.specs.Prelude.{IsSome, IfSome, is_some}
use Rattle.std.specs.List.{AllByRecursion, insert, remove, slice_get}
use Rattle.std.specs.Ordering.{is_eq, is_lt, is_gt, ordering_reverse}
use Rattle.std.specs.declared.cmp.Ordering.{Ordering}
use Rattle.std.specs.declared.cmp.Ordering.TheVariants.{Less, Equal, Greater}
use Rattle.std.proofs.lemmas.Bool.{cases_lt}
use Rattle.std.proofs.lemmas.Cmp.{upto, tied_itself}
use Rattle.qz_types.specs.Words.{key_cmp}
use Rattle.qz_types.specs.declared.keys.Key.{Key}
use Rattle.qz_tables.specs.ByJob.{is_below, AreByJob, IsBoundOf, IsRangeOf}
use Rattle.qz_tables.specs.Once.{times, AreOnce}
use Rattle.qz_tables.specs.Slots.{rows_at, AreFilled}
use Rattle.qz_tables.specs.declared.by_job.Bound.{Bound}
use Rattle.qz_tables.specs.declared.by_job.Bound.TheVariants.{Lower, Upper}
use Rattle.qz_tables.proofs.Filled.{length-rows, filled_at, nth_row}
use Rattle.qz_tables.proofs.Keys.{key_total}
use Rattle.qz_tables.proofs.OnceLemmas.{place_of_slot}

-- what stands before one that is below a bound is below it too
pub below-down : (bound : Bound) (a b k : Key) → is_gt (key_cmp a b) ≡ false → is_below bound (key_cmp b k) ≡ true → is_below bound (key_cmp a k) ≡ true
below-down Lower a b k h e = by_order (key_cmp a b) refl h
  where
    is_less : (o : Ordering) → is_lt o ≡ true → o ≡ Less
    is_less Less e = refl
    is_less Equal e = absurd (cc)
    is_less Greater e = absurd (cc)

    by_order : (o : Ordering) → key_cmp a b ≡ o → is_gt o ≡ false → is_lt (key_cmp a k) ≡ true
    by_order Less p q = ap is_lt (key_total.trans a b k p (is_less (key_cmp b k) e))
    by_order Equal p q = ap is_lt (key_total.congr a b k p) ∙ e
    by_order Greater p q = absurd (cc)
below-down Upper a b k h e = ap not (upto key_total a b k h (not_true (is_gt (key_cmp b k)) e))
  where
    not_true : (b : Bool) → not b ≡ true → b ≡ false
    not_true true e = absurd (cc)
    not_true false e = refl

lower_less : (o : Ordering) → is_below Lower o ≡ true → o ≡ Less
lower_less Less e = refl
lower_less Equal e = absurd (cc)
lower_less Greater e = absurd (cc)

upper_greater : (o : Ordering) → is_below Upper o ≡ false → o ≡ Greater
upper_greater Less e = absurd (cc)
upper_greater Equal e = absurd (cc)
upper_greater Greater e = refl

between : (o : Ordering) → is_below Lower o ≡ false → is_below Upper o ≡ true → o ≡ Equal
between Less e f = absurd (cc)
between Equal e f = refl
between Greater e f = absurd (cc)

less_greater : (o : Ordering) → o ≡ Less → o ≡ Greater → ⊥
less_greater o e f = cc

less_equal : (o : Ordering) → o ≡ Less → o ≡ Equal → ⊥
less_equal o e f = cc

greater_equal : (o : Ordering) → o ≡ Greater → o ≡ Equal → ⊥
greater_equal o e f = cc

true_false : (b : Bool) → b ≡ true → b ≡ false → ⊥
true_false b e f = cc

module _ {R : Type 0} (job : R → Key) where
  some_same : (x y : R) → Some x ≡ Some y → x ≡ y
  some_same x y e = cc

  nth-all : (P : R → Type 0) (xs : List R) (i : ℕ) (x : R) → AllByRecursion P xs → slice_get xs i ≡ Some x → P x
  nth-all P [] i x a e = absurd (cc)
  nth-all P (y ∷ ys) zero x a e = subst P (some_same y x e) a.0
  nth-all P (y ∷ ys) (suc i) x a e = nth-all P ys i x a.1 e

  there : (xs : List R) (n : ℕ) → n < length xs → (r : R) × (slice_get xs n ≡ Some r)
  there [] n lt = absurd (omega arith)
  there (x ∷ xs) zero lt = (x, refl)
  there (x ∷ xs) (suc n) lt = there xs n (omega arith)

  -- a row isn't of a later job than one after it
  pub pair : (rows : List R) (i j : ℕ) (r q : R) → AreByJob job rows → i ≤ j → slice_get rows i ≡ Some r → slice_get rows j ≡ Some q → is_gt (key_cmp (job r) (job q)) ≡ false
  pair [] i j r q s le e h = absurd (cc)
  pair (x ∷ xs) zero zero r q s le e h =
      let same : r ≡ q = some_same r q (sym e ∙ h) in
      subst (λ (y : R). is_gt (key_cmp (job r) (job y)) ≡ false) same (ap is_gt (tied_itself key_total (job r)))
  pair (x ∷ xs) zero (suc j) r q s le e h =
      let same : x ≡ r = some_same x r e in
      subst (λ (y : R). is_gt (key_cmp (job y) (job q)) ≡ false) same (nth-all (λ z. is_gt (key_cmp (job x) (job z)) ≡ false) xs j q s.0 h)
  pair (x ∷ xs) (suc i) zero r q s le e h = absurd (omega arith)
  pair (x ∷ xs) (suc i) (suc j) r q s le e h = pair xs i j r q s.1 (omega arith) e h

  -- ---- a step of the search for a bound

  -- the bound is at place low or after it, and not after place high
  pub record IsSearched (bound : Bound) (k : Key) (rows : List R) (low high : ℕ) : Type 0 where
    pub ordered : low ≤ high
    pub within : high ≤ length rows
    pub before : (i : ℕ) (r : R) → i < low → slice_get rows i ≡ Some r → is_below bound (key_cmp (job r) k) ≡ true
    pub after : (i : ℕ) (r : R) → high ≤ i → slice_get rows i ≡ Some r → is_below bound (key_cmp (job r) k) ≡ false

  beyond : (xs : List R) (i : ℕ) (x : R) → slice_get xs i ≡ Some x → i < length xs
  beyond [] i x e = absurd (cc)
  beyond (y ∷ ys) zero x e = omega arith
  beyond (y ∷ ys) (suc i) x e = let l = beyond ys i x e in omega arith

  pub search-begins : (bound : Bound) (k : Key) (slots : List (Option R)) (order : List ℕ) → AreFilled slots order → IsSearched bound k (rows_at slots order) 0 (length order)
  search-begins bound k slots order filled = record {
    ordered = omega arith;
    within = omega (arith, length-rows slots order filled);
    before = λ i r lt e. absurd (omega arith);
    after = λ i r le e. absurd (omega (arith, length-rows slots order filled, beyond (rows_at slots order) i r e));
  }

  pub search-ends : (bound : Bound) (k : Key) (rows : List R) (low high : ℕ) → IsSearched bound k rows low high → high ≤ low → IsBoundOf job bound k rows low
  search-ends bound k rows low high s le = record {
    within = (let a = s.ordered in let b = s.within in omega arith);
    before = s.before;
    after = λ i r l e. s.after i r (let a = s.ordered in omega arith) e;
  }

  known : (o : Option R) (t : R → Bool) (b : Bool) → IsSome o → IfSome o (λ r. b ≡ t r) → (r : R) × (o ≡ Some r) × (t r ≡ b)
  known None t b s h = absurd cc
  known (Some r) t b s h = (r, refl, sym h)

  module _ (bound : Bound) (k : Key) (slots : List (Option R)) (order : List ℕ) (m : ℕ) (filled : AreFilled slots order) (sorted : AreByJob job (rows_at slots order)) (lt : m < length order) where
    pub all-below : IfSome (get_or slots (get_or order m 0) None) (λ r. true ≡ is_below bound (key_cmp (job r) k)) → (i : ℕ) (r : R) → i < suc m → slice_get (rows_at slots order) i ≡ Some r → is_below bound (key_cmp (job r) k) ≡ true
    all-below h i r below e =
        let t = known (get_or slots (get_or order m 0) None) (λ q. is_below bound (key_cmp (job q) k)) true (filled_at slots order m filled lt) h in
        below-down bound (job r) (job t.0) k (pair (rows_at slots order) i m r t.0 sorted (omega arith) e (nth_row slots order m (get_or order m 0) filled lt refl ∙ t.1)) t.2

    pub none-below : IfSome (get_or slots (get_or order m 0) None) (λ r. false ≡ is_below bound (key_cmp (job r) k)) → (i : ℕ) (r : R) → m ≤ i → slice_get (rows_at slots order) i ≡ Some r → is_below bound (key_cmp (job r) k) ≡ false
    none-below h i r above e =
        let t = known (get_or slots (get_or order m 0) None) (λ q. is_below bound (key_cmp (job q) k)) false (filled_at slots order m filled lt) h in
        let p = pair (rows_at slots order) m i t.0 r sorted above (nth_row slots order m (get_or order m 0) filled lt refl ∙ t.1) e in
        elim (is_below bound (key_cmp (job r) k)) as (λ b. is_below bound (key_cmp (job r) k) ≡ b → b ≡ false) [
          | true ↦ λ f. absurd (true_false (is_below bound (key_cmp (job t.0) k)) (below-down bound (job t.0) (job r) k p f) t.2)
          | false ↦ λ f. refl
        ] refl

    pub search-up : (low high : ℕ) → m < high → IsSearched bound k (rows_at slots order) low high → IfSome (get_or slots (get_or order m 0) None) (λ r. true ≡ is_below bound (key_cmp (job r) k)) → IsSearched bound k (rows_at slots order) (suc m) high
    search-up low high up s h = record { ordered = omega arith; within = s.within; before = all-below h; after = s.after }

    pub search-down : (low high : ℕ) → low ≤ m → IsSearched bound k (rows_at slots order) low high → IfSome (get_or slots (get_or order m 0) None) (λ r. false ≡ is_below bound (key_cmp (job r) k)) → IsSearched bound k (rows_at slots order) low m
    search-down low high le s h = record { ordered = le; within = omega (arith, length-rows slots order filled); before = s.before; after = none-below h }

  -- ---- the range of a job

  pub range-from : (k : Key) (rows : List R) (low high : ℕ) → IsBoundOf job Lower k rows low → IsBoundOf job Upper k rows high → IsRangeOf job k rows low high
  range-from k rows low high l h = record {
    ordered = elim (cases_lt high low) [
      | inl below ↦ (
          let t = there rows high (let w = l.within in omega arith) in
          absurd (less_greater (key_cmp (job t.0) k) (lower_less _ (l.before high t.0 below t.1)) (upper_greater _ (h.after high t.0 (omega arith) t.1)))
          )
      | inr above ↦ omega (arith, above)
    ];
    within = h.within;
    before = λ i r lt e. lower_less _ (l.before i r lt e);
    here = λ i r le lt e. between _ (l.after i r le e) (h.before i r lt e);
    after = λ i r le e. upper_greater _ (h.after i r le e);
  }

  -- the place of a slot is in the range of its row's job
  pub in-range : (slots : List (Option R)) (order : List ℕ) (slot : ℕ) (row : R) (low high : ℕ) → AreFilled slots order → AreOnce slots order → get_or slots slot None ≡ Some row
      → IsRangeOf job (job row) (rows_at slots order) low high → (i : ℕ) × (low ≤ i) × (i < high) × (get_or order i 0 ≡ slot)
  in-range slots order slot row low high filled once is range =
      let one : times slot order ≡ 1 = one_from (get_or slots slot None) row (times slot order) (once.once slot) is in
      let at = place_of_slot slot order (omega arith) in
      let e : slice_get (rows_at slots order) at.0 ≡ Some row = nth_row slots order at.0 slot filled at.1 (sym at.2) ∙ is in
      let itself : key_cmp (job row) (job row) ≡ Equal = tied_itself key_total (job row) in (
        at.0,
        elim (cases_lt at.0 low) [
          | inl below ↦ absurd (less_equal _ (range.before at.0 row below e) itself)
          | inr above ↦ omega (arith, above)
        ],
        elim (cases_lt at.0 high) [
          | inl below ↦ below
          | inr above ↦ absurd (greater_equal _ (range.after at.0 row (omega (arith, above)) e) itself)
        ],
        at.2,
      )
    where
      one_from : (o : Option R) (r : R) (n : ℕ) → n ≡ (if is_some o then 1 else 0) → o ≡ Some r → n ≡ 1
      one_from o r n e f = rw f at e

  -- ---- insertion and removal

  all-from : (P : R → Type 0) (xs : List R) → ((i : ℕ) (x : R) → slice_get xs i ≡ Some x → P x) → AllByRecursion P xs
  all-from P [] h = tt
  all-from P (x ∷ xs) h = (h 0 x refl, all-from P xs (λ i y e. h (suc i) y e))

  all-insert : (P : R → Type 0) (xs : List R) (n : ℕ) (r : R) → n ≤ length xs → AllByRecursion P xs → P r → AllByRecursion P (insert xs n r)
  all-insert P xs zero r le a p = (p, a)
  all-insert P [] (suc n) r le a p = absurd (omega arith)
  all-insert P (x ∷ xs) (suc n) r le a p = (a.0, all-insert P xs n r (omega arith) a.1 p)

  all-remove : (P : R → Type 0) (xs : List R) (n : ℕ) → AllByRecursion P xs → AllByRecursion P (remove xs n)
  all-remove P [] zero a = a
  all-remove P [] (suc n) a = a
  all-remove P (x ∷ xs) zero a = a.1
  all-remove P (x ∷ xs) (suc n) a = (a.0, all-remove P xs n a.1)

  pub by_job-insert : (rows : List R) (n : ℕ) (r : R) → n ≤ length rows → AreByJob job rows
      → ((i : ℕ) (q : R) → i < n → slice_get rows i ≡ Some q → is_gt (key_cmp (job q) (job r)) ≡ false)
      → ((i : ℕ) (q : R) → n ≤ i → slice_get rows i ≡ Some q → is_gt (key_cmp (job r) (job q)) ≡ false)
      → AreByJob job (insert rows n r)
  by_job-insert rows zero r le s before after = (all-from _ rows (λ i q e. after i q (omega arith) e), s)
  by_job-insert [] (suc n) r le s before after = absurd (omega arith)
  by_job-insert (x ∷ xs) (suc n) r le s before after =
      (all-insert _ xs n r (omega arith) s.0 (before 0 x (omega arith) refl), by_job-insert xs n r (omega arith) s.1 (λ i q lt e. before (suc i) q (omega arith) e) (λ i q l e. after (suc i) q (omega arith) e))

  pub by_job-remove : (rows : List R) (n : ℕ) → AreByJob job rows → AreByJob job (remove rows n)
  by_job-remove [] zero s = s
  by_job-remove [] (suc n) s = s
  by_job-remove (x ∷ xs) zero s = s.1
  by_job-remove (x ∷ xs) (suc n) s = (all-remove _ xs n s.0, by_job-remove xs n s.1)

  -- a row that is put at the upper bound of its job
  not_gt : (o : Ordering) → is_below Upper o ≡ true → is_gt o ≡ false
  not_gt Less e = refl
  not_gt Equal e = refl
  not_gt Greater e = absurd (cc)

  turned : (a b : Key) → key_cmp a b ≡ Greater → is_gt (key_cmp b a) ≡ false
  turned a b e = by_order (key_cmp b a) (sym e ∙ key_total.antisymm a b)
    where
      by_order : (o : Ordering) → Greater ≡ ordering_reverse o → is_gt o ≡ false
      by_order Less f = refl
      by_order Equal f = refl
      by_order Greater f = absurd (cc)

  pub by_job-last : (rows : List R) (n : ℕ) (r : R) → AreByJob job rows → IsBoundOf job Upper (job r) rows n → AreByJob job (insert rows n r)
  by_job-last rows n r s b = by_job-insert rows n r b.within s (λ i q lt e. not_gt _ (b.before i q lt e)) (λ i q le e. turned (job q) (job r) (upper_greater _ (b.after i q le e)))

  -- what comes after the upper bound of a job is of another one
  pub after-upper : (k : Key) (rows : List R) (n : ℕ) → IsBoundOf job Upper k rows n → (i : ℕ) (q : R) → n ≤ i → slice_get rows i ≡ Some q → is_eq (key_cmp k (job q)) ≡ false
  after-upper k rows n b i q le e = by_order (key_cmp k (job q)) (sym (upper_greater _ (b.after i q le e)) ∙ key_total.antisymm (job q) k)
    where
      by_order : (o : Ordering) → Greater ≡ ordering_reverse o → is_eq o ≡ false
      by_order Less f = refl
      by_order Equal f = absurd (cc)
      by_order Greater f = refl

  -- rows of the same jobs
  first_same : (x y : Key) (xs ys : List Key) → x ∷ xs ≡ y ∷ ys → x ≡ y
  first_same x y xs ys e = cc

  rest_same : (x y : Key) (xs ys : List Key) → x ∷ xs ≡ y ∷ ys → xs ≡ ys
  rest_same x y xs ys e = cc

  all-jobs : (P : Key → Type 0) (xs ys : List R) → map job ys ≡ map job xs → AllByRecursion (λ q. P (job q)) xs → AllByRecursion (λ q. P (job q)) ys
  all-jobs P xs [] e a = tt
  all-jobs P [] (y ∷ ys) e a = absurd (cc)
  all-jobs P (x ∷ xs) (y ∷ ys) e a = (subst P (sym (first_same _ _ _ _ e)) a.0, all-jobs P xs ys (rest_same _ _ _ _ e) a.1)

  pub by_jobs : (xs ys : List R) → map job ys ≡ map job xs → AreByJob job xs → AreByJob job ys
  by_jobs xs [] e s = tt
  by_jobs [] (y ∷ ys) e s = absurd (cc)
  by_jobs (x ∷ xs) (y ∷ ys) e s = (
    subst (λ (k : Key). AllByRecursion (λ q. is_gt (key_cmp k (job q)) ≡ false) ys) (sym (first_same _ _ _ _ e)) (all-jobs (λ k. is_gt (key_cmp (job x) k) ≡ false) xs ys (rest_same _ _ _ _ e) s.0),
    by_jobs xs ys (rest_same _ _ _ _ e) s.1,
  )
