-- Places below a place of a heap, and the first pair that passes a test.
use Rattle.std.proofs.Common.{◌≡◌, ◌≢◌, ℕ, zero, suc, ◌+◌, ◌-◌, ◌*◌, ◌/◌, ◌<◌, ◌≤◌, ◌⊎◌, Bool, true, false, List, [], ◌∷◌, length, get_or, filter, refl, sym, subst, inl, inr, ⊎_elim, Option, Some, None, arith}
use Rattle.std.specs.Prelude.{IfSome, IsSomeAnd, slice_get}
use Rattle.std.specs.List.{Contains}
use Rattle.std.proofs.lemmas.Bool.{cases_eq}
use Rattle.qz_queue.specs.Lists.{Every, EachLater}
use Rattle.qz_queue.specs.Order.{IsStrictOrder, in_order}
use Rattle.qz_queue.specs.Heap.{IsHeap, IsOver}
use Rattle.qz_queue.specs.Queue.{IsIndexed}
use Rattle.qz_queue.specs.Walk.{above, IsUnder, IsPassing}
use Rattle.qz_queue.proofs.Lists.{every_at, every_from, is_in, same_default}
use Rattle.qz_queue.proofs.Heaps.{itself, weak_at, over_as}
use Rattle.qz_queue.proofs.Sorts.{every_sorted, sorted_every}
use Rattle.qz_queue.proofs.Seen.{Ascends, ascends_in, apart_in}

above_by : (s k : ℕ) → above s k ≤ k - s
above_by zero k = omega arith
above_by (suc s) k = let h = above_by s k in omega arith

pub above_le : (s k : ℕ) → above s k ≤ k
above_le s k = let h = above_by s k in omega arith

pub all_under : (k : ℕ) → IsUnder 0 k
all_under k = let h = above_by k k in (k, omega arith)

-- what is below a place is this place, or below one of the two right below it
pub under_split : (top k : ℕ) → IsUnder top k → (k ≡ top) ⊎ IsUnder (2 * top + 1) k ⊎ IsUnder (2 * top + 2) k
under_split top k u = by_steps u.0 u.1
  where
    by_steps : (s : ℕ) → above s k ≡ top → (k ≡ top) ⊎ IsUnder (2 * top + 1) k ⊎ IsUnder (2 * top + 2) k
    by_steps zero e = inl e
    by_steps (suc s) e = ⊎_elim
        (λ (z : above s k ≡ 0). by_steps s (omega arith))
        (λ (n : above s k ≢ 0). ⊎_elim
        (λ (l : above s k ≡ 2 * top + 1). inr (inl (s, l)))
        (λ (m : above s k ≢ 2 * top + 1). inr (inr (s, omega arith)))
        (cases_eq (above s k) (2 * top + 1)))
        (cases_eq (above s k) 0)

pub under_within : (top k n : ℕ) → IsUnder top k → n ≤ top → k < n → ⊥
under_within top k n u le lt = let h = above_le u.0 k in let e = u.1 in omega arith

module _ {K : Type 0} (before : K → K → Bool) (o : IsStrictOrder before) where
  pub over_above : (xs : List (K × ℕ)) (k s : ℕ) (d : K × ℕ) → IsHeap before xs → k < length xs → before (get_or xs k d).0 (get_or xs (above s k) d).0 ≡ false
  unfolding IsHeap
  over_above xs k zero d h p = itself before o (get_or xs k d).0
  over_above xs k (suc s) d h p =
      let here = over_above xs k s d h p in
      ⊎_elim
      (λ (z : above s k ≡ 0). over_as before o xs k (above s k) ((above s k - 1) / 2) d (omega arith) here)
      (λ (n : above s k ≢ 0). let le = above_le s k in weak_at before o xs ((above s k - 1) / 2) (above s k) k d (h (above s k) (omega arith) (omega arith) d) here)
      (cases_eq (above s k) 0)

  pub over_under : (xs : List (K × ℕ)) (top k : ℕ) → IsHeap before xs → k < length xs → IsUnder top k → IsOver before xs top k
  over_under xs top k h p u = λ d. over_as before o xs k (above u.0 k) top d u.1 (over_above xs k u.0 d h p)

  pub over_itself : (xs : List (K × ℕ)) (k : ℕ) → IsOver before xs k k
  over_itself xs k = λ d. itself before o (get_or xs k d).0

  pub over_chain : (xs : List (K × ℕ)) (i j k : ℕ) → IsOver before xs i j → IsOver before xs j k → IsOver before xs i k
  over_chain xs i j k g h = λ d. weak_at before o xs i j k d (g d) (h d)

  pub over_turned : (xs : List (K × ℕ)) (i j : ℕ) → ((d : K × ℕ) → before (get_or xs i d).0 (get_or xs j d).0 ≡ true) → IsOver before xs i j
  over_turned xs i j h = λ d. o.one_way _ _ (h d)

  pub some_chain : (xs : List (K × ℕ)) (found result : Option ℕ) (k : ℕ) → IsSomeAnd found (λ j. IsOver before xs j k) → IfSome found (λ j. IsSomeAnd result (λ i. IsOver before xs i j)) → IsSomeAnd result (λ i. IsOver before xs i k)
  some_chain xs None result k f g = absurd f
  some_chain xs (Some j) None k f g = absurd g
  some_chain xs (Some j) (Some i) k f g = over_chain xs i j k g f

  pub some_itself : (xs : List (K × ℕ)) (found : Option ℕ) → IfSome found (λ j. IsSomeAnd found (λ i. IsOver before xs i j))
  some_itself xs None = tt
  some_itself xs (Some j) = over_itself xs j

  pub not_passing : (P : K × ℕ → Bool) (xs : List (K × ℕ)) (k : ℕ) → ((d : K × ℕ) → P (get_or xs k d) ≡ false) → IsPassing P xs k → ⊥
  not_passing P [] k f l = let w = l.within in omega arith
  not_passing P (x ∷ xs) k f l = let a = l.passes x in let b = f x in cc

  pub passing_found : (P : K × ℕ → Bool) (xs : List (K × ℕ)) (place result : ℕ) (found : Option ℕ) → IsPassing P xs place → IfSome found (IsPassing P xs) → (result ≡ place) ⊎ (found ≡ Some result) → IsPassing P xs result
  passing_found P xs place result found l f one = ⊎_elim
      (λ (e : result ≡ place). subst (IsPassing P xs) (sym e) l)
      (λ (e : found ≡ Some result). subst (λ (z : Option ℕ). IfSome z (IsPassing P xs)) e f)
      one

  -- the first that passes
  first_filtered : (P : K × ℕ → Bool) (x : K × ℕ) (ys : List (K × ℕ)) (k : ℕ) → EachLater (Ascends before o) ys → k < length ys → get_or ys k x ≡ x → P x ≡ true → Every (λ y. P y ≡ true → before y.0 x.0 ≡ false) ys → slice_get (filter P ys) 0 ≡ Some x
  first_filtered P x [] k up p e q all = absurd (omega arith)
  first_filtered P x (y ∷ ys) zero up p e q all = rw (e, q) refl
  first_filtered P x (y ∷ ys) (suc k) up p e q all = by_test (P y) refl (first_filtered P x ys k up.1 (omega arith) e q all.1)
    where
      by_test : (r : Bool) → P y ≡ r → slice_get (filter P ys) 0 ≡ Some x → slice_get (filter P (y ∷ ys)) 0 ≡ Some x
      by_test true t rest =
          let over = all.0 t in
          let less : before y.0 x.0 ≡ true = subst (λ (z : K × ℕ). before y.0 z.0 ≡ true) e (every_at (Ascends before o y) ys k x up.0 (omega arith)) in
          absurd (cc)
      by_test false t rest = rw t rest

  none_filtered : (P : K × ℕ → Bool) (ys : List (K × ℕ)) → Every (λ y. P y ≡ false) ys → slice_get (filter P ys) 0 ≡ None
  none_filtered P [] all = refl
  none_filtered P (y ∷ ys) all = rw all.0 (none_filtered P ys all.1)

  in_sorted : (xs : List (K × ℕ)) (k : ℕ) (d : K × ℕ) → k < length xs → Contains (in_order before xs) (get_or xs k d)
  in_sorted xs k d p = every_at (Contains (in_order before xs)) xs k d (sorted_every before o (Contains (in_order before xs)) xs (every_from (Contains (in_order before xs)) (in_order before xs) (λ j e q. is_in (in_order before xs) j e q))) p

  pub passing_first : (P : K × ℕ → Bool) (xs : List (K × ℕ)) (ps : List ℕ) (place : ℕ) (d : K × ℕ) → IsIndexed before xs ps → IsPassing P xs place → ((other : ℕ) → IsPassing P xs other → IsOver before xs place other) → slice_get (filter P (in_order before xs)) 0 ≡ Some (get_or xs place d)
  passing_first P xs ps place d h l all =
      let x = get_or xs place d in
      let here = in_sorted xs place d l.within in
      first_filtered P x (in_order before xs) here.0 (ascends_in before o xs (apart_in before o xs ps h)) here.1 here.2 (l.passes d)
      (every_sorted before o (λ y. P y ≡ true → before y.0 x.0 ≡ false) xs
      (every_from (λ y. P y ≡ true → before y.0 x.0 ≡ false) xs (λ k e p t.
      let same : (f : K × ℕ) → get_or xs k f ≡ get_or xs k e = λ f. same_default xs k f e p in
      let l2 : IsPassing P xs k = record { within = p; passes = λ f. subst (λ (z : K × ℕ). P z ≡ true) (sym (same f)) t } in
      subst (λ (z : K × ℕ). before z.0 x.0 ≡ false) (same d) (all k l2 d))))

  pub passing_none : (P : K × ℕ → Bool) (xs : List (K × ℕ)) → ((other : ℕ) → IsPassing P xs other → ⊥) → slice_get (filter P (in_order before xs)) 0 ≡ None
  passing_none P xs all = none_filtered P (in_order before xs)
      (every_sorted before o (λ y. P y ≡ false) xs (every_from (λ y. P y ≡ false) xs (λ k e p. by_test k e p (P (get_or xs k e)) refl)))
    where
      by_test : (k : ℕ) (e : K × ℕ) → k < length xs → (r : Bool) → P (get_or xs k e) ≡ r → P (get_or xs k e) ≡ false
      by_test k e p true t = absurd (all k (record { within = p; passes = λ f. subst (λ (z : K × ℕ). P z ≡ true) (same_default xs k e f p) t }))
      by_test k e p false t = t
