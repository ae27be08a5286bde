-- The ascending list of the pairs of a heap.
use Rattle.std.proofs.Common.{◌≡◌, ◌≢◌, ℕ, zero, suc, ◌<◌, Bool, true, false, List, [], ◌∷◌, ◌++◌, length, get_or, set, refl, sym, ap, subst, ◌∙◌, ⊎_elim, Some, None, arith, if◌then◌else◌, ◌==◌}
use Rattle.std.proofs.lemmas.Bool.{cases_eq}
use Rattle.std.proofs.lemmas.List.{set-get_or, set-set}
use Rattle.std.proofs.lemmas.List.Elements.{Contains-append_cases}
use Rattle.std.proofs.lemmas.Bool.Decides.{nat_tests}
use Rattle.std.proofs.lemmas.List.Sorted.{IsPermutation-keeps, IsPermutation-sym, IsPermutation-swap, Contains-permutation}
use Rattle.std.specs.List.{swap, Contains}
use Rattle.std.specs.List.Sorted.{IsPermutation}
use Rattle.qz_queue.specs.Order.{IsStrictOrder, put_pair, in_order, key_of, without_slot}
use Rattle.qz_queue.specs.Lists.{Every}
use Rattle.qz_queue.proofs.Lists.{lt_or, every_from, every_in, is_in}
use Rattle.qz_queue.specs.Heap.{AreKeysApart}

pub apart_kept : {K : Type 0} (xs ys : List (K × ℕ)) → IsPermutation xs ys → AreKeysApart xs → AreKeysApart ys
unfolding AreKeysApart
apart_kept xs ys m h = λ a b p q. h a b (Contains-permutation ys xs a (IsPermutation-sym xs ys m) p) (Contains-permutation ys xs b (IsPermutation-sym xs ys m) q)

module _ {K : Type 0} (before : K → K → Bool) (o : IsStrictOrder before) where
  -- pairs of one key are one
  abbrev Tied : K × ℕ → K × ℕ → Type 0
  Tied a b = a.0 ≡ b.0 → a ≡ b

  put_lower : (x y : K × ℕ) (ys : List (K × ℕ)) → before y.0 x.0 ≡ true → put_pair before x (y ∷ ys) ≡ y ∷ put_pair before x ys
  put_lower x y ys h = rw h refl

  put_upper : (x y : K × ℕ) (ys : List (K × ℕ)) → before y.0 x.0 ≡ false → put_pair before x (y ∷ ys) ≡ x ∷ y ∷ ys
  put_upper x y ys h = rw h refl

  step : (a b y : K × ℕ) (ys : List (K × ℕ)) → before a.0 b.0 ≡ true → before b.0 a.0 ≡ false → put_pair before a (put_pair before b ys) ≡ put_pair before b (put_pair before a ys) → (r s : Bool) → before y.0 a.0 ≡ r → before y.0 b.0 ≡ s → put_pair before a (put_pair before b (y ∷ ys)) ≡ put_pair before b (put_pair before a (y ∷ ys))
  step a b y ys h h' ih true true e f = simp (e, f) (ap (λ (l : List (K × ℕ)). y ∷ l) ih)
  step a b y ys h h' ih true false e f = let c = o.chain y.0 a.0 b.0 e h in cc
  step a b y ys h h' ih false true e f = simp (e, f, h)
  step a b y ys h h' ih false false e f = simp (e, f, h, h')

  put_put_lt : (a b : K × ℕ) (ys : List (K × ℕ)) → before a.0 b.0 ≡ true → before b.0 a.0 ≡ false → put_pair before a (put_pair before b ys) ≡ put_pair before b (put_pair before a ys)
  put_put_lt a b [] h h' = simp (h, h')
  put_put_lt a b (y ∷ ys) h h' = step a b y ys h h' (put_put_lt a b ys h h') (before y.0 a.0) (before y.0 b.0) refl refl

  -- pairs go in in any order
  put_put : (a b : K × ℕ) (ys : List (K × ℕ)) → Tied a b → put_pair before a (put_pair before b ys) ≡ put_pair before b (put_pair before a ys)
  put_put a b ys t = by_tests (before a.0 b.0) (before b.0 a.0) refl refl
    where
      by_tests : (r s : Bool) → before a.0 b.0 ≡ r → before b.0 a.0 ≡ s → put_pair before a (put_pair before b ys) ≡ put_pair before b (put_pair before a ys)
      by_tests true s e f = put_put_lt a b ys e (o.one_way a.0 b.0 e)
      by_tests false true e f = sym (put_put_lt b a ys f e)
      by_tests false false e f = let same : a ≡ b = t (o.total a.0 b.0 e f) in cc

  abbrev AllTied : List (K × ℕ) → Type 0
  AllTied l = (j k : ℕ) (d : K × ℕ) → j < length l → k < length l → Tied (get_or l j d) (get_or l k d)

  put_set : (l : List (K × ℕ)) (i : ℕ) (x d : K × ℕ) → i < length l → ((k : ℕ) → k < length l → Tied x (get_or l k d)) → AllTied l → put_pair before (get_or l i d) (in_order before (set l i x)) ≡ put_pair before x (in_order before l)
  put_set [] i x d h t u = absurd (omega arith)
  put_set (z ∷ zs) zero x d h t u = put_put z x (in_order before zs) (λ e. sym (t 0 (omega arith) (sym e)))
  put_set (z ∷ zs) (suc i) x d h t u =
      put_put (get_or zs i d) z (in_order before (set zs i x)) (u (suc i) 0 d (omega arith) (omega arith))
      ∙ ap (put_pair before z) (put_set zs i x d (omega arith) (λ k p. t (suc k) (omega arith)) (λ j k e p q. u (suc j) (suc k) e (omega arith) (omega arith)))
      ∙ put_put z x (in_order before zs) (λ e. sym (t 0 (omega arith) (sym e)))

  sorted_two : (l : List (K × ℕ)) (i j : ℕ) (d : K × ℕ) → i < j → j < length l → AllTied l → in_order before (set (set l i (get_or l j d)) j (get_or l i d)) ≡ in_order before l
  sorted_two [] i j d h p t = absurd (omega arith)
  sorted_two (z ∷ zs) i zero d h p t = absurd (omega arith)
  sorted_two (z ∷ zs) zero (suc j) d h p t = put_set zs j z d (omega arith) (λ k q. t 0 (suc k) d (omega arith) (omega arith)) (λ a b e q r. t (suc a) (suc b) e (omega arith) (omega arith))
  sorted_two (z ∷ zs) (suc i) (suc j) d h p t = ap (put_pair before z) (sorted_two zs i j d (omega arith) (omega arith) (λ a b e q r. t (suc a) (suc b) e (omega arith) (omega arith)))

  set_set : (l : List (K × ℕ)) (i j : ℕ) (a b : K × ℕ) → i ≢ j → set (set l i a) j b ≡ set (set l j b) i a
  set_set [] i j a b n = refl
  set_set (z ∷ zs) zero zero a b n = absurd (n refl)
  set_set (z ∷ zs) zero (suc j) a b n = refl
  set_set (z ∷ zs) (suc i) zero a b n = refl
  set_set (z ∷ zs) (suc i) (suc j) a b n = ap (λ (l : List (K × ℕ)). z ∷ l) (set_set zs i j a b (λ e. n (ap suc e)))

  tied_from : (l : List (K × ℕ)) → AreKeysApart l → AllTied l
  unfolding AreKeysApart
  tied_from l h = λ j k d p q. h _ _ (is_in l j d p) (is_in l k d q)

  sorted_swap : (l : List (K × ℕ)) (i j : ℕ) → i < length l → j < length l → AreKeysApart l → in_order before (swap l i j) ≡ in_order before l
  sorted_swap [] i j p q h = refl
  sorted_swap (z ∷ zs) i j p q h =
      let l = z ∷ zs in
      ⊎_elim
      (λ (e : i ≡ j). subst (λ (k : ℕ). in_order before (set (set l i (get_or l k z)) k (get_or l i z)) ≡ in_order before l) e (ap (in_order before) (set-set l i (get_or l i z) (get_or l i z) ∙ set-get_or l i z)))
      (λ (n : i ≢ j). ⊎_elim
      (λ (lt : i < j). sorted_two l i j z lt q (tied_from l h))
      (λ (lt : j < i). ap (in_order before) (set_set l i j (get_or l j z) (get_or l i z) n) ∙ sorted_two l j i z lt p (tied_from l h))
      (lt_or i j n))
      (cases_eq i j)

  pub sorted_permutation : (xs ys : List (K × ℕ)) → AreKeysApart xs → IsPermutation xs ys → in_order before ys ≡ in_order before xs
  sorted_permutation xs ys h m =
      let P : List (K × ℕ) → Type 0 = λ l. AreKeysApart l × (in_order before l ≡ in_order before xs) in
      (IsPermutation-keeps xs P (h, refl) (λ l i j p q was. (apart_kept l (swap l i j) (IsPermutation-swap l (swap l i j) i j p q refl) was.0, sorted_swap l i j p q was.0 ∙ was.1)) ys m).1

  length_if : (r : Bool) (a b : List (K × ℕ)) (n : ℕ) → length a ≡ n → length b ≡ n → length (if r then a else b) ≡ n
  length_if true a b n p q = p
  length_if false a b n p q = q

  pub length-put_pair : (x : K × ℕ) (ys : List (K × ℕ)) → length (put_pair before x ys) ≡ suc (length ys)
  length-put_pair x [] = refl
  length-put_pair x (y ∷ ys) = length_if (before y.0 x.0) _ _ _ (ap suc (length-put_pair x ys)) refl

  pub length-in_order : (xs : List (K × ℕ)) → length (in_order before xs) ≡ length xs
  length-in_order [] = refl
  length-in_order (x ∷ xs) = length-put_pair x (in_order before xs) ∙ ap suc (length-in_order xs)

  put_front : (x : K × ℕ) (ys : List (K × ℕ)) → Every (λ y. before y.0 x.0 ≡ false) ys → put_pair before x ys ≡ x ∷ ys
  put_front x [] h = refl
  put_front x (y ∷ ys) h = put_upper x y ys h.0

  module _ (P : K × ℕ → Type 0) where
    every_if : (r : Bool) (a b : List (K × ℕ)) → Every P a → Every P b → Every P (if r then a else b)
    every_if true a b p q = p
    every_if false a b p q = q

    pub every_put : (x : K × ℕ) (ys : List (K × ℕ)) → P x → Every P ys → Every P (put_pair before x ys)
    every_put x [] p h = (p, tt)
    every_put x (y ∷ ys) p h = every_if (before y.0 x.0) _ _ (h.0, every_put x ys p h.1) (p, h)

    parts : (r : Bool) (x y : K × ℕ) (zs ys : List (K × ℕ)) → (Every P zs → P x × Every P ys) → Every P (if r then y ∷ zs else x ∷ y ∷ ys) → P x × Every P (y ∷ ys)
    parts true x y zs ys f h = ((f h.1).0, (h.0, (f h.1).1))
    parts false x y zs ys f h = h

    put_every : (x : K × ℕ) (ys : List (K × ℕ)) → Every P (put_pair before x ys) → P x × Every P ys
    put_every x [] h = h
    put_every x (y ∷ ys) h = parts (before y.0 x.0) x y (put_pair before x ys) ys (put_every x ys) h

    pub every_sorted : (xs : List (K × ℕ)) → Every P xs → Every P (in_order before xs)
    every_sorted [] h = tt
    every_sorted (x ∷ xs) h = every_put x (in_order before xs) h.0 (every_sorted xs h.1)

    pub sorted_every : (xs : List (K × ℕ)) → Every P (in_order before xs) → Every P xs
    sorted_every [] h = tt
    sorted_every (x ∷ xs) h = let t = put_every x (in_order before xs) h in (t.0, sorted_every xs t.1)

  -- the top of a heap is the first of its list
  pub top_first : (x : K × ℕ) (xs : List (K × ℕ)) → ((k : ℕ) (d : K × ℕ) → k < length xs → before (get_or xs k d).0 x.0 ≡ false) → in_order before (x ∷ xs) ≡ x ∷ in_order before xs
  top_first x xs h = put_front x (in_order before xs) (every_sorted (λ y. before y.0 x.0 ≡ false) xs (every_from (λ y. before y.0 x.0 ≡ false) xs h))

  Other : ℕ → K × ℕ → Type 0
  Other slot y = y.1 ≢ slot

  without_step : (slot : ℕ) (x y : K × ℕ) (ys : List (K × ℕ)) → x.1 ≡ slot → y.1 ≢ slot → without_slot slot (put_pair before x ys) ≡ ys → (r s t : Bool) → before y.0 x.0 ≡ r → (y.1 == slot) ≡ s → (x.1 == slot) ≡ t → without_slot slot (put_pair before x (y ∷ ys)) ≡ y ∷ ys
  without_step slot x y ys e n ih r true t p q u = absurd (grind (arith, nat_tests))
  without_step slot x y ys e n ih r s false p q u = absurd (grind (arith, nat_tests))
  without_step slot x y ys e n ih true false true p q u = simp (p, q, u) (ap (λ (l : List (K × ℕ)). y ∷ l) ih)
  without_step slot x y ys e n ih false false true p q u = simp (p, u)

  pub without_put : (slot : ℕ) (x : K × ℕ) (ys : List (K × ℕ)) → x.1 ≡ slot → Every (λ y. y.1 ≢ slot) ys → without_slot slot (put_pair before x ys) ≡ ys
  without_put slot x [] e h = let q : (x.1 == slot) ≡ true = grind (arith, nat_tests) in simp q
  without_put slot x (y ∷ ys) e h = without_step slot x y ys e h.0 (without_put slot x ys e h.1) (before y.0 x.0) (y.1 == slot) (x.1 == slot) refl refl refl

  key_step : (slot : ℕ) (x y : K × ℕ) (ys : List (K × ℕ)) → x.1 ≡ slot → y.1 ≢ slot → key_of slot (put_pair before x ys) ≡ Some x.0 → (r s t : Bool) → before y.0 x.0 ≡ r → (y.1 == slot) ≡ s → (x.1 == slot) ≡ t → key_of slot (put_pair before x (y ∷ ys)) ≡ Some x.0
  key_step slot x y ys e n ih r true t p q u = absurd (grind (arith, nat_tests))
  key_step slot x y ys e n ih r s false p q u = absurd (grind (arith, nat_tests))
  key_step slot x y ys e n ih true false true p q u = simp (p, q, u) ih
  key_step slot x y ys e n ih false false true p q u = simp (p, u)

  pub key_of_put : (slot : ℕ) (x : K × ℕ) (ys : List (K × ℕ)) → x.1 ≡ slot → Every (λ y. y.1 ≢ slot) ys → key_of slot (put_pair before x ys) ≡ Some x.0
  key_of_put slot x [] e h = let q : (x.1 == slot) ≡ true = grind (arith, nat_tests) in simp q
  key_of_put slot x (y ∷ ys) e h = key_step slot x y ys e h.0 (key_of_put slot x ys e h.1) (before y.0 x.0) (y.1 == slot) (x.1 == slot) refl refl refl

module _ {K : Type 0} where
  none_step : (slot : ℕ) (y : K × ℕ) (ys : List (K × ℕ)) → (key_of slot ys ≡ None → Every (λ y. y.1 ≢ slot) ys) → (r : Bool) → (y.1 == slot) ≡ r → key_of slot (y ∷ ys) ≡ None → Every (λ y. y.1 ≢ slot) (y ∷ ys)
  none_step slot y ys ih true q h = let t : Some y.0 ≡ None = simp q at h in absurd cc
  none_step slot y ys ih false q h = let t : key_of slot ys ≡ None = simp q at h in (grind (arith, nat_tests), ih t)

  pub none_at : (slot : ℕ) (ys : List (K × ℕ)) → key_of slot ys ≡ None → Every (λ y. y.1 ≢ slot) ys
  none_at slot [] h = tt
  none_at slot (y ∷ ys) h = none_step slot y ys (none_at slot ys) (y.1 == slot) refl h

  pub at_none : (slot : ℕ) (ys : List (K × ℕ)) → Every (λ y. y.1 ≢ slot) ys → key_of slot ys ≡ None
  at_none slot [] h = refl
  at_none slot (y ∷ ys) h = let n = h.0 in let q : (y.1 == slot) ≡ false = grind (arith, nat_tests) in simp q (at_none slot ys h.1)

  only_one : (x a : K × ℕ) → Contains (x ∷ []) a → a ≡ x
  only_one x a h = by_place h.0 h.1 h.2
    where
      by_place : (k : ℕ) → k < 1 → get_or (x ∷ []) k a ≡ a → a ≡ x
      by_place zero p e = sym e
      by_place (suc k) p e = absurd (omega arith)

  pub apart_added : (xs : List (K × ℕ)) (x : K × ℕ) → AreKeysApart xs → Every (λ y. y.0 ≢ x.0) xs → AreKeysApart (xs ++ x ∷ [])
  unfolding AreKeysApart
  apart_added xs x h n = λ a b p q e. ⊎_elim
      (λ (s : Contains xs a). ⊎_elim (λ (t : Contains xs b). h a b s t e) (λ (t : Contains (x ∷ []) b). absurd (every_in (λ y. y.0 ≢ x.0) xs a n s (e ∙ ap (λ (y : K × ℕ). y.0) (only_one x b t)))) (Contains-append_cases xs (x ∷ []) b q))
      (λ (s : Contains (x ∷ []) a). ⊎_elim (λ (t : Contains xs b). absurd (every_in (λ y. y.0 ≢ x.0) xs b n t (sym e ∙ ap (λ (y : K × ℕ). y.0) (only_one x a s)))) (λ (t : Contains (x ∷ []) b). only_one x a s ∙ sym (only_one x b t)) (Contains-append_cases xs (x ∷ []) b q))
      (Contains-append_cases xs (x ∷ []) a p)
