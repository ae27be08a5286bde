-- What a heap's list shows.
use Rattle.std.proofs.Common.{◌≡◌, ◌≢◌, ℕ, suc, ◌<◌, ◌≤◌, Bool, true, false, List, [], ◌∷◌, length, get_or, refl, sym, ap, ◌∙◌, Option, Some, None, arith}
use Rattle.std.specs.Prelude.{◌==◌, IsSome, slice_get}
use Rattle.std.proofs.lemmas.Bool.Decides.{nat_tests}
use Rattle.qz_queue.specs.Order.{IsStrictOrder, put_pair, in_order, key_of, without_slot, IsKeyFree, IsLogarithmic, AreAscending, AreSlotsApart}
use Rattle.qz_queue.specs.Lists.{Every, EachLater}
use Rattle.qz_queue.proofs.Lists.{every_from, is_in, all_pairs, later_if}
use Rattle.qz_queue.specs.Heap.{IsHeap, IsPlaced, AreKeysApart}
use Rattle.qz_queue.specs.Queue.{IsIndexed}
use Rattle.qz_queue.proofs.Heaps.{top}
use Rattle.qz_queue.proofs.Sorts.{every_put, sorted_every, every_sorted, none_at, at_none, top_first, key_of_put, without_put, length-in_order}
use Rattle.qz_queue.proofs.Edited.{every_free}
use Rattle.qz_queue.proofs.Bounds.{cheap_more}

module _ {K : Type 0} where
  without_step : (slot : ℕ) (y : K × ℕ) (ys : List (K × ℕ)) → y.1 ≢ slot → without_slot slot ys ≡ ys → without_slot slot (y ∷ ys) ≡ y ∷ ys
  without_step slot y ys n ih = let q : (y.1 == slot) ≡ false = grind (arith, nat_tests) in simp q (ap (λ (l : List (K × ℕ)). y ∷ l) ih)

  without_none : (slot : ℕ) (ys : List (K × ℕ)) → Every (λ (y : K × ℕ). y.1 ≢ slot) ys → without_slot slot ys ≡ ys
  without_none slot [] h = refl
  without_none slot (y ∷ ys) h = without_step slot y ys h.0 (without_none slot ys h.1)

module _ {K : Type 0} (before : K → K → Bool) (o : IsStrictOrder before) where
  pub absent_in : (xs : List (K × ℕ)) (slot : ℕ) → key_of slot (in_order before xs) ≡ None → Every (λ (y : K × ℕ). y.1 ≢ slot) xs
  absent_in xs slot h = sorted_every before o (λ (y : K × ℕ). y.1 ≢ slot) xs (none_at slot (in_order before xs) h)

  pub free_in : (xs : List (K × ℕ)) (due : K) (slot : ℕ) → IsKeyFree due slot (in_order before xs) → Every (λ (y : K × ℕ). y.0 ≡ due → y.1 ≡ slot) xs
  free_in xs due slot h = sorted_every before o (λ (y : K × ℕ). y.0 ≡ due → y.1 ≡ slot) xs (every_from (λ (y : K × ℕ). y.0 ≡ due → y.1 ≡ slot) (in_order before xs) h)

  pub free_new : (xs : List (K × ℕ)) (due : K) (slot : ℕ) → key_of slot (in_order before xs) ≡ None → IsKeyFree due slot (in_order before xs) → Every (λ (y : K × ℕ). y.0 ≢ due) xs
  free_new xs due slot h k = every_free slot due xs (absent_in xs slot h) (free_in xs due slot k)

  pub none_in : (xs : List (K × ℕ)) (slot : ℕ) → Every (λ (y : K × ℕ). y.1 ≢ slot) xs → key_of slot (in_order before xs) ≡ None
  none_in xs slot h = at_none slot (in_order before xs) (every_sorted before o (λ (y : K × ℕ). y.1 ≢ slot) xs h)

  pub same_in : (xs : List (K × ℕ)) (slot : ℕ) → Every (λ (y : K × ℕ). y.1 ≢ slot) xs → without_slot slot (in_order before xs) ≡ in_order before xs
  same_in xs slot h = without_none slot (in_order before xs) (every_sorted before o (λ (y : K × ℕ). y.1 ≢ slot) xs h)

  pub key_in : (xs ys : List (K × ℕ)) (k : K) (slot : ℕ) → in_order before xs ≡ put_pair before (k, slot) (in_order before ys) → Every (λ (y : K × ℕ). y.1 ≢ slot) ys → key_of slot (in_order before xs) ≡ Some k
  key_in xs ys k slot e h = ap (key_of slot) e ∙ key_of_put before o slot (k, slot) (in_order before ys) refl (every_sorted before o (λ (y : K × ℕ). y.1 ≢ slot) ys h)

  pub rest_in : (xs ys : List (K × ℕ)) (k : K) (slot : ℕ) → in_order before xs ≡ put_pair before (k, slot) (in_order before ys) → Every (λ (y : K × ℕ). y.1 ≢ slot) ys → without_slot slot (in_order before xs) ≡ in_order before ys
  rest_in xs ys k slot e h = ap (without_slot slot) e ∙ without_put before o slot (k, slot) (in_order before ys) refl (every_sorted before o (λ (y : K × ℕ). y.1 ≢ slot) ys h)

  pub first_in : (xs : List (K × ℕ)) (x : K × ℕ) → IsHeap before xs → 0 < length xs → x ≡ get_or xs 0 x → slice_get (in_order before xs) 0 ≡ Some x
  first_in [] x h p e = absurd (omega arith)
  first_in (z ∷ zs) x h p e = ap (λ (l : List (K × ℕ)). slice_get l 0) (top_first before o z zs (λ k d q. top before o (z ∷ zs) h (suc k) (suc k) d (omega arith) (omega arith))) ∙ ap (λ (y : K × ℕ). Some y) (sym e)

  pub none_first : (xs : List (K × ℕ)) → length xs ≡ 0 → slice_get (in_order before xs) 0 ≡ None
  none_first [] e = refl
  none_first (x ∷ xs) e = absurd (omega arith)

  pub cheap_in : (xs : List (K × ℕ)) (a b : ℕ) → IsLogarithmic (length xs) a b → IsLogarithmic (length (in_order before xs)) a b
  cheap_in xs a b h = let n = length-in_order before o xs in cheap_more (length xs) (length (in_order before xs)) a b (omega arith) h

  pub empty_in : (ps : List ℕ) (xs : List (K × ℕ)) → xs ≡ [] → IsIndexed before xs ps
  unfolding IsHeap IsPlaced AreKeysApart
  empty_in ps xs e = let n : length xs ≡ 0 = ap length e in record {
    heap = λ k p q d. absurd (omega arith);
    placed = λ i d p. absurd (omega arith);
    apart = λ a b p q. let r = p.1 in absurd (omega arith);
  }

module _ {K : Type 0} where
  pub some_or_none : (k : Option K) → IsSome k → k ≡ None → ⊥
  some_or_none None h e = let t : false ≡ true = h in cc
  some_or_none (Some k) h e = cc

  pub placed_widened : (xs : List (K × ℕ)) (ps qs : List ℕ) → length ps ≤ length qs → ((k : ℕ) → k < length ps → get_or qs k 0 ≡ get_or ps k 0) → IsPlaced xs ps → IsPlaced xs qs
  unfolding IsPlaced
  placed_widened xs ps qs le same h = λ i d p. let t = h i d p in let a = t.0 in (omega arith, same (get_or xs i d).1 a ∙ t.1)

module _ {K : Type 0} (before : K → K → Bool) (o : IsStrictOrder before) where
  abbrev pub Ascends : K × ℕ → K × ℕ → Type 0
  Ascends x y = before x.0 y.0 ≡ true

  abbrev pub Differs : K × ℕ → K × ℕ → Type 0
  Differs x y = x.1 ≢ y.1

  every_above : (x y : K × ℕ) (ys : List (K × ℕ)) → Ascends x y → Every (Ascends y) ys → Every (Ascends x) ys
  every_above x y [] h k = tt
  every_above x y (z ∷ ys) h k = (o.chain x.0 y.0 z.0 h k.0, every_above x y ys h k.1)

  stands : (x y : K × ℕ) → (y.0 ≡ x.0 → ⊥) → before y.0 x.0 ≡ false → Ascends x y
  stands x y n e = by_test (before x.0 y.0) refl
    where
      by_test : (r : Bool) → before x.0 y.0 ≡ r → before x.0 y.0 ≡ true
      by_test true p = p
      by_test false p = absurd (n (o.total y.0 x.0 e p))

  ascends_put : (x : K × ℕ) (ys : List (K × ℕ)) → Every (λ (y : K × ℕ). y.0 ≢ x.0) ys → EachLater Ascends ys → EachLater Ascends (put_pair before x ys)
  ascends_put x [] n h = (tt, tt)
  ascends_put x (y ∷ ys) n h = later_if Ascends (before y.0 x.0) _ _
      (λ e. (every_put before o (Ascends y) x ys e h.0, ascends_put x ys n.1 h.1))
      (λ e. let t = stands x y n.0 e in ((t, every_above x y ys t h.0), h))

  differs_put : (x : K × ℕ) (ys : List (K × ℕ)) → Every (Differs x) ys → EachLater Differs ys → EachLater Differs (put_pair before x ys)
  differs_put x [] n h = (tt, tt)
  differs_put x (y ∷ ys) n h = later_if Differs (before y.0 x.0) _ _
      (λ e. (every_put before o (Differs y) x ys (λ q. n.0 (sym q)) h.0, differs_put x ys n.1 h.1))
      (λ e. (n, h))

  -- different places have different keys and different slots
  abbrev pub AllApart : List (K × ℕ) → Type 0
  AllApart xs = (j k : ℕ) (d : K × ℕ) → j < length xs → k < length xs → ((get_or xs j d).0 ≡ (get_or xs k d).0 → j ≡ k) × ((get_or xs j d).1 ≡ (get_or xs k d).1 → j ≡ k)

  apart_tail : (x : K × ℕ) (xs : List (K × ℕ)) → AllApart (x ∷ xs) → AllApart xs
  apart_tail x xs h = λ j k d p q. let t = h (suc j) (suc k) d (omega arith) (omega arith) in ((λ e. let u = t.0 e in omega arith), (λ e. let u = t.1 e in omega arith))

  pub ascends_in : (xs : List (K × ℕ)) → AllApart xs → EachLater Ascends (in_order before xs)
  ascends_in [] h = tt
  ascends_in (x ∷ xs) h =
      let new : Every (λ (y : K × ℕ). y.0 ≢ x.0) xs = every_from (λ (y : K × ℕ). y.0 ≢ x.0) xs (λ k d p e. let t = (h (suc k) 0 d (omega arith) (omega arith)).0 e in absurd (omega arith)) in
      ascends_put x (in_order before xs) (every_sorted before o (λ (y : K × ℕ). y.0 ≢ x.0) xs new) (ascends_in xs (apart_tail x xs h))

  pub differs_in : (xs : List (K × ℕ)) → AllApart xs → EachLater Differs (in_order before xs)
  differs_in [] h = tt
  differs_in (x ∷ xs) h =
      let new : Every (Differs x) xs = every_from (Differs x) xs (λ k d p e. let t = (h 0 (suc k) d (omega arith) (omega arith)).1 e in absurd (omega arith)) in
      differs_put x (in_order before xs) (every_sorted before o (Differs x) xs new) (differs_in xs (apart_tail x xs h))

  pub apart_in : (xs : List (K × ℕ)) (ps : List ℕ) → IsIndexed before xs ps → AllApart xs
  unfolding IsPlaced AreKeysApart
  apart_in xs ps h = λ j k d p q.
      let a = (h.placed j d p).1 in
      let b = (h.placed k d q).1 in (
        (λ e. let same = h.apart _ _ (is_in xs j d p) (is_in xs k d q) e in let c = ap (λ (y : K × ℕ). get_or ps y.1 0) same in omega arith),
        (λ e. let c = ap (λ (s : ℕ). get_or ps s 0) e in omega arith),
      )

  pub ascending_in : (xs : List (K × ℕ)) (ps : List ℕ) → IsIndexed before xs ps → AreAscending before (in_order before xs)
  ascending_in xs ps h = all_pairs Ascends (in_order before xs) (ascends_in xs (apart_in xs ps h))

  pub slots_apart_in : (xs : List (K × ℕ)) (ps : List ℕ) → IsIndexed before xs ps → AreSlotsApart (in_order before xs)
  slots_apart_in xs ps h = all_pairs Differs (in_order before xs) (differs_in xs (apart_in xs ps h))

  every_without : (slot : ℕ) (ys : List (K × ℕ)) → EachLater Differs ys → Every (λ (y : K × ℕ). y.1 ≢ slot) (without_slot slot ys)
  every_without slot [] h = tt
  every_without slot (y ∷ ys) h = by_test (y.1 == slot) refl (every_without slot ys h.1)
    where
      same_slot : (zs : List (K × ℕ)) → y.1 ≡ slot → Every (Differs y) zs → Every (λ (z : K × ℕ). z.1 ≢ slot) zs
      same_slot [] e d = tt
      same_slot (z ∷ zs) e d = ((λ f. d.0 (e ∙ sym f)), same_slot zs e d.1)

      by_test : (r : Bool) → (y.1 == slot) ≡ r → Every (λ (z : K × ℕ). z.1 ≢ slot) (without_slot slot ys) → Every (λ (z : K × ℕ). z.1 ≢ slot) (without_slot slot (y ∷ ys))
      by_test true t rest = rw t (same_slot ys (grind (arith, nat_tests)) h.0)
      by_test false t rest = rw t ((λ (f : y.1 ≡ slot). grind (arith, nat_tests)), rest)

  -- a slot that got a new key has it
  pub now_in : (xs : List (K × ℕ)) (ps : List ℕ) (k : K) (slot : ℕ) → IsIndexed before xs ps → key_of slot (put_pair before (k, slot) (without_slot slot (in_order before xs))) ≡ Some k
  now_in xs ps k slot h = key_of_put before o slot (k, slot) (without_slot slot (in_order before xs)) refl (every_without slot (in_order before xs) (differs_in xs (apart_in xs ps h)))
