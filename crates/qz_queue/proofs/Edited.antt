-- A heap after an insert, a removal and a change.
use Rattle.std.proofs.Common.{◌≡◌, ◌≢◌, ℕ, suc, ◌+◌, ◌-◌, ◌/◌, ◌<◌, ◌≤◌, Bool, List, [], ◌∷◌, ◌++◌, length, get_or, set, refl, sym, ap, subst, ◌∙◌, ⊎_elim, Some, arith, length-append, length-set, get_or-set_same, get_or-set_other}
use Rattle.std.proofs.lemmas.Bool.{cases_eq}
use Rattle.std.proofs.lemmas.List.{take-set, drop-set-lt, get_or_append_left}
use Rattle.std.proofs.Math.Seq.{get_or-append_seam}
use Rattle.std.proofs.lemmas.List.Edits.{get_or-remove_below, get_or-remove_above, length-remove}
use Rattle.std.proofs.lemmas.List.Elements.{Contains-append_left, Contains-append_right}
use Rattle.std.proofs.lemmas.List.Sorted.{IsPermutation-sym, IsPermutation-trans, IsPermutation-to_front, IsPermutation-remove, Contains-permutation}
use Rattle.std.specs.List.{remove, Contains, SwappedAt, HoldsAt}
use Rattle.std.specs.List.Sorted.{IsPermutation}
use Rattle.qz_queue.specs.Order.{IsStrictOrder, put_pair, in_order, key_of, without_slot}
use Rattle.qz_queue.specs.Lists.{Every}
use Rattle.qz_queue.specs.Heap.{IsHeap, IsHeapBut, IsPlaced, AreKeysApart}
use Rattle.qz_queue.specs.Queue.{IsIndexed}
use Rattle.qz_queue.proofs.Lists.{below_or, same_default, every_at, every_from, every_in, is_in}
use Rattle.qz_queue.proofs.Heaps.{placed_at, changed_at}
use Rattle.qz_queue.proofs.Sorts.{apart_kept, sorted_permutation, without_put, key_of_put, every_sorted, apart_added}

module _ {K : Type 0} where
  -- what the search for a slot learns
  pub not_placed : (xs : List (K × ℕ)) (ps : List ℕ) (slot : ℕ) → IsPlaced xs ps → length ps ≤ slot → Every (λ y. y.1 ≢ slot) xs
  not_placed xs ps slot h n = every_from (λ (y : K × ℕ). y.1 ≢ slot) xs (λ k d p e. let t = (placed_at xs ps k d h p).0 in absurd (omega arith))

  pub not_high : (xs : List (K × ℕ)) (ps : List ℕ) (slot : ℕ) → IsPlaced xs ps → length xs ≤ get_or ps slot 0 → Every (λ y. y.1 ≢ slot) xs
  not_high xs ps slot h n = every_from (λ (y : K × ℕ). y.1 ≢ slot) xs (λ k d p e. let t = (placed_at xs ps k d h p).1 in let u : get_or ps slot 0 ≡ k = subst (λ (s : ℕ). get_or ps s 0 ≡ k) e t in absurd (omega arith))

  pub not_there : (xs : List (K × ℕ)) (ps : List ℕ) (slot at : ℕ) (x : K × ℕ) → IsPlaced xs ps → get_or ps slot 0 ≡ at → (get_or xs at x).1 ≢ slot → at < length xs → Every (λ y. y.1 ≢ slot) xs
  not_there xs ps slot at x h a n lt = every_from (λ (y : K × ℕ). y.1 ≢ slot) xs (λ k d p e.
      let t = (placed_at xs ps k d h p).1 in
      let u : get_or ps slot 0 ≡ k = subst (λ (s : ℕ). get_or ps s 0 ≡ k) e t in
      let v : at ≡ k = sym a ∙ u in
      n (ap (λ (y : K × ℕ). y.1) (same_default xs at x d lt ∙ ap (λ (m : ℕ). get_or xs m d) v) ∙ e))

  -- the slot at one place is at no other
  pub elsewhere : (xs : List (K × ℕ)) (ps : List ℕ) (i k : ℕ) (d e : K × ℕ) → IsPlaced xs ps → i < length xs → k < length xs → k ≢ i → (get_or xs k d).1 ≢ (get_or xs i e).1
  elsewhere xs ps i k d e h p q n s =
      let a = (placed_at xs ps i e h p).1 in
      let b = (placed_at xs ps k d h q).1 in
      let c : get_or ps (get_or xs k d).1 0 ≡ get_or ps (get_or xs i e).1 0 = ap (λ (m : ℕ). get_or ps m 0) s in
      n (omega arith)

  -- an insert
  pub placed_added : (xs : List (K × ℕ)) (ps : List ℕ) (x : K × ℕ) → IsPlaced xs ps → Every (λ y. y.1 ≢ x.1) xs → x.1 < length ps → IsPlaced (xs ++ x ∷ []) (set ps x.1 (length xs))
  unfolding IsPlaced
  placed_added xs ps x h n p = λ i d q.
      let long = length-append xs (x ∷ []) in
      let Good : ℕ → Type 0 = λ s. (s < length (set ps x.1 (length xs))) × (get_or (set ps x.1 (length xs)) s 0 ≡ i) in
      let same = length-set ps x.1 (length xs) in
      ⊎_elim
      (λ (e : i ≡ length xs).
      let is : x.1 ≡ (get_or (xs ++ x ∷ []) i d).1 = ap (λ (y : K × ℕ). y.1) (sym (ap (λ (m : ℕ). get_or (xs ++ x ∷ []) m d) e ∙ get_or-append_seam xs x [] d)) in
      subst Good is (omega arith, get_or-set_same ps x.1 (length xs) 0 p ∙ sym e))
      (λ (ne : i ≢ length xs).
      let lt : i < length xs = omega arith in
      let is : (get_or xs i d).1 ≡ (get_or (xs ++ x ∷ []) i d).1 = ap (λ (y : K × ℕ). y.1) (sym (get_or_append_left xs (x ∷ []) d i lt)) in
      let old = h i d lt in
      subst Good is (omega arith, get_or-set_other ps x.1 (get_or xs i d).1 (length xs) 0 (every_at (λ (y : K × ℕ). y.1 ≢ x.1) xs i d n lt) ∙ old.1))
      (cases_eq i (length xs))

  placed_front : (xs ys : List (K × ℕ)) (x : K × ℕ) (ps : List ℕ) → xs ≡ ys ++ x ∷ [] → IsPlaced xs ps → IsPlaced ys ps
  unfolding IsPlaced
  placed_front xs ys x ps e h = λ i d p.
      let long : length xs ≡ length ys + 1 = ap length e ∙ length-append ys (x ∷ []) in
      let is : get_or xs i d ≡ get_or ys i d = ap (λ (l : List (K × ℕ)). get_or l i d) e ∙ get_or_append_left ys (x ∷ []) d i p in
      subst (λ (y : K × ℕ). (y.1 < length ps) × (get_or ps y.1 0 ≡ i)) is (h i d (omega arith))

  apart_front : (xs ys : List (K × ℕ)) (x : K × ℕ) → xs ≡ ys ++ x ∷ [] → AreKeysApart xs → AreKeysApart ys
  unfolding AreKeysApart
  apart_front xs ys x e h = λ a b p q. h a b (subst (λ (l : List (K × ℕ)). Contains l a) (sym e) (Contains-append_left ys (x ∷ []) a p)) (subst (λ (l : List (K × ℕ)). Contains l b) (sym e) (Contains-append_left ys (x ∷ []) b q))

  last_is : (xs ys : List (K × ℕ)) (x d : K × ℕ) (i : ℕ) → xs ≡ ys ++ x ∷ [] → i ≡ length ys → get_or xs i d ≡ x
  last_is xs ys x d i e s = ap (λ (l : List (K × ℕ)). get_or l i d) e ∙ ap (λ (m : ℕ). get_or (ys ++ x ∷ []) m d) s ∙ get_or-append_seam ys x [] d

  others_front : (xs ys : List (K × ℕ)) (x : K × ℕ) (ps : List ℕ) → xs ≡ ys ++ x ∷ [] → IsPlaced xs ps → Every (λ y. y.1 ≢ x.1) ys
  others_front xs ys x ps e h = every_from (λ (y : K × ℕ). y.1 ≢ x.1) ys (λ k d p s.
      let long : length xs ≡ length ys + 1 = ap length e ∙ length-append ys (x ∷ []) in
      let is : get_or xs k d ≡ get_or ys k d = ap (λ (l : List (K × ℕ)). get_or l k d) e ∙ get_or_append_left ys (x ∷ []) d k p in
      elsewhere xs ps (length ys) k d d h (omega arith) (omega arith) (omega arith) (ap (λ (y : K × ℕ). y.1) is ∙ s ∙ ap (λ (y : K × ℕ). y.1) (sym (last_is xs ys x d (length ys) e refl))))

  pub every_permutation : (P : K × ℕ → Type 0) (xs ys : List (K × ℕ)) → IsPermutation xs ys → Every P xs → Every P ys
  every_permutation P xs ys m h = every_from P ys (λ k d p. every_in P xs (get_or ys k d) h (Contains-permutation ys xs (get_or ys k d) (IsPermutation-sym xs ys m) (is_in ys k d p)))

  pub every_tail : (P : K × ℕ → Type 0) (x : K × ℕ) (xs : List (K × ℕ)) → Every P (x ∷ xs) → Every P xs
  every_tail P x xs h = h.1

  pub every_free : (slot : ℕ) (due : K) (xs : List (K × ℕ)) → Every (λ (y : K × ℕ). y.1 ≢ slot) xs → Every (λ (y : K × ℕ). y.0 ≡ due → y.1 ≡ slot) xs → Every (λ (y : K × ℕ). y.0 ≢ due) xs
  every_free slot due [] h k = tt
  every_free slot due (x ∷ xs) h k = ((λ e. h.0 (k.0 e)), every_free slot due xs h.1 k.1)

  apart_tail : (x : K × ℕ) (xs : List (K × ℕ)) → AreKeysApart (x ∷ xs) → AreKeysApart xs
  unfolding AreKeysApart
  apart_tail x xs h = λ a b p q. h a b (Contains-append_right (x ∷ []) xs a p) (Contains-append_right (x ∷ []) xs b q)

module _ {K : Type 0} (before : K → K → Bool) (o : IsStrictOrder before) where
  heap_front : (xs ys : List (K × ℕ)) (x : K × ℕ) → xs ≡ ys ++ x ∷ [] → IsHeap before xs → IsHeap before ys
  unfolding IsHeap
  heap_front xs ys x e h = λ k p q d.
      let long : length xs ≡ length ys + 1 = ap length e ∙ length-append ys (x ∷ []) in
      let is : (i : ℕ) → i < length ys → get_or ys i d ≡ get_or xs i d = λ i r. sym (ap (λ (l : List (K × ℕ)). get_or l i d) e ∙ get_or_append_left ys (x ∷ []) d i r) in
      (λ i. before (is k q i).0 (is ((k - 1) / 2) (omega arith) i).0) ∙ h k p (omega arith) d

  pub but_added : (xs : List (K × ℕ)) (x : K × ℕ) → IsHeap before xs → IsHeapBut before (xs ++ x ∷ []) (length xs)
  unfolding IsHeap
  but_added xs x h =
      let long = length-append xs (x ∷ []) in
      let is : (i : ℕ) (d : K × ℕ) → i < length xs → get_or (xs ++ x ∷ []) i d ≡ get_or xs i d = λ i d p. get_or_append_left xs (x ∷ []) d i p in
      record {
        others = λ k p q n m d. (λ i. before (is k d (omega arith) i).0 (is ((k - 1) / 2) d (omega arith) i).0) ∙ h k p (omega arith) d;
        around = λ k p q e r d. absurd (omega arith);
      }

  pub sorted_last : (xs ys : List (K × ℕ)) (x : K × ℕ) → AreKeysApart xs → xs ≡ ys ++ x ∷ [] → in_order before xs ≡ put_pair before x (in_order before ys)
  sorted_last xs ys x h e = sym (sorted_permutation before o xs (x ∷ ys) h (subst (λ (l : List (K × ℕ)). IsPermutation l (x ∷ ys)) (sym e) (IsPermutation-to_front ys x)))

  -- after the last pair was lifted
  pub added : (xs zs : List (K × ℕ)) (ps qs : List ℕ) (x : K × ℕ) → IsIndexed before xs ps → Every (λ y. y.0 ≢ x.0) xs → IsPermutation (xs ++ x ∷ []) zs → IsPlaced zs qs → IsHeap before zs → IsIndexed before zs qs × (in_order before zs ≡ put_pair before x (in_order before xs))
  added xs zs ps qs x h free m placed heap =
      let apart = apart_added xs x h.apart free in (
        record { heap = heap; placed = placed; apart = apart_kept (xs ++ x ∷ []) zs m apart },
        sorted_permutation before o (xs ++ x ∷ []) zs apart m ∙ sorted_last (xs ++ x ∷ []) xs x apart refl,
      )

  -- the last pair goes
  pub popped : (xs ys : List (K × ℕ)) (x : K × ℕ) (ps : List ℕ) → xs ≡ ys ++ x ∷ [] → IsIndexed before xs ps → IsIndexed before ys ps
  popped xs ys x ps e h = record { heap = heap_front xs ys x e h.heap; placed = placed_front xs ys x ps e h.placed; apart = apart_front xs ys x e h.apart }

  pub popped_sorted : (xs ys : List (K × ℕ)) (x : K × ℕ) (k : K) (slot at : ℕ) → xs ≡ ys ++ x ∷ [] → AreKeysApart xs → x ≡ (k, slot) → in_order before xs ≡ put_pair before (k, slot) (in_order before ys)
  popped_sorted xs ys x k slot at e h is = subst (λ (y : K × ℕ). in_order before xs ≡ put_pair before y (in_order before ys)) is (sorted_last xs ys x h e)

  -- the pair at `at` went to the end, and the end goes
  pub moved_placed : (ys zs : List (K × ℕ)) (x : K × ℕ) (ps : List ℕ) → ys ≡ zs ++ x ∷ [] → IsPlaced ys ps → IsPlaced zs ps
  moved_placed ys zs x ps e h = placed_front ys zs x ps e h

  pub moved_but : (xs ys zs : List (K × ℕ)) (x : K × ℕ) (at last : ℕ) → at < last → last + 1 ≡ length xs → length ys ≡ length xs → SwappedAt xs ys at last → ys ≡ zs ++ x ∷ [] → IsHeap before xs → IsHeapBut before zs at
  moved_but xs ys zs x at last lt is len moved e h =
      let long : length ys ≡ length zs + 1 = ap length e ∙ length-append zs (x ∷ []) in
      changed_at before o xs zs at h (omega arith)
      (λ k d p n. sym (ap (λ (l : List (K × ℕ)). get_or l k d) e ∙ get_or_append_left zs (x ∷ []) d k p) ∙ moved.2 k d n (omega arith)) (omega arith)

  pub taken : (xs ys zs ws : List (K × ℕ)) (ps qs rs : List ℕ) (k : K) (s slot at last : ℕ) → at < last → last + 1 ≡ length xs → length ys ≡ length xs → SwappedAt xs ys at last → IsPermutation xs ys → IsPlaced ys qs → ys ≡ zs ++ (k, s) ∷ [] → IsPermutation zs ws → IsPlaced ws rs → IsHeap before ws → IsIndexed before xs ps → HoldsAt (λ (y : K × ℕ). y.1 ≡ slot) xs at → record { indexed : IsIndexed before ws rs; pairs : in_order before xs ≡ put_pair before (k, slot) (in_order before ws); others : Every (λ (y : K × ℕ). y.1 ≢ slot) ws }
  taken xs ys zs ws ps qs rs k s slot at last lt is len moved m placed e m' placed' heap h held =
      let long : length ys ≡ length zs + 1 = ap length e ∙ length-append zs ((k, s) ∷ []) in
      let same : s ≡ slot = ap (λ (y : K × ℕ). y.1) (sym (last_is ys zs (k, s) (k, s) last e (omega arith)) ∙ moved.1 (k, s)) ∙ held (k, s) in
      let apart = apart_kept xs ys m h.apart in
      let apart' = apart_front ys zs (k, s) e apart in
      record {
        indexed = record { heap = heap; placed = placed'; apart = apart_kept zs ws m' apart' };
        pairs = sym (sorted_permutation before o xs ys h.apart m) ∙ sorted_last ys zs (k, s) apart e ∙ ap (λ (l : List (K × ℕ)). put_pair before (k, s) l) (sym (sorted_permutation before o zs ws apart' m')) ∙ ap (λ (n : ℕ). put_pair before (k, n) (in_order before ws)) same;
        others = every_permutation (λ (y : K × ℕ). y.1 ≢ slot) zs ws m' (subst (λ (n : ℕ). Every (λ (y : K × ℕ). y.1 ≢ n) zs) same (others_front ys zs (k, s) qs e placed));
      }

  pub taken_last : (xs zs : List (K × ℕ)) (ps : List ℕ) (k : K) (s slot at : ℕ) → at + 1 ≡ length xs → xs ≡ zs ++ (k, s) ∷ [] → IsIndexed before xs ps → HoldsAt (λ (y : K × ℕ). y.1 ≡ slot) xs at → record { indexed : IsIndexed before zs ps; pairs : in_order before xs ≡ put_pair before (k, slot) (in_order before zs); others : Every (λ (y : K × ℕ). y.1 ≢ slot) zs }
  taken_last xs zs ps k s slot at is e h held =
      let long : length xs ≡ length zs + 1 = ap length e ∙ length-append zs ((k, s) ∷ []) in
      let same : s ≡ slot = ap (λ (y : K × ℕ). y.1) (sym (last_is xs zs (k, s) (k, s) at e (omega arith))) ∙ held (k, s) in
      record {
        indexed = popped xs zs (k, s) ps e h;
        pairs = sorted_last xs zs (k, s) h.apart e ∙ ap (λ (n : ℕ). put_pair before (k, n) (in_order before zs)) same;
        others = subst (λ (n : ℕ). Every (λ (y : K × ℕ). y.1 ≢ n) zs) same (others_front xs zs (k, s) ps e h.placed);
      }

  -- a change of key
  pub changed_placed : (xs : List (K × ℕ)) (ps : List ℕ) (at : ℕ) (x : K × ℕ) → at < length xs → IsPlaced xs ps → HoldsAt (λ (y : K × ℕ). y.1 ≡ x.1) xs at → IsPlaced (set xs at x) ps
  unfolding IsPlaced
  changed_placed xs ps at x in' h held = λ i d p.
      let long = length-set xs at x in
      let Good : K × ℕ → Type 0 = λ y. (y.1 < length ps) × (get_or ps y.1 0 ≡ i) in
      ⊎_elim
      (λ (e : i ≡ at).
      let is : x ≡ get_or (set xs at x) i d = sym (ap (λ (m : ℕ). get_or (set xs at x) m d) e ∙ get_or-set_same xs at x d in') in
      let there = h i d (omega arith) in
      let named : (get_or xs i d).1 ≡ x.1 = ap (λ (m : ℕ). (get_or xs m d).1) e ∙ held d in
      subst Good is (subst (λ (s : ℕ). (s < length ps) × (get_or ps s 0 ≡ i)) named there))
      (λ (n : i ≢ at). subst Good (sym (get_or-set_other xs at i x d n)) (h i d (omega arith)))
      (cases_eq i at)

  pub changed_but : (xs : List (K × ℕ)) (at : ℕ) (x : K × ℕ) → at < length xs → IsHeap before xs → IsHeapBut before (set xs at x) at
  changed_but xs at x in' h = let long = length-set xs at x in changed_at before o xs (set xs at x) at h (omega arith) (λ k d p n. get_or-set_other xs at k x d n) in'

  rest_same : (xs : List (K × ℕ)) (at : ℕ) (x : K × ℕ) → remove (set xs at x) at ≡ remove xs at
  rest_same xs at x = let a = take-set xs at x in let b = drop-set-lt (suc at) xs at x (omega arith) in cc

  rest_others : (xs : List (K × ℕ)) (ps : List ℕ) (at slot : ℕ) → at < length xs → IsPlaced xs ps → HoldsAt (λ (y : K × ℕ). y.1 ≡ slot) xs at → Every (λ (y : K × ℕ). y.1 ≢ slot) (remove xs at)
  rest_others xs ps at slot in' h held = every_from (λ (y : K × ℕ). y.1 ≢ slot) (remove xs at) (λ k d p e.
      let long = length-remove xs at in' in
      ⊎_elim
      (λ (lt : k < at). elsewhere xs ps at k d d h in' (omega arith) (omega arith) (ap (λ (y : K × ℕ). y.1) (sym (get_or-remove_below xs at d k lt in')) ∙ e ∙ sym (held d)))
      (λ (ge : at ≤ k). elsewhere xs ps at (k + 1) d d h in' (omega arith) (omega arith) (ap (λ (y : K × ℕ). y.1) (sym (get_or-remove_above xs at d k ge in')) ∙ e ∙ sym (held d)))
      (below_or k at))

  pub changed : (xs ws : List (K × ℕ)) (ps qs : List ℕ) (at slot : ℕ) (due : K) (x : K × ℕ) → at < length xs → IsIndexed before xs ps → HoldsAt (λ (y : K × ℕ). y.1 ≡ slot) xs at → Every (λ (y : K × ℕ). y.0 ≡ due → y.1 ≡ slot) xs → x ≡ get_or xs at x → IsPermutation (set xs at (due, slot)) ws → IsPlaced ws qs → IsHeap before ws → record { indexed : IsIndexed before ws qs; key : key_of slot (in_order before xs) ≡ Some x.0; pairs : in_order before ws ≡ put_pair before (due, slot) (without_slot slot (in_order before xs)) }
  changed xs ws ps qs at slot due x in' h held free is m placed heap =
      let zs = set xs at (due, slot) in
      let long = length-set xs at (due, slot) in
      let rest = remove xs at in
      let others = rest_others xs ps at slot in' h.placed held in
      let out : IsPermutation xs (x ∷ rest) = IsPermutation-remove xs at x in' is in
      let out' : IsPermutation zs ((due, slot) ∷ rest) = subst (λ (l : List (K × ℕ)). IsPermutation zs ((due, slot) ∷ l)) (rest_same xs at (due, slot)) (IsPermutation-remove zs at (due, slot) (omega arith) (sym (get_or-set_same xs at (due, slot) (due, slot) in'))) in
      let split = apart_tail x rest (apart_kept xs (x ∷ rest) out h.apart) in
      let new : Every (λ (y : K × ℕ). y.0 ≢ due) rest = every_free slot due rest others (every_tail (λ (y : K × ℕ). y.0 ≡ due → y.1 ≡ slot) x rest (every_permutation (λ (y : K × ℕ). y.0 ≡ due → y.1 ≡ slot) xs (x ∷ rest) out free)) in
      let front = IsPermutation-to_front rest (due, slot) in
      let apart = apart_kept (rest ++ (due, slot) ∷ []) ((due, slot) ∷ rest) front (apart_added rest (due, slot) split new) in
      let back = IsPermutation-trans _ _ _ (IsPermutation-sym _ _ out') m in
      let named : x.1 ≡ slot = ap (λ (y : K × ℕ). y.1) is ∙ held x in
      let before_ : in_order before xs ≡ put_pair before x (in_order before rest) = sym (sorted_permutation before o xs (x ∷ rest) h.apart out) in
      let far = every_sorted before o (λ (y : K × ℕ). y.1 ≢ slot) rest others in
      record {
        indexed = record { heap = heap; placed = placed; apart = apart_kept ((due, slot) ∷ rest) ws back apart };
        key = ap (key_of slot) before_ ∙ key_of_put before o slot x (in_order before rest) named far;
        pairs = sorted_permutation before o ((due, slot) ∷ rest) ws apart back ∙ ap (λ (l : List (K × ℕ)). put_pair before (due, slot) l) (sym (ap (without_slot slot) before_ ∙ without_put before o slot x (in_order before rest) named far));
      }
