-- What steps in a heap keep.
use Rattle.std.proofs.Common.{◌≡◌, ◌≢◌, ℕ, zero, suc, ◌+◌, ◌-◌, ◌*◌, ◌/◌, ◌<◌, ◌≤◌, Bool, true, false, List, length, get_or, set, refl, sym, ap, subst, ◌∙◌, inr, ⊎_elim, arith, length-set, get_or-set_same, get_or-set_other}
use Rattle.std.proofs.lemmas.Bool.{cases_eq}
use Rattle.std.specs.List.{SwappedAt}
use Rattle.qz_queue.proofs.Lists.{same_default}
use Rattle.qz_queue.specs.Order.{IsStrictOrder}
use Rattle.qz_queue.specs.Sift.{HasRisen}
use Rattle.qz_queue.specs.Heap.{IsHeap, IsHeapBut, IsOverChildren, IsUnderParent, IsPlaced}

two_set : (ps : List ℕ) (a b low high : ℕ) → low < high → a < length ps → b < length ps → get_or ps a 0 ≡ high → get_or ps b 0 ≡ low → (get_or (set (set ps a low) b high) a 0 ≡ low) × (get_or (set (set ps a low) b high) b 0 ≡ high)
two_set ps a b low high h p q e f =
    let ne : a ≢ b = λ s. let g : get_or ps a 0 ≡ get_or ps b 0 = ap (λ k. get_or ps k 0) s in omega arith in
    let l = length-set ps a low in (
      get_or-set_other (set ps a low) b a high 0 ne ∙ get_or-set_same ps a low 0 p,
      get_or-set_same (set ps a low) b high 0 (omega arith),
    )

third_set : (ps : List ℕ) (a b low high s i : ℕ) → get_or ps a 0 ≡ high → get_or ps b 0 ≡ low → get_or ps s 0 ≡ i → i ≢ low → i ≢ high → get_or (set (set ps a low) b high) s 0 ≡ i
third_set ps a b low high s i e f g h k =
    let na : s ≢ a = λ t. let z : get_or ps s 0 ≡ get_or ps a 0 = ap (λ k. get_or ps k 0) t in omega arith in
    let nb : s ≢ b = λ t. let z : get_or ps s 0 ≡ get_or ps b 0 = ap (λ k. get_or ps k 0) t in omega arith in
    get_or-set_other (set ps a low) b s high 0 nb ∙ get_or-set_other ps a s low 0 na ∙ g

module _ {K : Type 0} where
  pub placed_at : (xs : List (K × ℕ)) (ps : List ℕ) (i : ℕ) (d : K × ℕ) → IsPlaced xs ps → i < length xs → ((get_or xs i d).1 < length ps) × (get_or ps (get_or xs i d).1 0 ≡ i)
  unfolding IsPlaced
  placed_at xs ps i d h p = h i d p

  pub first_slot : (xs ys : List (K × ℕ)) (ps : List ℕ) (low high : ℕ) (d : K × ℕ) → IsPlaced xs ps → high < length xs → SwappedAt xs ys low high → (get_or ys low d).1 < length ps
  unfolding IsPlaced
  first_slot xs ys ps low high d h in' moved = subst (λ (x : K × ℕ). x.1 < length ps) (sym (moved.0 d)) (h high d in').0

  pub second_slot : (xs ys : List (K × ℕ)) (ps : List ℕ) (low high : ℕ) (d : K × ℕ) → IsPlaced xs ps → low < high → high < length xs → SwappedAt xs ys low high → (get_or ys high d).1 < length ps
  unfolding IsPlaced
  second_slot xs ys ps low high d h lt in' moved = subst (λ (x : K × ℕ). x.1 < length ps) (sym (moved.1 d)) (h low d (omega arith)).0

  -- the slot of the pair at low after the exchange, and of the one at high
  pub placed_exchanged : (xs ys : List (K × ℕ)) (ps : List ℕ) (low high : ℕ) (d e : K × ℕ) → IsPlaced xs ps → low < high → high < length xs → length ys ≡ length xs → SwappedAt xs ys low high → IsPlaced ys (set (set ps (get_or ys low d).1 low) (get_or ys high e).1 high)
  unfolding IsPlaced
  placed_exchanged xs ys ps low high d e h lt in' len moved =
      let a = (get_or ys low d).1 in
      let b = (get_or ys high e).1 in
      let at_a : (a < length ps) × (get_or ps a 0 ≡ high) = subst (λ (x : K × ℕ). (x.1 < length ps) × (get_or ps x.1 0 ≡ high)) (sym (moved.0 d)) (h high d in') in
      let at_b : (b < length ps) × (get_or ps b 0 ≡ low) = subst (λ (x : K × ℕ). (x.1 < length ps) × (get_or ps x.1 0 ≡ low)) (sym (moved.1 e)) (h low e (omega arith)) in
      let both = two_set ps a b low high lt at_a.0 at_b.0 at_a.1 at_b.1 in
      let long : length (set (set ps a low) b high) ≡ length ps = length-set (set ps a low) b high ∙ length-set ps a low in
      let Good : ℕ → ℕ → Type 0 = λ i s. (s < length (set (set ps a low) b high)) × (get_or (set (set ps a low) b high) s 0 ≡ i) in
      λ i f p. ⊎_elim
      (λ (u : i ≡ low). let s : a ≡ (get_or ys i f).1 = ap (λ (x : K × ℕ). x.1) (same_default ys low d f (omega arith)) ∙ ap (λ (k : ℕ). (get_or ys k f).1) (sym u) in
      subst (Good i) s (omega arith, both.0 ∙ sym u))
      (λ (n : i ≢ low). ⊎_elim
      (λ (u : i ≡ high). let s : b ≡ (get_or ys i f).1 = ap (λ (x : K × ℕ). x.1) (same_default ys high e f (omega arith)) ∙ ap (λ (k : ℕ). (get_or ys k f).1) (sym u) in
      subst (Good i) s (omega arith, both.1 ∙ sym u))
      (λ (m : i ≢ high).
      let old = h i f (omega arith) in
      let s : (get_or xs i f).1 ≡ (get_or ys i f).1 = ap (λ (x : K × ℕ). x.1) (sym (moved.2 i f n m)) in
      subst (Good i) s (omega arith, third_set ps a b low high (get_or xs i f).1 i at_a.1 at_b.1 old.1 n m))
      (cases_eq i high))
      (cases_eq i low)

module _ {K : Type 0} (before : K → K → Bool) (o : IsStrictOrder before) where
  pub weak : (a b c : K) → before b a ≡ false → before c b ≡ false → before c a ≡ false
  weak a b c p q = by_tests (before c a) (before a b) refl refl
    where
      by_tests : (r s : Bool) → before c a ≡ r → before a b ≡ s → before c a ≡ false
      by_tests false s e f = e
      by_tests true true e f = let t = o.chain c a b e f in cc
      by_tests true false e f = let same : a ≡ b = o.total a b f p in subst (λ x. before c x ≡ false) (sym same) q

  pub itself : (x : K) → before x x ≡ false
  itself x = by_test (before x x) refl
    where
      by_test : (r : Bool) → before x x ≡ r → before x x ≡ false
      by_test true e = o.one_way x x e
      by_test false e = e

  pub by : (a b x y : K × ℕ) → a ≡ x → b ≡ y → before x.0 y.0 ≡ false → before a.0 b.0 ≡ false
  by a b x y p q h = (λ k. before (p k).0 (q k).0) ∙ h

  pub over_as : (xs : List (K × ℕ)) (k i j : ℕ) (d : K × ℕ) → i ≡ j → before (get_or xs k d).0 (get_or xs i d).0 ≡ false → before (get_or xs k d).0 (get_or xs j d).0 ≡ false
  over_as xs k i j d e h = subst (λ (m : ℕ). before (get_or xs k d).0 (get_or xs m d).0 ≡ false) e h

  pub weak_at : (xs : List (K × ℕ)) (i j k : ℕ) (d : K × ℕ) → before (get_or xs j d).0 (get_or xs i d).0 ≡ false → before (get_or xs k d).0 (get_or xs j d).0 ≡ false → before (get_or xs k d).0 (get_or xs i d).0 ≡ false
  weak_at xs i j k d = weak (get_or xs i d).0 (get_or xs j d).0 (get_or xs k d).0

  pub closes : (xs : List (K × ℕ)) (j : ℕ) → IsHeapBut before xs j → IsOverChildren before xs j j → IsUnderParent before xs j → IsHeap before xs
  unfolding IsHeap IsOverChildren IsUnderParent
  closes xs j h over under = λ k p q d. ⊎_elim
      (λ (e : (k - 1) / 2 ≡ j). over_as xs k j ((k - 1) / 2) d (sym e) (over k p q e d))
      (λ (n : (k - 1) / 2 ≢ j). ⊎_elim
      (λ (e : k ≡ j). by _ _ _ _ (ap (λ m. get_or xs m d) e) (ap (λ (m : ℕ). get_or xs ((m - 1) / 2) d) e) (under (omega arith) d))
      (λ (m : k ≢ j). h.others k p q m n d)
      (cases_eq k j))
      (cases_eq ((k - 1) / 2) j)

  pub up_but : (xs ys : List (K × ℕ)) (j p : ℕ) → 0 < j → p ≡ (j - 1) / 2 → j < length xs → length ys ≡ length xs → SwappedAt xs ys p j → ((d : K × ℕ) → before (get_or xs j d).0 (get_or xs p d).0 ≡ true) → IsHeapBut before xs j → IsHeapBut before ys p
  up_but xs ys j p pos is in' len moved test h = record {
    others = λ k u v n m d. let nk : k ≢ j = omega arith in ⊎_elim
        (λ (e : (k - 1) / 2 ≡ j). by _ _ _ _ (moved.2 k d n nk) (ap (λ m. get_or ys m d) e ∙ moved.1 d ∙ ap (λ m. get_or xs m d) is) (h.around k u (omega arith) e pos d))
        (λ (w : (k - 1) / 2 ≢ j). by _ _ _ _ (moved.2 k d n nk) (moved.2 ((k - 1) / 2) d m w) (h.others k u (omega arith) nk w d))
        (cases_eq ((k - 1) / 2) j);
    around = λ k u v e q d.
        let same = moved.2 ((p - 1) / 2) d (omega arith) (omega arith) in
        let top = h.others p q (omega arith) (omega arith) (omega arith) d in
        ⊎_elim
        (λ (f : k ≡ j). by _ _ _ _ (ap (λ m. get_or ys m d) f ∙ moved.1 d) same top)
        (λ (n : k ≢ j). by _ _ _ _ (moved.2 k d (omega arith) n) same
        (weak_at xs ((p - 1) / 2) p k d top (over_as xs k ((k - 1) / 2) p d e (h.others k u (omega arith) n (omega arith) d))))
        (cases_eq k j);
  }

  pub up_over : (xs ys : List (K × ℕ)) (j p : ℕ) → 0 < j → p ≡ (j - 1) / 2 → j < length xs → length ys ≡ length xs → SwappedAt xs ys p j → ((d : K × ℕ) → before (get_or xs j d).0 (get_or xs p d).0 ≡ true) → IsHeapBut before xs j → IsOverChildren before ys p p
  unfolding IsOverChildren
  up_over xs ys j p pos is in' len moved test h = λ k u v e d.
      let turned = o.one_way _ _ (test d) in
      ⊎_elim
      (λ (f : k ≡ j). by _ _ _ _ (ap (λ m. get_or ys m d) f ∙ moved.1 d) (moved.0 d) turned)
      (λ (n : k ≢ j). by _ _ _ _ (moved.2 k d (omega arith) n) (moved.0 d)
      (weak_at xs j p k d turned (over_as xs k ((k - 1) / 2) p d e (h.others k u (omega arith) n (omega arith) d))))
      (cases_eq k j)

  pub down_but : (xs ys : List (K × ℕ)) (j c : ℕ) → 0 < c → (c - 1) / 2 ≡ j → c < length xs → length ys ≡ length xs → SwappedAt xs ys j c → IsOverChildren before xs j c → IsHeapBut before xs j → IsHeapBut before ys c
  unfolding IsOverChildren
  down_but xs ys j c pos is in' len moved best h = record {
    others = λ k u v n m d. ⊎_elim
        (λ (e : (k - 1) / 2 ≡ j). by _ _ _ _ (moved.2 k d (omega arith) n) (ap (λ m. get_or ys m d) e ∙ moved.0 d) (best k u (omega arith) e d))
        (λ (w : (k - 1) / 2 ≢ j). ⊎_elim
        (λ (e : k ≡ j). by _ _ _ _ (ap (λ m. get_or ys m d) e ∙ moved.0 d) (moved.2 ((k - 1) / 2) d w m ∙ ap (λ (m : ℕ). get_or xs ((m - 1) / 2) d) e) (h.around c pos in' is (omega arith) d))
        (λ (z : k ≢ j). by _ _ _ _ (moved.2 k d z n) (moved.2 ((k - 1) / 2) d w m) (h.others k u (omega arith) z w d))
        (cases_eq k j))
        (cases_eq ((k - 1) / 2) j);
    around = λ k u v e q d. by _ _ _ _ (moved.2 k d (omega arith) (omega arith)) (ap (λ m. get_or ys m d) is ∙ moved.0 d ∙ ap (λ m. get_or xs m d) (sym e)) (h.others k u (omega arith) (omega arith) (omega arith) d);
  }

  pub down_under : (xs ys : List (K × ℕ)) (j c : ℕ) → 0 < c → (c - 1) / 2 ≡ j → SwappedAt xs ys j c → ((d : K × ℕ) → before (get_or xs c d).0 (get_or xs j d).0 ≡ true) → IsUnderParent before ys c
  unfolding IsUnderParent
  down_under xs ys j c pos is moved test = λ u d. by _ _ _ _ (moved.1 d) (ap (λ m. get_or ys m d) is ∙ moved.0 d) (o.one_way _ _ (test d))

  -- no pair stands before the top
  pub top : (xs : List (K × ℕ)) → IsHeap before xs → (fuel k : ℕ) (d : K × ℕ) → k ≤ fuel → k < length xs → before (get_or xs k d).0 (get_or xs 0 d).0 ≡ false
  unfolding IsHeap
  top xs h zero k d a b = let e : 0 ≡ k = omega arith in subst (λ (m : ℕ). before (get_or xs m d).0 (get_or xs 0 d).0 ≡ false) e (itself (get_or xs 0 d).0)
  top xs h (suc fuel) k d a b = ⊎_elim
      (λ (e : k ≡ 0). top xs h fuel k d (omega arith) b)
      (λ (n : k ≢ 0). weak_at xs 0 ((k - 1) / 2) k d (top xs h fuel ((k - 1) / 2) d (omega arith) (omega arith)) (h k (omega arith) b d))
      (cases_eq k 0)

  -- one pair is another, and the list may have become shorter
  pub changed_at : (xs ys : List (K × ℕ)) (j : ℕ) → IsHeap before xs → length ys ≤ length xs → ((k : ℕ) (d : K × ℕ) → k < length ys → k ≢ j → get_or ys k d ≡ get_or xs k d) → j < length xs → IsHeapBut before ys j
  unfolding IsHeap
  changed_at xs ys j h len same in' = record {
    others = λ k u v n m d. by _ _ _ _ (same k d v n) (same ((k - 1) / 2) d (omega arith) m) (h k u (omega arith) d);
    around = λ k u v e q d. by _ _ _ _ (same k d v (omega arith)) (same ((j - 1) / 2) d (omega arith) (omega arith))
        (weak_at xs ((j - 1) / 2) j k d (h j q in' d) (over_as xs k ((k - 1) / 2) j d e (h k u (omega arith) d)));
  }

  pub leaf_over : (xs : List (K × ℕ)) (j : ℕ) → length xs / 2 ≤ j → IsOverChildren before xs j j
  unfolding IsOverChildren
  leaf_over xs j h = λ k u v e d. absurd (omega arith)

  pub root_under : (xs : List (K × ℕ)) (j : ℕ) → j ≡ 0 → IsUnderParent before xs j
  unfolding IsUnderParent
  root_under xs j e = λ u d. absurd (omega arith)

  pub left_over : (xs : List (K × ℕ)) (j c : ℕ) → c ≡ 2 * j + 1 → ((c + 1 < length xs) → (d : K × ℕ) → before (get_or xs (c + 1) d).0 (get_or xs c d).0 ≡ false) → IsOverChildren before xs j c
  unfolding IsOverChildren
  left_over xs j c is test = λ k u v e d. ⊎_elim
      (λ (f : k ≡ c). subst (λ (m : ℕ). before (get_or xs m d).0 (get_or xs c d).0 ≡ false) (sym f) (itself (get_or xs c d).0))
      (λ (n : k ≢ c). let f : c + 1 ≡ k = omega arith in subst (λ (m : ℕ). before (get_or xs m d).0 (get_or xs c d).0 ≡ false) f (test (omega arith) d))
      (cases_eq k c)

  pub right_over : (xs : List (K × ℕ)) (j c : ℕ) → c ≡ 2 * j + 1 → ((d : K × ℕ) → before (get_or xs (c + 1) d).0 (get_or xs c d).0 ≡ true) → IsOverChildren before xs j (c + 1)
  unfolding IsOverChildren
  right_over xs j c is test = λ k u v e d. ⊎_elim
      (λ (f : k ≡ c). subst (λ (m : ℕ). before (get_or xs m d).0 (get_or xs (c + 1) d).0 ≡ false) (sym f) (o.one_way _ _ (test d)))
      (λ (n : k ≢ c). let f : c + 1 ≡ k = omega arith in subst (λ (m : ℕ). before (get_or xs m d).0 (get_or xs (c + 1) d).0 ≡ false) f (itself (get_or xs (c + 1) d).0))
      (cases_eq k c)

  -- the two ways in which a rise ends
  pub risen_under : (xs : List (K × ℕ)) (at : ℕ) → ((d : K × ℕ) → before (get_or xs at d).0 (get_or xs ((at - 1) / 2) d).0 ≡ false) → IsUnderParent before xs at
  unfolding IsUnderParent
  risen_under xs at test = λ u d. test d

  pub sunk : (xs : List (K × ℕ)) (at c : ℕ) → ((d : K × ℕ) → before (get_or xs c d).0 (get_or xs at d).0 ≡ false) → IsOverChildren before xs at c → IsOverChildren before xs at at
  unfolding IsOverChildren
  sunk xs at c test best = λ k u v e d. weak_at xs at c k d (test d) (best k u v e d)

  pub risen_more : (xs ys zs : List (K × ℕ)) (start at : ℕ) → 0 < at → at < length ys → length zs ≡ length ys → SwappedAt ys zs ((at - 1) / 2) at → ((d : K × ℕ) → before (get_or ys at d).0 (get_or ys ((at - 1) / 2) d).0 ≡ true) → HasRisen before xs ys start at → HasRisen before xs zs start ((at - 1) / 2)
  risen_more xs ys zs start at pos in' len moved test h = let down = h.below in record {
    heap = up_but ys zs at ((at - 1) / 2) pos refl in' len moved test h.heap;
    below = omega arith;
    over = inr (up_over ys zs at ((at - 1) / 2) pos refl in' len moved test h.heap);
  }
