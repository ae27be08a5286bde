-- Slots that stand once in a list.
use Rattle.std.proofs.Common.{◌≡◌, ◌≢◌, ℕ, zero, suc, ◌+◌, ◌<◌, ◌≤◌, List, [], ◌∷◌, length, get_or, set, Bool, true, false, if◌then◌else◌, Option, Some, None, refl, sym, ap, subst, ◌∙◌, arith, inl, inr}
use Rattle.std.specs.Prelude.{is_some, nat_eq, IsSome, IsSomeAnd}
use Rattle.std.specs.List.{insert, remove}
use Rattle.std.specs.Ordering.{is_eq, ordering_reverse}
use Rattle.std.specs.Cmp.{IsTotalOrder}
use Rattle.std.specs.declared.cmp.Ordering.{Ordering}
use Rattle.std.specs.declared.cmp.Ordering.TheVariants.{Less, Equal, Greater}
use Rattle.std.proofs.lemmas.Bool.{cases_eq, cases_lt, eq-eqb, ne_eqb}
use Rattle.std.proofs.lemmas.List.{get_or-set_same, get_or-set_other}
use Rattle.qz_types.specs.Sorted.{place_of, row_of, IsAscending}
use Rattle.qz_tables.specs.Slots.{rows_at, with_found, AreFilled, IsFound}
use Rattle.qz_tables.specs.Once.{times, AreOnce}
use Rattle.qz_tables.proofs.Filled.{before_slot, row_here, length-rows}
use Rattle.qz_tables.proofs.Places.{place_here, not_after}

pub known : {X : Type 0} (o : Option X) (t : X → Bool) → IsSomeAnd o (λ x. t x ≡ true) → (x : X) × (o ≡ Some x) × (t x ≡ true)
known None t h = absurd h
known (Some x) t h = (x, refl, h)

pub length_removed : (xs : List ℕ) (i : ℕ) → i < length xs → length (remove xs i) + 1 ≡ length xs
length_removed [] i lt = absurd (omega arith)
length_removed (x ∷ xs) zero lt = omega arith
length_removed (x ∷ xs) (suc i) lt = omega (arith, length_removed xs i (omega arith))

pub times-first : (n x : ℕ) (xs : List ℕ) → times n (x ∷ xs) ≡ times n xs + times n (x ∷ [])
times-first n x xs = elim (nat_eq n x) as (λ b. (if b then suc (times n xs) else times n xs) ≡ times n xs + (if b then 1 else 0)) [
  | true ↦ omega arith
  | false ↦ omega arith
]

pub times-insert : (n m i : ℕ) (xs : List ℕ) → i ≤ length xs → times n (insert xs i m) ≡ times n xs + times n (m ∷ [])
times-insert n m zero xs le = times-first n m xs
times-insert n m (suc i) [] le = absurd (omega arith)
times-insert n m (suc i) (x ∷ xs) le = omega (arith, times-first n x xs, times-first n x (insert xs i m), times-insert n m i xs (omega arith))

pub times-remove : (n m i : ℕ) (xs : List ℕ) → i < length xs → get_or xs i 0 ≡ m → times n xs ≡ times n (remove xs i) + times n (m ∷ [])
times-remove n m i [] lt e = absurd (omega arith)
times-remove n m zero (x ∷ xs) lt e = times-first n x xs ∙ ap (λ y. times n xs + times n (y ∷ [])) e
times-remove n m (suc i) (x ∷ xs) lt e = omega (arith, times-first n x xs, times-first n x (remove xs i), times-remove n m i xs (omega arith) e)

pub once_here : (n : ℕ) → times n (n ∷ []) ≡ 1
once_here n = rw (eq-eqb n n refl) refl

pub never_here : (n m : ℕ) → n ≢ m → times n (m ∷ []) ≡ 0
never_here n m differs = rw (ne_eqb n m differs) refl

-- where a number stands
pub place_of_slot : (s : ℕ) (xs : List ℕ) → 0 < times s xs → (i : ℕ) × (i < length xs) × (get_or xs i 0 ≡ s)
place_of_slot s [] lt = absurd (omega arith)
place_of_slot s (x ∷ xs) lt = elim (cases_eq s x) [
  | inl same ↦ (0, omega arith, sym same)
  | inr differs ↦ (let h = place_of_slot s xs (omega (arith, times-first s x xs, never_here s x differs)) in (suc h.0, omega (arith, h.1), h.2))
]

module _ {R : Type 0} where
  none_count : (o : Option R) (n : ℕ) → n ≡ (if is_some o then 1 else 0) → o ≡ None → n ≡ 0
  none_count o n e f = rw f at e

  some_count : (o : Option R) (r : R) (n : ℕ) → n ≡ (if is_some o then 1 else 0) → o ≡ Some r → n ≡ 1
  some_count o r n e f = rw f at e

  count_none : (o : Option R) (n : ℕ) → n ≡ 0 → o ≡ None → n ≡ (if is_some o then 1 else 0)
  count_none o n e f = rw f e

  count_some : (o : Option R) (r : R) (n : ℕ) → n ≡ 1 → o ≡ Some r → n ≡ (if is_some o then 1 else 0)
  count_some o r n e f = rw f e

  filled_count : (o : Option R) (n : ℕ) → n ≡ (if is_some o then 1 else 0) → IsSome o → n ≡ 1
  filled_count None n e f = absurd cc
  filled_count (Some r) n e f = e

  filled-from : (slots : List (Option R)) (xs : List ℕ) → ((s : ℕ) → 0 < times s xs → IsSome (get_or slots s None)) → AreFilled slots xs
  filled-from slots [] h = tt
  filled-from slots (x ∷ xs) h =
      (h x (omega (arith, times-first x x xs, once_here x)), filled-from slots xs (λ s lt. h s (omega (arith, times-first s x xs, lt))))

  some_if_once : (o : Option R) (n : ℕ) → n ≡ (if is_some o then 1 else 0) → 0 < n → IsSome o
  some_if_once None n e lt = absurd (omega arith)
  some_if_once (Some r) n e lt = refl

  pub filled-once : (slots : List (Option R)) (xs : List ℕ) → AreOnce slots xs → AreFilled slots xs
  filled-once slots xs once = filled-from slots xs (λ s lt. some_if_once (get_or slots s None) (times s xs) (once.once s) lt)

  module _ (old new : List (Option R)) (order : List ℕ) (slot i : ℕ) (once : AreOnce old order) where
    pub once-insert : (r : R) → get_or old slot None ≡ None → get_or new slot None ≡ Some r → ((other : ℕ) → other ≢ slot → get_or new other None ≡ get_or old other None) → i ≤ length order → AreOnce new (insert order i slot)
    once-insert r vacant written others le =
        let never = none_count (get_or old slot None) (times slot order) (once.once slot) vacant in
        record {
          once = λ s. elim (cases_eq s slot) [
            | inl same ↦ count_some (get_or new s None) r _ (ap (λ y. times y (insert order i slot)) same ∙ (omega (arith, times-insert slot slot i order le, never, once_here slot))) (ap (λ y. get_or new y None) same ∙ written)
            | inr differs ↦ subst (λ o. times s (insert order i slot) ≡ (if is_some o then 1 else 0)) (sym (others s differs)) (omega (arith, times-insert s slot i order le, never_here s slot differs) ∙ once.once s)
          ];
        }

    pub once-remove : i < length order → get_or order i 0 ≡ slot → IsSome (get_or old slot None) → get_or new slot None ≡ None → ((other : ℕ) → other ≢ slot → get_or new other None ≡ get_or old other None) → AreOnce new (remove order i)
    once-remove lt at filled gone others =
        let one = filled_count (get_or old slot None) (times slot order) (once.once slot) filled in
        record {
          once = λ s. elim (cases_eq s slot) [
            | inl same ↦ count_none (get_or new s None) _ (ap (λ y. times y (remove order i)) same ∙ omega (arith, times-remove slot slot i order lt at, one, once_here slot)) (ap (λ y. get_or new y None) same ∙ gone)
            | inr differs ↦ subst (λ o. times s (remove order i) ≡ (if is_some o then 1 else 0)) (sym (others s differs)) (omega (arith, times-remove s slot i order lt at, never_here s slot differs) ∙ once.once s)
          ];
        }

  -- slots of which each is filled where it was
  pub once-alike : (old new : List (Option R)) (order : List ℕ) → ((s : ℕ) → is_some (get_or new s None) ≡ is_some (get_or old s None)) → AreOnce old order → AreOnce new order
  once-alike old new order same once = record { once = λ s. once.once s ∙ ap (λ b. if b then 1 else 0) (sym (same s)) }

  within : (xs : List (Option R)) (i : ℕ) (q : R) → get_or xs i None ≡ Some q → i < length xs
  within [] i q s = absurd (cc)
  within (x ∷ xs) zero q s = omega arith
  within (x ∷ xs) (suc i) q s = let l = within xs i q s in omega arith

  pub once-set : (old : List (Option R)) (order : List ℕ) (slot : ℕ) (q r : R) → get_or old slot None ≡ Some q → AreOnce old order → AreOnce (set old slot (Some r)) order
  once-set old order slot q r was once = once-alike old (set old slot (Some r)) order (λ s. elim (cases_eq s slot) [
    | inl same ↦ ap (λ t. is_some (get_or (set old slot (Some r)) t None)) same ∙ ap is_some (get_or-set_same old slot (Some r) None (within old slot q was)) ∙ ap is_some (sym was) ∙ ap (λ t. is_some (get_or old t None)) (sym same)
    | inr differs ↦ ap is_some (get_or-set_other old slot s (Some r) None differs)
  ]) once

  module _ {K : Type 0} (cmp : K → K → Ordering) (id : R → K) (laws : IsTotalOrder cmp) where
    some_same : (x y : R) → Some x ≡ Some y → x ≡ y
    some_same x y e = cc

    equal_from : (o : Ordering) → is_eq o ≡ true → o ≡ Equal
    equal_from Less e = absurd (cc)
    equal_from Equal e = refl
    equal_from Greater e = absurd (cc)

    apart : (k x y : K) → cmp k x ≡ Equal → cmp k y ≡ Equal → cmp x y ≡ Less → ⊥
    apart k x y e f l =
        let g : cmp k y ≡ Less = laws.congr k x y e ∙ l in
        cc

    row_step : (o : Option R) (slots : List (Option R)) (t : ℕ) (ts : List ℕ) (k : K) (r : R) (i : ℕ) → get_or slots t None ≡ o → IsSome o → AreFilled slots ts
        → IsAscending cmp id (with_found o (rows_at slots ts)) → i < suc (length ts) → get_or slots (get_or (t ∷ ts) i 0) None ≡ Some r → is_eq (cmp k (id r)) ≡ true
        → ((j : ℕ) → IsAscending cmp id (rows_at slots ts) → j < length ts → get_or slots (get_or ts j 0) None ≡ Some r → row_of cmp id k (rows_at slots ts) ≡ Some r)
        → row_of cmp id k (with_found o (rows_at slots ts)) ≡ Some r
    row_step None slots t ts k r i is f g up lt e same more = absurd cc
    row_step (Some q) slots t ts k r zero is f g up lt e same more = let h : q ≡ r = some_same q r (sym is ∙ e) in rw (h, same) refl
    row_step (Some q) slots t ts k r (suc i) is f g up lt e same more = elim (is_eq (cmp k (id q))) as (λ b. is_eq (cmp k (id q)) ≡ b → (if b then Some q else row_of cmp id k (rows_at slots ts)) ≡ Some r) [
      | true ↦ λ h. absurd (apart k (id q) (id r) (equal_from _ h) (equal_from _ same) (before_slot cmp id laws (id q) slots ts i r g up.0 (omega arith) e))
      | false ↦ λ h. more i up.1 (omega arith) e
    ] refl

    pub row_at_slot : (slots : List (Option R)) (order : List ℕ) (k : K) (r : R) (i : ℕ) → AreFilled slots order → IsAscending cmp id (rows_at slots order) → i < length order
        → get_or slots (get_or order i 0) None ≡ Some r → is_eq (cmp k (id r)) ≡ true → row_of cmp id k (rows_at slots order) ≡ Some r
    row_at_slot slots [] k r i f up lt e same = absurd (omega arith)
    row_at_slot slots (t ∷ ts) k r i f up lt e same = row_step (get_or slots t None) slots t ts k r i refl f.0 f.1 up lt e same (λ j u l h. row_at_slot slots ts k r j f.1 u l h same)

    -- the row at a filled slot is found by its id
    pub row_whole : (slots : List (Option R)) (order : List ℕ) (k : K) (r : R) (s : ℕ) → AreFilled slots order → IsAscending cmp id (rows_at slots order) → AreOnce slots order
        → get_or slots s None ≡ Some r → is_eq (cmp k (id r)) ≡ true → row_of cmp id k (rows_at slots order) ≡ Some r
    row_whole slots order k r s f up once e same =
        let one = some_count (get_or slots s None) r (times s order) (once.once s) e in
        let h = place_of_slot s order (omega (arith, one)) in
        row_at_slot slots order k r h.0 f up h.1 (ap (λ t. get_or slots t None) h.2 ∙ e) same

    rising_step : (o : Option R) (slots : List (Option R)) (t : ℕ) (ts : List ℕ) (r q : R) → get_or slots t None ≡ o → IsSome o → AreFilled slots ts → IsAscending cmp id (with_found o (rows_at slots ts))
        → ((i j : ℕ) → IsAscending cmp id (rows_at slots ts) → i < j → j < length ts → get_or slots (get_or ts i 0) None ≡ Some r → get_or slots (get_or ts j 0) None ≡ Some q → cmp (id r) (id q) ≡ Less)
        → (i j : ℕ) → i < j → j < suc (length ts) → get_or slots (get_or (t ∷ ts) i 0) None ≡ Some r → get_or slots (get_or (t ∷ ts) j 0) None ≡ Some q → cmp (id r) (id q) ≡ Less
    rising_step None slots t ts r q is f g up more i j lt within e h = absurd cc
    rising_step (Some p) slots t ts r q is f g up more i zero lt within e h = absurd (omega arith)
    rising_step (Some p) slots t ts r q is f g up more zero (suc j) lt within e h = let same : p ≡ r = some_same p r (sym is ∙ e) in subst (λ (x : R). cmp (id x) (id q) ≡ Less) same (before_slot cmp id laws (id p) slots ts j q g up.0 (omega arith) h)
    rising_step (Some p) slots t ts r q is f g up more (suc i) (suc j) lt within e h = more i j up.1 (omega arith) (omega arith) e h

    -- ids rise with the places of their slots
    pub rising : (slots : List (Option R)) (order : List ℕ) (i j : ℕ) (r q : R) → AreFilled slots order → IsAscending cmp id (rows_at slots order) → i < j → j < length order
        → get_or slots (get_or order i 0) None ≡ Some r → get_or slots (get_or order j 0) None ≡ Some q → cmp (id r) (id q) ≡ Less
    rising slots [] i j r q f up lt within e h = absurd (omega arith)
    rising slots (t ∷ ts) i j r q f up lt within e h = rising_step (get_or slots t None) slots t ts r q refl f.0 f.1 up (λ a b u l w x y. rising slots ts a b r q f.1 u l w x y) i j lt within e h

    never_less : (x y : K) → cmp x y ≡ Equal → cmp x y ≡ Less → ⊥
    never_less x y e l = cc

    never_more : (x y : K) → cmp x y ≡ Equal → cmp y x ≡ Less → ⊥
    never_more x y e l = let g : cmp x y ≡ Greater = laws.antisymm x y ∙ ap ordering_reverse l in cc

    pub one_slot : (slots : List (Option R)) (order : List ℕ) (s t : ℕ) (r q : R) → AreFilled slots order → IsAscending cmp id (rows_at slots order) → AreOnce slots order
        → get_or slots s None ≡ Some r → get_or slots t None ≡ Some q → is_eq (cmp (id r) (id q)) ≡ true → s ≡ t
    one_slot slots order s t r q f up once e h same =
        let a = place_of_slot s order (omega (arith, some_count (get_or slots s None) r (times s order) (once.once s) e)) in
        let b = place_of_slot t order (omega (arith, some_count (get_or slots t None) q (times t order) (once.once t) h)) in
        let at = ap (λ x. get_or slots x None) a.2 ∙ e in
        let bt = ap (λ x. get_or slots x None) b.2 ∙ h in
        elim (cases_eq a.0 b.0) [
          | inl i ↦ sym a.2 ∙ ap (λ x. get_or order x 0) i ∙ b.2
          | inr n ↦ elim (cases_lt a.0 b.0) [
            | inl l ↦ absurd (never_less (id r) (id q) (equal_from _ same) (rising slots order a.0 b.0 r q f up l b.1 at bt))
            | inr m ↦ absurd (never_more (id r) (id q) (equal_from _ same) (rising slots order b.0 a.0 q r f up (omega (arith, m, n)) a.1 bt at))
          ]
        ]

    listed_step : (o : Option R) (slots : List (Option R)) (t : ℕ) (rows : List R) (k : K) (r : R) → get_or slots t None ≡ o → IsSome o
        → (row_of cmp id k rows ≡ Some r → (s : ℕ) × (get_or slots s None ≡ Some r)) → row_of cmp id k (with_found o rows) ≡ Some r → (s : ℕ) × (get_or slots s None ≡ Some r)
    listed_step None slots t rows k r is f more e = absurd cc
    listed_step (Some q) slots t rows k r is f more e = elim (is_eq (cmp k (id q))) as (λ b. (if b then Some q else row_of cmp id k rows) ≡ Some r → (s : ℕ) × (get_or slots s None ≡ Some r)) [
      | true ↦ λ h. (t, is ∙ h)
      | false ↦ λ h. more h
    ] e

    -- each row has a slot
    pub row_slot : (slots : List (Option R)) (order : List ℕ) (k : K) (r : R) → AreFilled slots order → row_of cmp id k (rows_at slots order) ≡ Some r → (s : ℕ) × (get_or slots s None ≡ Some r)
    row_slot slots [] k r f e = absurd (cc)
    row_slot slots (t ∷ ts) k r f e = listed_step (get_or slots t None) slots t (rows_at slots ts) k r refl f.0 (row_slot slots ts k r f.1) e

    -- the place of a slot whose row has this id
    pub found_slot : (slots : List (Option R)) (order : List ℕ) (k : K) (s : ℕ) (r : R) → AreFilled slots order → IsAscending cmp id (rows_at slots order) → AreOnce slots order
        → get_or slots s None ≡ Some r → is_eq (cmp k (id r)) ≡ true → (i : ℕ) × (get_or order i 0 ≡ s) × IsFound cmp id slots order k i
    found_slot slots order k s r f up once e same =
        let a = place_of_slot s order (omega (arith, some_count (get_or slots s None) r (times s order) (once.once s) e)) in
        let at : get_or slots (get_or order a.0 0) None ≡ Some r = ap (λ x. get_or slots x None) a.2 ∙ e in
        let rows = rows_at slots order in
        let here : get_or rows a.0 r ≡ r = some_same _ _ (sym (row_here slots order a.0 r f a.1) ∙ at) in
        let equal : cmp k (id r) ≡ Equal = equal_from _ same in
        let le : place_of cmp id k rows ≤ a.0 = place_here cmp id laws k rows a.0 r (rw (here, equal) refl) in
        let p = place_of cmp id k rows in (
          a.0,
          a.2,
          record {
            in_range = a.1;
            place = elim (cases_lt p a.0) [
              | inl l ↦ absurd (
                  let within : p < length rows = omega (arith, l, a.1, length-rows slots order f) in
                  let n = not_after cmp id laws k rows p r up (omega arith) within in
                  let less = rising slots order p a.0 (get_or rows p r) r f up l a.1 (row_here slots order p r f (omega (arith, l, a.1))) at in
                  let g : cmp k (id (get_or rows p r)) ≡ Greater = laws.congr k (id r) (id (get_or rows p r)) equal ∙ laws.antisymm (id r) (id (get_or rows p r)) ∙ ap ordering_reverse less in
                  cc)
              | inr m ↦ omega (arith, m, le)
            ];
            row = row_at_slot slots order k r a.0 f up a.1 at same ∙ sym at;
          },
        )
