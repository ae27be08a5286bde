-- Rows at filled slots.
use Rattle.std.proofs.lemmas.Bool.{cases_lt, cases_eq}
use Rattle.std.proofs.Common.{take, map, ◌++◌, inl, inr, ◌≡◌, ◌≢◌, ℕ, zero, suc, ◌<◌, ◌≤◌, List, [], ◌∷◌, length, get_or, set, Option, Some, None, refl, sym, ap, subst, ◌∙◌, arith}
use Rattle.std.specs.Prelude.{IsSome}
use Rattle.std.specs.List.{insert, remove, slice_get, AllByRecursion}
use Rattle.std.specs.Ordering.{ordering_reverse}
use Rattle.std.specs.Cmp.{IsTotalOrder}
use Rattle.std.specs.declared.cmp.Ordering.{Ordering}
use Rattle.std.specs.declared.cmp.Ordering.TheVariants.{Less}
use Rattle.qz_types.specs.Sorted.{IsBefore, IsAscending}
use Rattle.qz_tables.specs.Slots.{with_found, rows_at, AreFilled}

-- another slot stands at each place but i
abbrev pub Others : List ℕ → ℕ → Type 0
Others order i = (j : ℕ) → j < length order → j ≢ i → get_or order j 0 ≢ get_or order i 0

tail_others : (s : ℕ) (ss : List ℕ) (i : ℕ) → Others (s ∷ ss) (suc i) → Others ss i
tail_others s ss i o j lt differs same = o (suc j) (omega arith) (omega arith) same

removed_differ : (order : List ℕ) (i j : ℕ) → Others order i → i < length order → j < length (remove order i) → get_or (remove order i) j 0 ≢ get_or order i 0
removed_differ [] i j o lt within same = absurd (omega arith)
removed_differ (s ∷ ss) zero j o lt within same = o (suc j) (omega arith) (omega arith) same
removed_differ (s ∷ ss) (suc i) zero o lt within same = o 0 (omega arith) (omega arith) same
removed_differ (s ∷ ss) (suc i) (suc j) o lt within same = removed_differ ss i j (tail_others s ss i o) (omega arith) (omega arith) same

pub any_default : (order : List ℕ) (i d e : ℕ) → i < length order → get_or order i d ≡ get_or order i e
any_default [] i d e lt = absurd (omega arith)
any_default (s ∷ ss) zero d e lt = refl
any_default (s ∷ ss) (suc i) d e lt = any_default ss i d e (omega arith)

module _ {R : Type 0} where
  filled_some : (o : Option R) → IsSome o → (xs : List R) → length (with_found o xs) ≡ suc (length xs)
  filled_some None f xs = absurd cc
  filled_some (Some r) f xs = refl

  pub length-rows : (slots : List (Option R)) (order : List ℕ) → AreFilled slots order → length (rows_at slots order) ≡ length order
  length-rows slots [] f = refl
  length-rows slots (s ∷ ss) f = filled_some (get_or slots s None) f.0 (rows_at slots ss) ∙ ap suc (length-rows slots ss f.1)

  pub filled_at : (slots : List (Option R)) (order : List ℕ) (i : ℕ) → AreFilled slots order → i < length order → IsSome (get_or slots (get_or order i 0) None)
  filled_at slots [] i f lt = absurd (omega arith)
  filled_at slots (s ∷ ss) zero f lt = f.0
  filled_at slots (s ∷ ss) (suc i) f lt = filled_at slots ss i f.1 (omega arith)

  first_here : (o : Option R) (d : R) (xs : List R) → IsSome o → o ≡ Some (get_or (with_found o xs) 0 d)
  first_here None d xs f = absurd cc
  first_here (Some r) d xs f = refl

  next_here : (o : Option R) (d : R) (xs : List R) (i : ℕ) → IsSome o → get_or (with_found o xs) (suc i) d ≡ get_or xs i d
  next_here None d xs i f = absurd cc
  next_here (Some r) d xs i f = refl

  pub row_here : (slots : List (Option R)) (order : List ℕ) (i : ℕ) (d : R) → AreFilled slots order → i < length order → get_or slots (get_or order i 0) None ≡ Some (get_or (rows_at slots order) i d)
  row_here slots [] i d f lt = absurd (omega arith)
  row_here slots (s ∷ ss) zero d f lt = first_here _ d _ f.0
  row_here slots (s ∷ ss) (suc i) d f lt = row_here slots ss i d f.1 (omega arith) ∙ ap Some (sym (next_here _ d _ i f.0))

  nth_first : (o : Option R) (xs : List R) → IsSome o → slice_get (with_found o xs) 0 ≡ o
  nth_first None xs f = absurd cc
  nth_first (Some r) xs f = refl

  nth_next : (o : Option R) (xs : List R) (i : ℕ) → IsSome o → slice_get (with_found o xs) (suc i) ≡ slice_get xs i
  nth_next None xs i f = absurd cc
  nth_next (Some r) xs i f = refl

  -- the row at a place is that of the slot at this place
  pub nth_row : (slots : List (Option R)) (order : List ℕ) (i s : ℕ) → AreFilled slots order → i < length order → s ≡ get_or order i 0 → slice_get (rows_at slots order) i ≡ get_or slots s None
  nth_row slots [] i s f lt e = absurd (omega arith)
  nth_row slots (t ∷ ts) zero s f lt e = nth_first (get_or slots t None) _ f.0 ∙ ap (λ j. get_or slots j None) (sym e)
  nth_row slots (t ∷ ts) (suc i) s f lt e = nth_next (get_or slots t None) _ i f.0 ∙ nth_row slots ts i s f.1 (omega arith) e

  pub nth_none : (slots : List (Option R)) (order : List ℕ) (i : ℕ) → AreFilled slots order → length order ≤ i → None ≡ slice_get (rows_at slots order) i
  nth_none slots [] i f le = refl
  nth_none slots (t ∷ ts) zero f le = absurd (omega arith)
  nth_none slots (t ∷ ts) (suc i) f le = nth_none slots ts i f.1 (omega arith) ∙ sym (nth_next (get_or slots t None) (rows_at slots ts) i f.0)

  -- rows stay where their slots do
  abbrev pub Keep : List (Option R) → List (Option R) → List ℕ → Type 0
  Keep old new order = AllByRecursion (λ s. get_or new s None ≡ get_or old s None) order

  pub rows-kept : (old new : List (Option R)) (order : List ℕ) → Keep old new order → rows_at new order ≡ rows_at old order
  rows-kept old new [] k = refl
  rows-kept old new (s ∷ ss) k = rw (k.0, rows-kept old new ss k.1) refl

  pub filled-kept : (old new : List (Option R)) (order : List ℕ) → Keep old new order → AreFilled old order → AreFilled new order
  filled-kept old new [] k f = tt
  filled-kept old new (s ∷ ss) k f = (rw k.0 f.0, filled-kept old new ss k.1 f.1)

  some_none : (o : Option R) → IsSome o → o ≡ None → ⊥
  some_none None f e = cc
  some_none (Some r) f e = cc

  -- a slot that was vacant is none of these
  pub keep-vacant : (old new : List (Option R)) (order : List ℕ) (slot : ℕ) → AreFilled old order → get_or old slot None ≡ None
      → ((other : ℕ) → other ≢ slot → get_or new other None ≡ get_or old other None) → Keep old new order
  keep-vacant old new [] slot f vacant others = tt
  keep-vacant old new (s ∷ ss) slot f vacant others = (others s (λ e. some_none (get_or old s None) f.0 (ap (λ i. get_or old i None) e ∙ vacant)), keep-vacant old new ss slot f.1 vacant others)

  with_here : (o : Option R) (r : R) (xs : List R) → o ≡ Some r → with_found o xs ≡ r ∷ xs
  with_here o r xs e = rw e refl

  inserted_at : (o : Option R) (xs ys : List R) (i : ℕ) (r : R) → IsSome o → ys ≡ insert xs i r → with_found o ys ≡ insert (with_found o xs) (suc i) r
  inserted_at None xs ys i r f e = absurd cc
  inserted_at (Some q) xs ys i r f e = ap (λ zs. q ∷ zs) e

  pub rows-insert : (slots : List (Option R)) (order : List ℕ) (i slot : ℕ) (r : R) → AreFilled slots order → get_or slots slot None ≡ Some r → i ≤ length order
      → rows_at slots (insert order i slot) ≡ insert (rows_at slots order) i r
  rows-insert slots order zero slot r f e le = with_here _ r _ e
  rows-insert slots [] (suc i) slot r f e le = absurd (omega arith)
  rows-insert slots (s ∷ ss) (suc i) slot r f e le = inserted_at (get_or slots s None) _ _ i r f.0 (rows-insert slots ss i slot r f.1 e (omega arith))

  pub filled-insert : (slots : List (Option R)) (order : List ℕ) (i slot : ℕ) → AreFilled slots order → IsSome (get_or slots slot None) → i ≤ length order → AreFilled slots (insert order i slot)
  filled-insert slots order zero slot f e le = (e, f)
  filled-insert slots [] (suc i) slot f e le = absurd (omega arith)
  filled-insert slots (s ∷ ss) (suc i) slot f e le = (f.0, filled-insert slots ss i slot f.1 e (omega arith))

  removed_first : (o : Option R) (xs : List R) → IsSome o → xs ≡ remove (with_found o xs) 0
  removed_first None xs f = absurd cc
  removed_first (Some q) xs f = refl

  removed_at : (o : Option R) (xs ys : List R) (i : ℕ) → IsSome o → ys ≡ remove xs i → with_found o ys ≡ remove (with_found o xs) (suc i)
  removed_at None xs ys i f e = absurd cc
  removed_at (Some q) xs ys i f e = ap (λ zs. q ∷ zs) e

  pub rows-remove : (slots : List (Option R)) (order : List ℕ) (i : ℕ) → AreFilled slots order → i < length order → rows_at slots (remove order i) ≡ remove (rows_at slots order) i
  rows-remove slots [] i f lt = absurd (omega arith)
  rows-remove slots (s ∷ ss) zero f lt = removed_first (get_or slots s None) _ f.0
  rows-remove slots (s ∷ ss) (suc i) f lt = removed_at (get_or slots s None) _ _ i f.0 (rows-remove slots ss i f.1 (omega arith))

  pub filled-remove : (slots : List (Option R)) (order : List ℕ) (i : ℕ) → AreFilled slots order → i < length order → AreFilled slots (remove order i)
  filled-remove slots [] i f lt = absurd (omega arith)
  filled-remove slots (s ∷ ss) zero f lt = f.1
  filled-remove slots (s ∷ ss) (suc i) f lt = (f.0, filled-remove slots ss i f.1 (omega arith))

  module _ {K : Type 0} (cmp : K → K → Ordering) (id : R → K) (order_laws : IsTotalOrder cmp) where
    less_differs : (k : K) → cmp k k ≡ Less → ⊥
    less_differs k e = let f = order_laws.antisymm k k in let g = ap ordering_reverse e in cc

    slot_step : (o : Option R) (k : K) (slots : List (Option R)) (s : ℕ) (ss : List ℕ) (r : R) → get_or slots s None ≡ o → IsSome o → IsBefore cmp id k (with_found o (rows_at slots ss))
        → ((i : ℕ) → IsBefore cmp id k (rows_at slots ss) → i < length ss → get_or slots (get_or ss i 0) None ≡ Some r → cmp k (id r) ≡ Less)
        → (i : ℕ) → i < suc (length ss) → get_or slots (get_or (s ∷ ss) i 0) None ≡ Some r → cmp k (id r) ≡ Less
    slot_step None k slots s ss r is f b more i lt e = absurd cc
    slot_step (Some q) k slots s ss r is f b more zero lt e = let same : q ≡ r = cc in subst (λ (x : R). cmp k (id x) ≡ Less) same b.0
    slot_step (Some q) k slots s ss r is f b more (suc i) lt e = more i b.1 (omega arith) e

    pub before_slot : (k : K) (slots : List (Option R)) (order : List ℕ) (i : ℕ) (r : R) → AreFilled slots order → IsBefore cmp id k (rows_at slots order) → i < length order → get_or slots (get_or order i 0) None ≡ Some r → cmp k (id r) ≡ Less
    before_slot k slots [] i r f b lt e = absurd (omega arith)
    before_slot k slots (s ∷ ss) i r f b lt e = slot_step (get_or slots s None) k slots s ss r refl f.0 b (λ j c l h. before_slot k slots ss j r f.1 c l h) i lt e

    apart_step : (o : Option R) (slots : List (Option R)) (s : ℕ) (ss : List ℕ) → get_or slots s None ≡ o → IsSome o → AreFilled slots ss → IsAscending cmp id (with_found o (rows_at slots ss))
        → ((i j : ℕ) → IsAscending cmp id (rows_at slots ss) → i < j → j < length ss → get_or ss i 0 ≢ get_or ss j 0)
        → (i j : ℕ) → i < j → j < suc (length ss) → get_or (s ∷ ss) i 0 ≢ get_or (s ∷ ss) j 0
    apart_step None slots s ss is g f up more i j lt within same = absurd cc
    apart_step (Some q) slots s ss is g f up more i zero lt within same = absurd (omega arith)
    apart_step (Some q) slots s ss is g f up more zero (suc j) lt within same = less_differs (id q) (before_slot (id q) slots ss j q f up.0 (omega arith) (ap (λ i. get_or slots i None) (sym same) ∙ is))
    apart_step (Some q) slots s ss is g f up more (suc i) (suc j) lt within same = more i j up.1 (omega arith) (omega arith) same

    -- the slots differ, since the ids do
    pub apart : (slots : List (Option R)) (order : List ℕ) (i j : ℕ) → AreFilled slots order → IsAscending cmp id (rows_at slots order) → i < j → j < length order → get_or order i 0 ≢ get_or order j 0
    apart slots [] i j f up lt within same = absurd (omega arith)
    apart slots (s ∷ ss) i j f up lt within same = apart_step (get_or slots s None) slots s ss refl f.0 f.1 up (λ a b u l w h. apart slots ss a b f.1 u l w h) i j lt within same

    pub others-at : (slots : List (Option R)) (order : List ℕ) (i : ℕ) → AreFilled slots order → IsAscending cmp id (rows_at slots order) → i < length order → Others order i
    others-at slots order i f up within j l differs same = elim (cases_lt j i) [
      | inl below ↦ apart slots order j i f up below within same
      | inr above ↦ apart slots order i j f up (omega arith) l (sym same)
    ]

  -- a slot that stands at place i alone
  keep-others : (old new : List (Option R)) (order : List ℕ) (slot : ℕ) → ((j : ℕ) → j < length order → get_or order j 0 ≢ slot)
      → ((other : ℕ) → other ≢ slot → get_or new other None ≡ get_or old other None) → Keep old new order
  keep-others old new [] slot differ others = tt
  keep-others old new (s ∷ ss) slot differ others = (others s (λ e. differ 0 (omega arith) e), keep-others old new ss slot (λ j lt e. differ (suc j) (omega arith) e) others)

  set_first : (o : Option R) (r : R) (xs : List R) → IsSome o → r ∷ xs ≡ set (with_found o xs) 0 r
  set_first None r xs f = absurd cc
  set_first (Some q) r xs f = refl

  set_next : (o : Option R) (r : R) (xs ys : List R) (i : ℕ) → IsSome o → ys ≡ set xs i r → with_found o ys ≡ set (with_found o xs) (suc i) r
  set_next None r xs ys i f e = absurd cc
  set_next (Some q) r xs ys i f e = ap (λ zs. q ∷ zs) e

  -- a row written to the slot at place i
  pub rows-set : (old new : List (Option R)) (order : List ℕ) (i : ℕ) (r : R) → AreFilled old order → i < length order → Others order i
      → get_or new (get_or order i 0) None ≡ Some r
      → ((other : ℕ) → other ≢ get_or order i 0 → get_or new other None ≡ get_or old other None)
      → rows_at new order ≡ set (rows_at old order) i r
  rows-set old new [] i r f lt o here others = absurd (omega arith)
  rows-set old new (s ∷ ss) zero r f lt o here others =
      let k : Keep old new ss = keep-others old new ss s (λ j l e. o (suc j) (omega arith) (omega arith) e) others in
      rw (here, rows-kept old new ss k) (set_first (get_or old s None) r _ f.0)
  rows-set old new (s ∷ ss) (suc i) r f lt o here others =
      rw (others s (λ e. o 0 (omega arith) (omega arith) e)) (set_next (get_or old s None) r _ _ i f.0 (rows-set old new ss i r f.1 (omega arith) (tail_others s ss i o) here others))

  pub filled-set : (old new : List (Option R)) (order : List ℕ) (slot : ℕ) (r : R) → AreFilled old order
      → get_or new slot None ≡ Some r → ((other : ℕ) → other ≢ slot → get_or new other None ≡ get_or old other None) → AreFilled new order
  filled-set old new [] slot r f here others = tt
  filled-set old new (s ∷ ss) slot r f here others = (
    elim (cases_eq s slot) [
      | inl same ↦ rw (ap (λ q. get_or new q None) same ∙ here) refl
      | inr differs ↦ rw (others s differs) f.0
    ],
    filled-set old new ss slot r f.1 here others,
  )

  -- the slot at place i is taken out of the order, and then emptied
  pub keep-removed : (old new : List (Option R)) (order : List ℕ) (i : ℕ) → Others order i → i < length order
      → ((other : ℕ) → other ≢ get_or order i 0 → get_or new other None ≡ get_or old other None) → Keep old new (remove order i)
  keep-removed old new order i o lt others = keep-others old new (remove order i) (get_or order i 0) (λ j l. removed_differ order i j o lt l) others

found_append : {R : Type 0} (o : Option R) (xs ys : List R) → with_found o (xs ++ ys) ≡ with_found o xs ++ ys
found_append None xs ys = refl
found_append (Some r) xs ys = refl

pub map_snoc : {A B : Type 0} (f : A → B) (xs : List A) (y : A) → map f (xs ++ y ∷ []) ≡ map f xs ++ f y ∷ []
map_snoc f [] y = refl
map_snoc f (x ∷ xs) y = ap (λ zs. f x ∷ zs) (map_snoc f xs y)

pub rows_take : {R : Type 0} (slots : List (Option R)) (order : List ℕ) (i : ℕ) (r : R) → i < length order → get_or slots (get_or order i 0) None ≡ Some r
    → rows_at slots (take (suc i) order) ≡ rows_at slots (take i order) ++ r ∷ []
rows_take slots [] i r lt e = absurd (omega arith)
rows_take slots (s ∷ ss) zero r lt e = rw e refl
rows_take slots (s ∷ ss) (suc i) r lt e = ap (with_found (get_or slots s None)) (rows_take slots ss i r (omega arith) e) ∙ found_append (get_or slots s None) (rows_at slots (take i ss)) (r ∷ [])

pub rows_at-append : {R : Type 0} (slots : List (Option R)) (a b : List ℕ) → rows_at slots (a ++ b) ≡ rows_at slots a ++ rows_at slots b
rows_at-append slots [] b = refl
rows_at-append slots (s ∷ a) b = ap (with_found (get_or slots s None)) (rows_at-append slots a b) ∙ found_append (get_or slots s None) (rows_at slots a) (rows_at slots b)

slot_is : (xs : List ℕ) (i s : ℕ) → slice_get xs i ≡ Some s → (i < length xs) × (s ≡ get_or xs i 0)
slot_is [] i s e = absurd (cc)
slot_is (x ∷ xs) zero s e = (omega arith, cc)
slot_is (x ∷ xs) (suc i) s e = let h = slot_is xs i s e in (omega (arith, h.0), h.1)

pub nth_slot : {R : Type 0} (slots : List (Option R)) (order : List ℕ) (i s : ℕ) → AreFilled slots order → slice_get order i ≡ Some s → slice_get (rows_at slots order) i ≡ get_or slots s None
nth_slot slots order i s f e = let h = slot_is order i s e in nth_row slots order i s f h.0 h.1

pub slot_at : (xs : List ℕ) (i s : ℕ) → i < length xs → get_or xs i 0 ≡ s → slice_get xs i ≡ Some s
slot_at [] i s lt e = absurd (omega arith)
slot_at (x ∷ xs) zero s lt e = ap Some e
slot_at (x ∷ xs) (suc i) s lt e = slot_at xs i s (omega arith) e
