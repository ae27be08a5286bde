-- Lists that are put in order item by item: what a filter leaves of them, and what comes after an item.
use Rattle.std.proofs.Common.{◌≡◌, ℕ, zero, suc, List, [], ◌∷◌, drop, filter, cond, Bool, true, false, ◌&&◌, if◌then◌else◌, Some, None, refl, sym, ap, ◌∙◌}
use Rattle.std.specs.Prelude.{⊤}
use Rattle.std.specs.List.{AllByRecursion, slice_get}
use Rattle.std.specs.Ordering.{is_eq, is_gt, ordering_reverse}
use Rattle.std.specs.Cmp.{IsTotalOrder}
use Rattle.std.specs.declared.cmp.Ordering.{Ordering}
use Rattle.std.specs.declared.cmp.Ordering.TheVariants.{Less, Equal, Greater}
use Rattle.qz_types.specs.Sorted.{row_of, put, IsBefore, IsAscending}
use Rattle.qz_types.proofs.Ascending.{IsAscending-put}
use Rattle.qz_tables.proofs.ByIds.{own_id}

module _ {X : Type 0} where
  pub All-filter : (P : X → Type 0) (q : X → Bool) (xs : List X) → AllByRecursion P xs → AllByRecursion P (filter q xs)
  All-filter P q [] all = tt
  All-filter P q (x ∷ xs) all = elim (q x) as (λ b. AllByRecursion P (cond b (x ∷ filter q xs) (filter q xs))) [
    | true ↦ (all.0, All-filter P q xs all.1)
    | false ↦ All-filter P q xs all.1
  ]

  pub All-at : (P : X → Type 0) (xs : List X) (n : ℕ) (x : X) → AllByRecursion P xs → Some x ≡ slice_get xs n → P x
  All-at P [] n x all e = absurd (cc)
  All-at P (y ∷ ys) zero x all e = let same : y ≡ x = cc in rw (sym same) all.0
  All-at P (y ∷ ys) (suc n) x all e = All-at P ys n x all.1 e

  filter-all : (p : X → Bool) (xs : List X) → AllByRecursion (λ x. p x ≡ true) xs → filter p xs ≡ xs
  filter-all p [] all = refl
  filter-all p (x ∷ xs) all = rw (all.0, filter-all p xs all.1) refl

  -- a test of two parts, one after the other
  pub filter-and : (p q : X → Bool) (xs : List X) → filter (λ x. p x && q x) xs ≡ filter q (filter p xs)
  filter-and p q [] = refl
  filter-and p q (x ∷ xs) = elim (p x) as (λ b. cond (b && q x) (x ∷ filter (λ y. p y && q y) xs) (filter (λ y. p y && q y) xs) ≡ filter q (cond b (x ∷ filter p xs) (filter p xs))) [
    | true ↦ rw (filter-and p q xs) refl
    | false ↦ filter-and p q xs
  ]

  pub filter-true : (xs : List X) → filter (λ _. true) xs ≡ xs
  filter-true [] = refl
  filter-true (x ∷ xs) = ap (λ ys. x ∷ ys) (filter-true xs)

  module _ {K : Type 0} (cmp : K → K → Ordering) (id : X → K) where
    before-filter : (k : K) (q : X → Bool) (xs : List X) → IsBefore cmp id k xs → IsBefore cmp id k (filter q xs)
    before-filter k q [] before = tt
    before-filter k q (x ∷ xs) before = elim (q x) as (λ b. IsBefore cmp id k (cond b (x ∷ filter q xs) (filter q xs))) [
      | true ↦ (before.0, before-filter k q xs before.1)
      | false ↦ before-filter k q xs before.1
    ]

    pub IsAscending-filter : (q : X → Bool) (xs : List X) → IsAscending cmp id xs → IsAscending cmp id (filter q xs)
    IsAscending-filter q [] up = tt
    IsAscending-filter q (x ∷ xs) up = elim (q x) as (λ b. IsAscending cmp id (cond b (x ∷ filter q xs) (filter q xs))) [
      | true ↦ (before-filter (id x) q xs up.0, IsAscending-filter q xs up.1)
      | false ↦ IsAscending-filter q xs up.1
    ]

  module _ (cmp : X → X → Ordering) where
    abbrev pub sorted : List X → List X
    sorted [] = []
    sorted (x ∷ xs) = put cmp (λ y. y) x (sorted xs)

    -- no two of them tie
    abbrev pub Apart : List X → Type 0
    Apart [] = ⊤
    Apart (x ∷ xs) = AllByRecursion (λ y. is_eq (cmp x y) ≡ false) xs × Apart xs

    pub All-put : (P : X → Type 0) (x : X) (xs : List X) → P x → AllByRecursion P xs → AllByRecursion P (put cmp (λ y. y) x xs)
    All-put P x [] one all = (one, tt)
    All-put P x (y ∷ ys) one all = elim (is_gt (cmp x y)) as (λ b. AllByRecursion P (if b then y ∷ put cmp (λ z. z) x ys else x ∷ y ∷ ys)) [
      | true ↦ (all.0, All-put P x ys one all.1)
      | false ↦ (one, all)
    ]

    pub All-sorted : (P : X → Type 0) (xs : List X) → AllByRecursion P xs → AllByRecursion P (sorted xs)
    All-sorted P [] all = tt
    All-sorted P (x ∷ xs) all = All-put P x (sorted xs) all.0 (All-sorted P xs all.1)

    no_tie : (x : X) (xs : List X) → AllByRecursion (λ y. is_eq (cmp x y) ≡ false) xs → row_of cmp (λ y. y) x xs ≡ None
    no_tie x [] all = refl
    no_tie x (y ∷ ys) all = rw all.0 (no_tie x ys all.1)

    module _ (laws : IsTotalOrder cmp) where
      pub ascending-sorted : (xs : List X) → Apart xs → IsAscending cmp (λ y. y) (sorted xs)
      ascending-sorted [] apart = tt
      ascending-sorted (x ∷ xs) apart =
          IsAscending-put cmp (λ y. y) laws x (sorted xs) (ascending-sorted xs apart.1) (no_tie x (sorted xs) (All-sorted (λ y. is_eq (cmp x y) ≡ false) xs apart.0))

      not_after : (o : Ordering) (t u v : X) → cmp t u ≡ o → is_gt o ≡ false → cmp u v ≡ Less → is_gt (cmp t v) ≡ false
      not_after Less t u v e n l = ap is_gt (laws.trans t u v e l)
      not_after Equal t u v e n l = ap is_gt (laws.congr t u v e ∙ l)
      not_after Greater t u v e n l = absurd (cc)

      none_after : (t u : X) (us : List X) → is_gt (cmp t u) ≡ false → IsBefore cmp (λ y. y) u us → AllByRecursion (λ v. is_gt (cmp t v) ≡ false) us
      none_after t u [] e b = tt
      none_after t u (v ∷ vs) e b = (not_after (cmp t u) t u v refl e b.0, none_after t u vs e b.1)

      put-first : (p : X → Bool) (t : X) (us : List X) → AllByRecursion (λ v. is_gt (cmp t v) ≡ false) us → put cmp (λ y. y) t (filter p us) ≡ t ∷ filter p us
      put-first p t [] all = refl
      put-first p t (u ∷ us) all = elim (p u) as (λ b. put cmp (λ y. y) t (cond b (u ∷ filter p us) (filter p us)) ≡ t ∷ cond b (u ∷ filter p us) (filter p us)) [
        | true ↦ rw all.0 refl
        | false ↦ put-first p t us all.1
      ]

      filter-put : (p : X → Bool) (t : X) (us : List X) → IsAscending cmp (λ y. y) us → filter p (put cmp (λ y. y) t us) ≡ (if p t then put cmp (λ y. y) t (filter p us) else filter p us)
      filter-put p t [] up = elim (p t) as (λ b. cond b (t ∷ []) [] ≡ (if b then t ∷ [] else [])) [ true ↦ refl | false ↦ refl ]
      filter-put p t (u ∷ us) up = elim (is_gt (cmp t u)) as (λ g. is_gt (cmp t u) ≡ g → filter p (if g then u ∷ put cmp (λ y. y) t us else t ∷ u ∷ us) ≡ (if p t then put cmp (λ y. y) t (filter p (u ∷ us)) else filter p (u ∷ us))) [
        | true ↦ λ e. goes_on e (filter-put p t us up.1)
        | false ↦ λ e. stops e
      ] refl
        where
          goes_on : is_gt (cmp t u) ≡ true → filter p (put cmp (λ y. y) t us) ≡ (if p t then put cmp (λ y. y) t (filter p us) else filter p us)
              → filter p (u ∷ put cmp (λ y. y) t us) ≡ (if p t then put cmp (λ y. y) t (filter p (u ∷ us)) else filter p (u ∷ us))
          goes_on e h = elim (p u) as (λ b. cond b (u ∷ filter p (put cmp (λ y. y) t us)) (filter p (put cmp (λ y. y) t us)) ≡ (if p t then put cmp (λ y. y) t (cond b (u ∷ filter p us) (filter p us)) else cond b (u ∷ filter p us) (filter p us))) [
            | true ↦ ap (λ ys. u ∷ ys) h ∙ elim (p t) as (λ c. u ∷ (if c then put cmp (λ y. y) t (filter p us) else filter p us) ≡ (if c then put cmp (λ y. y) t (u ∷ filter p us) else u ∷ filter p us)) [ true ↦ rw e refl | false ↦ refl ]
            | false ↦ h
          ]

          stops : is_gt (cmp t u) ≡ false → filter p (t ∷ u ∷ us) ≡ (if p t then put cmp (λ y. y) t (filter p (u ∷ us)) else filter p (u ∷ us))
          stops e = elim (p t) as (λ c. cond c (t ∷ filter p (u ∷ us)) (filter p (u ∷ us)) ≡ (if c then put cmp (λ y. y) t (filter p (u ∷ us)) else filter p (u ∷ us))) [
            | true ↦ sym (put-first p t (u ∷ us) (e, none_after t u us e up.0))
            | false ↦ refl
          ]

      -- a filter of the list in order is the filtered list in order
      pub filter-sorted : (p : X → Bool) (xs : List X) → Apart xs → filter p (sorted xs) ≡ sorted (filter p xs)
      filter-sorted p [] apart = refl
      filter-sorted p (x ∷ xs) apart = filter-put p x (sorted xs) (ascending-sorted xs apart.1) ∙ elim (p x) as (λ b. (if b then put cmp (λ y. y) x (filter p (sorted xs)) else filter p (sorted xs)) ≡ sorted (cond b (x ∷ filter p xs) (filter p xs))) [
        | true ↦ ap (put cmp (λ y. y) x) (filter-sorted p xs apart.1)
        | false ↦ filter-sorted p xs apart.1
      ]

      back : (x y : X) → cmp x y ≡ Less → is_gt (cmp y x) ≡ true
      back x y e = ap is_gt (laws.antisymm y x ∙ ap ordering_reverse e)

      all_after : (x : X) (ys : List X) → IsBefore cmp (λ y. y) x ys → AllByRecursion (λ y. is_gt (cmp y x) ≡ true) ys
      all_after x [] b = tt
      all_after x (y ∷ ys) b = (back x y b.0, all_after x ys b.1)

      before_at : (x t : X) (ys : List X) (n : ℕ) → IsBefore cmp (λ y. y) x ys → Some t ≡ slice_get ys n → cmp x t ≡ Less
      before_at x t [] n b e = absurd (cc)
      before_at x t (y ∷ ys) zero b e = let same : y ≡ t = cc in rw (sym same) b.0
      before_at x t (y ∷ ys) (suc n) b e = before_at x t ys n b.1 e

      -- what comes after an item is the rest
      pub after-drop : (xs : List X) (n : ℕ) (t : X) → IsAscending cmp (λ y. y) xs → Some t ≡ slice_get xs n → filter (λ u. is_gt (cmp u t)) xs ≡ drop (suc n) xs
      after-drop [] n t up e = absurd (cc)
      after-drop (x ∷ xs) zero t up e =
          let same : x ≡ t = cc in
          let own : is_gt (cmp t t) ≡ false = ap is_gt (own_id cmp (λ y. y) laws t) in
          rw (same, own) (filter-all (λ u. is_gt (cmp u t)) xs (all_after t xs (rw (sym same) up.0)))
      after-drop (x ∷ xs) (suc n) t up e = rw (before_at x t xs n up.0 e) (after-drop xs n t up.1 e)
