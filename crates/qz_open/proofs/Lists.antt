-- Members of lists.
use Rattle.std.proofs.Common.{◌≡◌, ◌⊎◌, inl, inr, ⊎_elim, ◌+◌, ◌≤◌, Bool, true, false, cond, List, [], ◌∷◌, map, filter, count_by, if◌then◌else◌, Some, refl, sym, ap, ◌∙◌, subst, arith}
use Rattle.std.specs.List.{AllByRecursion}
use Rattle.std.specs.Ordering.{is_gt, is_eq}
use Rattle.std.specs.declared.cmp.Ordering.{Ordering}
use Rattle.qz_types.specs.Sorted.{row_of, put}
use Rattle.qz_model.proofs.RowPoints.{count_by-cons}

abbrev pub Has : {A : Type 0} → A → List A → Type 0
Has x [] = ⊥
Has x (y ∷ ys) = (y ≡ x) ⊎ Has x ys

module _ {R : Type 0} where
  pub of_all : (P : R → Type 0) (xs : List R) (x : R) → AllByRecursion P xs → Has x xs → P x
  of_all P [] x all has = absurd has
  of_all P (y ∷ xs) x all (inl same) = subst P same all.0
  of_all P (y ∷ xs) x all (inr has) = of_all P xs x all.1 has

  pub in_filter : (p : R → Bool) (xs : List R) (x : R) → Has x xs → p x ≡ true → Has x (filter p xs)
  in_filter p [] x has holds = absurd has
  in_filter p (y ∷ ys) x (inl same) holds = rw (ap p same ∙ holds) (inl same)
  in_filter p (y ∷ ys) x (inr has) holds = elim (p y) as (λ b. Has x (cond b (y ∷ filter p ys) (filter p ys))) [
    | true ↦ inr (in_filter p ys x has holds)
    | false ↦ in_filter p ys x has holds
  ]

  pub in_map : (f : R → R) (xs : List R) (x : R) → Has x xs → Has (f x) (map f xs)
  in_map f [] x has = absurd has
  in_map f (y ∷ ys) x (inl same) = inl (ap f same)
  in_map f (y ∷ ys) x (inr has) = inr (in_map f ys x has)

  module _ {K : Type 0} (cmp : K → K → Ordering) (id : R → K) where
    pub in_put : (r : R) (xs : List R) (x : R) → Has x xs → Has x (put cmp id r xs)
    in_put r [] x has = absurd has
    in_put r (y ∷ ys) x has = elim (is_gt (cmp (id r) (id y))) as (λ b. Has x (if b then y ∷ put cmp id r ys else r ∷ y ∷ ys)) [
      | true ↦ ⊎_elim (λ same. inl same) (λ later. inr (in_put r ys x later)) has
      | false ↦ inr has
    ]

    pub of_row : (k : K) (xs : List R) (r : R) → row_of cmp id k xs ≡ Some r → Has r xs
    of_row k [] r found = absurd (cc)
    of_row k (x ∷ xs) r found = elim (is_eq (cmp k (id x))) as (λ b. (if b then Some x else row_of cmp id k xs) ≡ Some r → Has r (x ∷ xs)) [
      | true ↦ λ e. inl (cc)
      | false ↦ λ e. inr (of_row k xs r e)
    ] found

  -- one that passes is counted
  pub counted : (p : R → Bool) (xs : List R) (x : R) → Has x xs → p x ≡ true → 1 ≤ count_by p xs
  counted p [] x has passes = absurd has
  counted p (y ∷ ys) x (inl same) passes = rw (count_by-cons p y ys, ap p same ∙ passes) (omega arith)
  counted p (y ∷ ys) x (inr has) passes = rw (count_by-cons p y ys) (omega (arith, counted p ys x has passes))

  -- where no more than one passes, two that do are the same
  pub only_one : (p : R → Bool) (xs : List R) (x y : R) → count_by p xs ≤ 1 → Has x xs → Has y xs → p x ≡ true → p y ≡ true → x ≡ y
  only_one p [] x y few has also passes too = absurd has
  only_one p (z ∷ zs) x y few (inl same) (inl again) passes too = sym same ∙ again
  only_one p (z ∷ zs) x y few (inl same) (inr also) passes too =
      let two : count_by p (z ∷ zs) ≡ 1 + count_by p zs = count_by-cons p z zs ∙ ap (λ b. cond b 1 0 + count_by p zs) (ap p same ∙ passes) in
      absurd (omega (arith, two, few, counted p zs y also too))
  only_one p (z ∷ zs) x y few (inr has) (inl again) passes too =
      let two : count_by p (z ∷ zs) ≡ 1 + count_by p zs = count_by-cons p z zs ∙ ap (λ b. cond b 1 0 + count_by p zs) (ap p again ∙ too) in
      absurd (omega (arith, two, few, counted p zs x has passes))
  only_one p (z ∷ zs) x y few (inr has) (inr also) passes too = only_one p zs x y (omega (arith, count_by-cons p z zs, few)) has also passes too

  -- where all that pass one test pass another, no more do
  pub fewer : (p q : R → Bool) (xs : List R) → AllByRecursion (λ x. p x ≡ true → q x ≡ true) xs → count_by p xs ≤ count_by q xs
  fewer p q [] weaker = omega arith
  fewer p q (x ∷ xs) weaker = rw (count_by-cons p x xs, count_by-cons q x xs) (elim (p x) as (λ b. p x ≡ b → cond b 1 0 + count_by p xs ≤ cond (q x) 1 0 + count_by q xs) [
    | true ↦ λ passes. rw (weaker.0 passes) (omega (arith, fewer p q xs weaker.1))
    | false ↦ λ fails. omega (arith, fewer p q xs weaker.1)
  ] refl)
