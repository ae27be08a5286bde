-- Counts over lists that are appended, mapped or filtered.
use Rattle.std.proofs.Common.{◌≡◌, ◌+◌, ◌≤◌, Bool, true, false, cond, ◌&&◌, ◌||◌, List, [], ◌∷◌, ◌++◌, map, filter, count_by, refl, arith}
use Rattle.std.specs.List.{AllByRecursion, list_any}
use Rattle.std.proofs.lemmas.List.Sums.{sum_by-append}
use Rattle.qz_model.proofs.RowPoints.{count_by-cons}

module _ {R : Type 0} where
  pub count_by-append : (p : R → Bool) (xs ys : List R) → count_by p (xs ++ ys) ≡ count_by p xs + count_by p ys
  count_by-append p xs ys = sum_by-append (λ x. cond (p x) 1 0) xs ys

  -- of those that a filter keeps, those are counted that pass both tests
  pub count_by-both : (p q : R → Bool) (xs : List R) → count_by p (filter q xs) ≡ count_by (λ x. q x && p x) xs
  count_by-both p q [] = refl
  count_by-both p q (x ∷ xs) = rw (count_by-cons (λ y. q y && p y) x xs) (elim (q x) as (λ b. count_by p (cond b (x ∷ filter q xs) (filter q xs)) ≡ cond (b && p x) 1 0 + count_by (λ y. q y && p y) xs) [
    | true ↦ rw (count_by-cons p x (filter q xs), count_by-both p q xs) refl
    | false ↦ omega (arith, count_by-both p q xs)
  ])

  pub count_by-same : (p q : R → Bool) (xs : List R) → AllByRecursion (λ x. p x ≡ q x) xs → count_by p xs ≡ count_by q xs
  count_by-same p q [] same = refl
  count_by-same p q (x ∷ xs) same = rw (count_by-cons p x xs, count_by-cons q x xs, same.0, count_by-same p q xs same.1) refl

  -- where one test passes no more than another
  pub count_by-fewer : (p q : R → Bool) (xs : List R) → ((x : R) → p x ≡ true → q x ≡ true) → count_by p xs ≤ count_by q xs
  count_by-fewer p q [] weaker = omega arith
  count_by-fewer p q (x ∷ xs) weaker = rw (count_by-cons p x xs, count_by-cons q x xs) (elim (p x) as (λ b. p x ≡ b → cond b 1 0 + count_by p xs ≤ cond (q x) 1 0 + count_by q xs) [
    | true ↦ λ passes. rw (weaker x passes) (omega (arith, count_by-fewer p q xs weaker))
    | false ↦ λ fails. omega (arith, count_by-fewer p q xs weaker)
  ] refl)

  -- one that passes has what all have
  pub one_that_passes : (P : R → Type 0) (p : R → Bool) (xs : List R) → AllByRecursion P xs → list_any p xs ≡ true → (x : R) × (p x ≡ true) × P x
  one_that_passes P p [] all any = absurd (cc)
  one_that_passes P p (x ∷ xs) all any = elim (p x) as (λ b. p x ≡ b → (b || list_any p xs) ≡ true → (y : R) × (p y ≡ true) × P y) [
    | true ↦ λ passes some. (x, passes, all.0)
    | false ↦ λ fails some. one_that_passes P p xs all.1 some
  ] refl any

  pub All-append : (P : R → Type 0) (xs ys : List R) → AllByRecursion P xs → AllByRecursion P ys → AllByRecursion P (xs ++ ys)
  All-append P [] ys front back = back
  All-append P (x ∷ xs) ys front back = (front.0, All-append P xs ys front.1 back)

module _ {R S : Type 0} where
  pub count_by-mapped : (p : S → Bool) (f : R → S) (xs : List R) → count_by p (map f xs) ≡ count_by (λ x. p (f x)) xs
  count_by-mapped p f [] = refl
  count_by-mapped p f (x ∷ xs) = rw (count_by-cons p (f x) (map f xs), count_by-cons (λ y. p (f y)) x xs, count_by-mapped p f xs) refl

  pub All-mapped : (P : S → Type 0) (f : R → S) (xs : List R) → AllByRecursion (λ x. P (f x)) xs → AllByRecursion P (map f xs)
  All-mapped P f [] all = tt
  All-mapped P f (x ∷ xs) all = (all.0, All-mapped P f xs all.1)
