-- Edits by ids keep ids in order, and are edits at the id's place.
use Rattle.std.proofs.Common.{◌≡◌, ℕ, suc, ◌<◌, List, [], ◌∷◌, length, get_or, set, map, cond, not, true, false, if◌then◌else◌, Some, None, refl, sym, ap, ◌∙◌, arith}
use Rattle.std.specs.List.{remove}
use Rattle.std.specs.Ordering.{is_eq, is_gt, ordering_reverse}
use Rattle.std.specs.Cmp.{IsTotalOrder}
use Rattle.std.specs.declared.cmp.Ordering.{Ordering}
use Rattle.std.specs.declared.cmp.Ordering.TheVariants.{Less, Equal, Greater}
use Rattle.qz_types.specs.Sorted.{place_of, row_of, put, IsBefore, IsAscending}
use Rattle.qz_tables.specs.Ids.{changed_at, without}

module _ {R K : Type 0} (cmp : K → K → Ordering) (id : R → K) where
  -- an id before all rows is none of theirs
  pub changed_at-before : (k : K) (f : R → R) (xs : List R) → IsBefore cmp id k xs → changed_at cmp id k f xs ≡ xs
  changed_at-before k f [] b = refl
  changed_at-before k f (x ∷ xs) b = rw (b.0, changed_at-before k f xs b.1) refl

  pub without-before : (k : K) (xs : List R) → IsBefore cmp id k xs → without cmp id k xs ≡ xs
  without-before k [] b = refl
  without-before k (x ∷ xs) b = rw (b.0, without-before k xs b.1) refl

  before-without : (j k : K) (xs : List R) → IsBefore cmp id j xs → IsBefore cmp id j (without cmp id k xs)
  before-without j k [] b = tt
  before-without j k (x ∷ xs) b = elim (not (is_eq (cmp k (id x)))) as (λ t. IsBefore cmp id j (cond t (x ∷ without cmp id k xs) (without cmp id k xs))) [
    | true ↦ (b.0, before-without j k xs b.1)
    | false ↦ before-without j k xs b.1
  ]

  pub IsAscending-without : (k : K) (xs : List R) → IsAscending cmp id xs → IsAscending cmp id (without cmp id k xs)
  IsAscending-without k [] up = tt
  IsAscending-without k (x ∷ xs) up = elim (not (is_eq (cmp k (id x)))) as (λ t. IsAscending cmp id (cond t (x ∷ without cmp id k xs) (without cmp id k xs))) [
    | true ↦ (before-without (id x) k xs up.0, IsAscending-without k xs up.1)
    | false ↦ IsAscending-without k xs up.1
  ]

  -- an id that no row has
  pub changed_at-absent : (k : K) (f : R → R) (xs : List R) → row_of cmp id k xs ≡ None → changed_at cmp id k f xs ≡ xs
  changed_at-absent k f [] e = refl
  changed_at-absent k f (x ∷ xs) e = elim (is_eq (cmp k (id x))) as (λ b. (if b then Some x else row_of cmp id k xs) ≡ None → (if b then f x else x) ∷ changed_at cmp id k f xs ≡ x ∷ xs) [
    | true ↦ λ h. absurd (cc)
    | false ↦ λ h. ap (λ ys. x ∷ ys) (changed_at-absent k f xs h)
  ] e

  pub without-absent : (k : K) (xs : List R) → row_of cmp id k xs ≡ None → without cmp id k xs ≡ xs
  without-absent k [] e = refl
  without-absent k (x ∷ xs) e = elim (is_eq (cmp k (id x))) as (λ b. (if b then Some x else row_of cmp id k xs) ≡ None → cond (not b) (x ∷ without cmp id k xs) (without cmp id k xs) ≡ x ∷ xs) [
    | true ↦ λ h. absurd (cc)
    | false ↦ λ h. ap (λ ys. x ∷ ys) (without-absent k xs h)
  ] e

  module _ (laws : IsTotalOrder cmp) where
    before-equal : (k y z : K) → cmp k z ≡ Less → cmp y z ≡ Equal → cmp k y ≡ Less
    before-equal k y z l e =
        let a : cmp y k ≡ cmp z k = laws.congr y z k e in
        let b : cmp z k ≡ Greater = laws.antisymm z k ∙ ap ordering_reverse l in
        laws.antisymm k y ∙ ap ordering_reverse (a ∙ b)

    pub before-same : (j k : K) (xs : List R) → cmp j k ≡ Equal → IsBefore cmp id k xs → IsBefore cmp id j xs
    before-same j k [] e b = tt
    before-same j k (x ∷ xs) e b = (laws.congr j k (id x) e ∙ b.0, before-same j k xs e b.1)

    before-map : (k : K) (g : R → R) (xs : List R) → ((x : R) → cmp (id (g x)) (id x) ≡ Equal) → IsBefore cmp id k xs → IsBefore cmp id k (map g xs)
    before-map k g [] keeps b = tt
    before-map k g (x ∷ xs) keeps b = (before-equal k (id (g x)) (id x) b.0 (keeps x), before-map k g xs keeps b.1)

    -- a map that keeps ids keeps their order
    pub IsAscending-map : (g : R → R) (xs : List R) → ((x : R) → cmp (id (g x)) (id x) ≡ Equal) → IsAscending cmp id xs → IsAscending cmp id (map g xs)
    IsAscending-map g [] keeps up = tt
    IsAscending-map g (x ∷ xs) keeps up =
        (before-same (id (g x)) (id x) (map g xs) (keeps x) (before-map (id x) g xs keeps up.0), IsAscending-map g xs keeps up.1)

    tied : (o : Ordering) → o ≡ ordering_reverse o → o ≡ Equal
    tied Less e = absurd (cc)
    tied Equal e = refl
    tied Greater e = absurd (cc)

    pub own_id : (k : K) → cmp k k ≡ Equal
    own_id k = tied (cmp k k) (laws.antisymm k k)

    equal_from : (o : Ordering) → is_eq o ≡ true → o ≡ Equal
    equal_from Less e = absurd (cc)
    equal_from Equal e = refl
    equal_from Greater e = absurd (cc)

    pub IsAscending-changed : (k : K) (f : R → R) (xs : List R) → ((x : R) → cmp k (id x) ≡ Equal → cmp (id (f x)) (id x) ≡ Equal) → IsAscending cmp id xs → IsAscending cmp id (changed_at cmp id k f xs)
    IsAscending-changed k f xs keeps up = IsAscending-map (λ x. if is_eq (cmp k (id x)) then f x else x) xs
        (λ x. elim (is_eq (cmp k (id x))) as (λ b. is_eq (cmp k (id x)) ≡ b → cmp (id (if b then f x else x)) (id x) ≡ Equal) [
          | true ↦ λ e. keeps x (equal_from _ e)
          | false ↦ λ e. own_id (id x)
        ] refl) up

    -- an edit at the place where the id stands is one by the id
    set_step : (o : Ordering) (k : K) (f : R → R) (x d : R) (xs : List R) (n : ℕ) → cmp k (id x) ≡ o
        → IsBefore cmp id (id x) xs
        → (n < length xs → is_eq (cmp k (id (get_or xs n d))) ≡ true → set xs n (f (get_or xs n d)) ≡ changed_at cmp id k f xs)
        → (if is_gt o then suc n else 0) < suc (length xs)
        → is_eq (cmp k (id (get_or (x ∷ xs) (if is_gt o then suc n else 0) d))) ≡ true
        → set (x ∷ xs) (if is_gt o then suc n else 0) (f (get_or (x ∷ xs) (if is_gt o then suc n else 0) d)) ≡ (if is_eq o then f x else x) ∷ changed_at cmp id k f xs
    set_step Less k f x d xs n e b more lt same = absurd (cc)
    set_step Equal k f x d xs n e b more lt same = ap (λ ys. f x ∷ ys) (sym (changed_at-before k f xs (before-same k (id x) xs e b)))
    set_step Greater k f x d xs n e b more lt same = ap (λ ys. x ∷ ys) (more (omega arith) same)

    pub set-place : (k : K) (f : R → R) (xs : List R) (d : R) → IsAscending cmp id xs → place_of cmp id k xs < length xs
        → is_eq (cmp k (id (get_or xs (place_of cmp id k xs) d))) ≡ true
        → set xs (place_of cmp id k xs) (f (get_or xs (place_of cmp id k xs) d)) ≡ changed_at cmp id k f xs
    set-place k f [] d up lt same = absurd (omega arith)
    set-place k f (x ∷ xs) d up lt same = set_step (cmp k (id x)) k f x d xs _ refl up.0 (set-place k f xs d up.1) lt same

    remove_step : (o : Ordering) (k : K) (x d : R) (xs : List R) (n : ℕ) → cmp k (id x) ≡ o
        → IsBefore cmp id (id x) xs
        → (n < length xs → is_eq (cmp k (id (get_or xs n d))) ≡ true → remove xs n ≡ without cmp id k xs)
        → (if is_gt o then suc n else 0) < suc (length xs)
        → is_eq (cmp k (id (get_or (x ∷ xs) (if is_gt o then suc n else 0) d))) ≡ true
        → remove (x ∷ xs) (if is_gt o then suc n else 0) ≡ cond (not (is_eq o)) (x ∷ without cmp id k xs) (without cmp id k xs)
    remove_step Less k x d xs n e b more lt same = absurd (cc)
    remove_step Equal k x d xs n e b more lt same = sym (without-before k xs (before-same k (id x) xs e b))
    remove_step Greater k x d xs n e b more lt same = ap (λ ys. x ∷ ys) (more (omega arith) same)

    pub remove-place : (k : K) (xs : List R) (d : R) → IsAscending cmp id xs → place_of cmp id k xs < length xs
        → is_eq (cmp k (id (get_or xs (place_of cmp id k xs) d))) ≡ true → remove xs (place_of cmp id k xs) ≡ without cmp id k xs
    remove-place k [] d up lt same = absurd (omega arith)
    remove-place k (x ∷ xs) d up lt same = remove_step (cmp k (id x)) k x d xs _ refl up.0 (remove-place k xs d up.1) lt same

    put-before : (r : R) (xs : List R) → IsBefore cmp id (id r) xs → put cmp id r xs ≡ r ∷ xs
    put-before r [] b = refl
    put-before r (x ∷ xs) b = rw b.0 refl

    absent_before : (k : K) (xs : List R) → IsBefore cmp id k xs → row_of cmp id k xs ≡ None
    absent_before k [] b = refl
    absent_before k (x ∷ xs) b = rw b.0 (absent_before k xs b.1)

    before_further : (k y : K) (xs : List R) → cmp k y ≡ Less → IsBefore cmp id y xs → IsBefore cmp id k xs
    before_further k y [] e b = tt
    before_further k y (x ∷ xs) e b = (laws.trans k y (id x) e b.0, before_further k y xs e b.1)

    put_step : (o : Ordering) (r q x : R) (xs : List R) → cmp (id r) (id x) ≡ o
        → IsBefore cmp id (id x) xs
        → (row_of cmp id (id r) xs ≡ Some q → put cmp id r (without cmp id (id r) xs) ≡ changed_at cmp id (id r) (λ _. r) xs)
        → (if is_eq o then Some x else row_of cmp id (id r) xs) ≡ Some q
        → put cmp id r (cond (not (is_eq o)) (x ∷ without cmp id (id r) xs) (without cmp id (id r) xs)) ≡ (if is_eq o then r else x) ∷ changed_at cmp id (id r) (λ _. r) xs
    put_step Less r q x xs e b more found = absurd (let n = absent_before (id r) xs (before_further (id r) (id x) xs e b) in cc)
    put_step Equal r q x xs e b more found =
        let before = before-same (id r) (id x) xs e b in
        ap (put cmp id r) (without-before (id r) xs before) ∙ put-before r xs before ∙ ap (λ ys. r ∷ ys) (sym (changed_at-before (id r) (λ _. r) xs before))
    put_step Greater r q x xs e b more found = rw e (ap (λ ys. x ∷ ys) (more found))

    -- a row that is taken out and put in again
    pub put-without : (r q : R) (xs : List R) → IsAscending cmp id xs → row_of cmp id (id r) xs ≡ Some q → put cmp id r (without cmp id (id r) xs) ≡ changed_at cmp id (id r) (λ _. r) xs
    put-without r q [] up found = absurd (cc)
    put-without r q (x ∷ xs) up found = put_step (cmp (id r) (id x)) r q x xs refl up.0 (put-without r q xs up.1) found

  pub absent-without : (k : K) (xs : List R) → row_of cmp id k (without cmp id k xs) ≡ None
  absent-without k [] = refl
  absent-without k (x ∷ xs) = elim (is_eq (cmp k (id x))) as (λ b. is_eq (cmp k (id x)) ≡ b → row_of cmp id k (cond (not b) (x ∷ without cmp id k xs) (without cmp id k xs)) ≡ None) [
    | true ↦ λ e. absent-without k xs
    | false ↦ λ e. rw e (absent-without k xs)
  ] refl

  some_same : (x y : R) → Some x ≡ Some y → x ≡ y
  some_same x y e = cc

  -- the row that is found has the id
  pub found_id : (k : K) (r : R) (xs : List R) → row_of cmp id k xs ≡ Some r → is_eq (cmp k (id r)) ≡ true
  found_id k r [] e = absurd (cc)
  found_id k r (x ∷ xs) e = elim (is_eq (cmp k (id x))) as (λ b. is_eq (cmp k (id x)) ≡ b → (if b then Some x else row_of cmp id k xs) ≡ Some r → is_eq (cmp k (id r)) ≡ true) [
    | true ↦ λ is h. ap (λ y. is_eq (cmp k (id y))) (sym (some_same x r h)) ∙ is
    | false ↦ λ is h. found_id k r xs h
  ] refl e
