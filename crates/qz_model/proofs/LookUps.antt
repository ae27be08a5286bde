-- Look-ups in rows that are in the order of their ids, after edits.
use Rattle.std.proofs.Common.{◌≡◌, ◌+◌, ◌≤◌, Bool, true, false, cond, List, [], ◌∷◌, length, map, filter, count_by, Some, None, IsSome, option_map, refl, sym, ap, ◌∙◌, subst, arith, if◌then◌else◌}
use Rattle.std.specs.List.{AllByRecursion}
use Rattle.std.specs.Cmp.{IsTotalOrder}
use Rattle.std.specs.Ordering.{is_gt, is_eq, ordering_reverse}
use Rattle.std.specs.declared.cmp.Ordering.{Ordering}
use Rattle.std.specs.declared.cmp.Ordering.TheVariants.{Less, Equal, Greater}
use Rattle.std.proofs.lemmas.Cmp.{tied_itself}
use Rattle.qz_types.specs.Sorted.{row_of, put, IsBefore, IsAscending}
use Rattle.qz_model.proofs.RowPoints.{All-weaker, All-both, All-filter, count_by-cons, count_by-none, none_from_count, length-filter_le}

pub equal_from : (o : Ordering) → is_eq o ≡ true → o ≡ Equal
equal_from Less e = absurd (cc)
equal_from Equal e = refl
equal_from Greater e = absurd (cc)

module _ {R K : Type 0} (cmp : K → K → Ordering) (id : R → K) where
  -- what holds of each row holds of the one that is found
  pub All-row_of : (P : R → Type 0) (k : K) (r : R) (xs : List R) → AllByRecursion P xs → row_of cmp id k xs ≡ Some r → P r
  All-row_of P k r [] all found = absurd (cc)
  All-row_of P k r (x ∷ xs) all found = elim (is_eq (cmp k (id x))) as (λ b. (if b then Some x else row_of cmp id k xs) ≡ Some r → P r) [
    | true ↦ λ e. let same : x ≡ r = cc in subst P same all.0
    | false ↦ λ e. All-row_of P k r xs all.1 e
  ] found

  -- the row that is found has the id
  pub row_of-id : (k : K) (r : R) (xs : List R) → row_of cmp id k xs ≡ Some r → is_eq (cmp k (id r)) ≡ true
  row_of-id k r [] found = absurd (cc)
  row_of-id k r (x ∷ xs) found = elim (is_eq (cmp k (id x))) as (λ b. is_eq (cmp k (id x)) ≡ b → (if b then Some x else row_of cmp id k xs) ≡ Some r → is_eq (cmp k (id r)) ≡ true) [
    | true ↦ λ is e. let same : x ≡ r = cc in subst (λ y. is_eq (cmp k (id y)) ≡ true) same is
    | false ↦ λ is e. row_of-id k r xs e
  ] refl found

  -- an id that no row has
  pub row_of_none : (k : K) (xs : List R) → AllByRecursion (λ x. is_eq (cmp k (id x)) ≡ false) xs → row_of cmp id k xs ≡ None
  row_of_none k [] absent = refl
  row_of_none k (x ∷ xs) absent = rw absent.0 (row_of_none k xs absent.1)

  pub none_of_row : (k : K) (xs : List R) → row_of cmp id k xs ≡ None → AllByRecursion (λ x. is_eq (cmp k (id x)) ≡ false) xs
  none_of_row k [] absent = tt
  none_of_row k (x ∷ xs) absent = elim (is_eq (cmp k (id x))) as (λ b. (if b then Some x else row_of cmp id k xs) ≡ None → (b ≡ false) × AllByRecursion (λ y. is_eq (cmp k (id y)) ≡ false) xs) [
    | true ↦ λ e. absurd (cc)
    | false ↦ λ e. (refl, none_of_row k xs e)
  ] absent

  -- after a map that keeps ids
  pub row_of-map : (k : K) (f : R → R) (xs : List R) → ((x : R) → id (f x) ≡ id x) → row_of cmp id k (map f xs) ≡ option_map f (row_of cmp id k xs)
  row_of-map k f [] keeps = refl
  row_of-map k f (x ∷ xs) keeps = rw (keeps x) (elim (is_eq (cmp k (id x))) as (λ b. (if b then Some (f x) else row_of cmp id k (map f xs)) ≡ option_map f (if b then Some x else row_of cmp id k xs)) [
    | true ↦ refl
    | false ↦ row_of-map k f xs keeps
  ])

  -- after a row of another id was put
  pub row_of-put : (k : K) (r : R) (xs : List R) → is_eq (cmp k (id r)) ≡ false → row_of cmp id k (put cmp id r xs) ≡ row_of cmp id k xs
  row_of-put k r [] other = rw other refl
  row_of-put k r (x ∷ xs) other = elim (is_gt (cmp (id r) (id x))) as (λ b. row_of cmp id k (if b then x ∷ put cmp id r xs else r ∷ x ∷ xs) ≡ row_of cmp id k (x ∷ xs)) [
    | true ↦ rw (row_of-put k r xs other) refl
    | false ↦ rw other refl
  ]

  -- after a filter that keeps the rows of this id
  pub row_of-filter : (k : K) (q : R → Bool) (xs : List R) → AllByRecursion (λ x. is_eq (cmp k (id x)) ≡ true → q x ≡ true) xs → row_of cmp id k (filter q xs) ≡ row_of cmp id k xs
  row_of-filter k q [] keeps = refl
  row_of-filter k q (x ∷ xs) keeps = elim (q x) as (λ b. q x ≡ b → row_of cmp id k (cond b (x ∷ filter q xs) (filter q xs)) ≡ row_of cmp id k (x ∷ xs)) [
    | true ↦ λ e. rw (row_of-filter k q xs keeps.1) refl
    | false ↦ λ e. elim (is_eq (cmp k (id x))) as (λ b. (b ≡ true → q x ≡ true) → row_of cmp id k (filter q xs) ≡ (if b then Some x else row_of cmp id k xs)) [
      | true ↦ λ kept. let yes : q x ≡ true = kept refl in absurd (cc)
      | false ↦ λ kept. row_of-filter k q xs keeps.1
    ] keeps.0
  ] refl

  pub row_of-filter_none : (k : K) (q : R → Bool) (xs : List R) → row_of cmp id k xs ≡ None → row_of cmp id k (filter q xs) ≡ None
  row_of-filter_none k q xs absent =
      row_of_none k (filter q xs) (All-filter (λ x. is_eq (cmp k (id x)) ≡ false) q xs (All-weaker (λ x. is_eq (cmp k (id x)) ≡ false) (λ x. q x ≡ true → is_eq (cmp k (id x)) ≡ false) xs (λ x no passes. no) (none_of_row k xs absent)))

  -- a row that is found, and is left out by a filter, leaves room
  pub length-filter_found : (k : K) (q : R → Bool) (xs : List R) → IsSome (row_of cmp id k xs) → ((x : R) → is_eq (cmp k (id x)) ≡ true → q x ≡ false) → length (filter q xs) + 1 ≤ length xs
  length-filter_found k q [] found out = absurd (cc)
  length-filter_found k q (x ∷ xs) found out = elim (is_eq (cmp k (id x))) as (λ b. is_eq (cmp k (id x)) ≡ b → IsSome (if b then Some x else row_of cmp id k xs) → length (filter q (x ∷ xs)) + 1 ≤ length (x ∷ xs)) [
    | true ↦ λ same is. rw (out x same) (omega (arith, length-filter_le q xs))
    | false ↦ λ other is. elim (q x) as (λ b. length (cond b (x ∷ filter q xs) (filter q xs)) + 1 ≤ length (x ∷ xs)) [
      | true ↦ omega (arith, length-filter_found k q xs is out)
      | false ↦ omega (arith, length-filter_found k q xs is out)
    ]
  ] refl found

  -- a row that is found and passes is counted
  pub count_found : (p : R → Bool) (k : K) (r : R) (xs : List R) → row_of cmp id k xs ≡ Some r → p r ≡ true → 1 ≤ count_by p xs
  count_found p k r [] found passes = absurd (cc)
  count_found p k r (x ∷ xs) found passes = rw (count_by-cons p x xs) (elim (is_eq (cmp k (id x))) as (λ b. (if b then Some x else row_of cmp id k xs) ≡ Some r → 1 ≤ cond (p x) 1 0 + count_by p xs) [
    | true ↦ λ e. let same : x ≡ r = cc in rw (ap p same ∙ passes) (omega arith)
    | false ↦ λ e. omega (arith, count_found p k r xs e passes)
  ] found)

  -- where one row passes, it is the one that is found
  pub one_found : (p : R → Bool) (k : K) (r : R) (xs : List R) → row_of cmp id k xs ≡ Some r → p r ≡ true → count_by p xs ≡ 1 → AllByRecursion (λ x. p x ≡ true → is_eq (cmp k (id x)) ≡ true) xs
  one_found p k r [] found passes one = tt
  one_found p k r (x ∷ xs) found passes one =
      let counted : cond (p x) 1 0 + count_by p xs ≡ 1 = sym (count_by-cons p x xs) ∙ one in
      elim (is_eq (cmp k (id x))) as (λ b. (if b then Some x else row_of cmp id k xs) ≡ Some r → (p x ≡ true → b ≡ true) × AllByRecursion (λ y. p y ≡ true → is_eq (cmp k (id y)) ≡ true) xs) [
        | true ↦ λ e.
            let same : x ≡ r = cc in
            let is : p x ≡ true = ap p same ∙ passes in
            let rest : 1 + count_by p xs ≡ 1 = subst (λ b. cond b 1 0 + count_by p xs ≡ 1) is counted in
            (λ _. refl, All-weaker (λ y. p y ≡ false) (λ y. p y ≡ true → is_eq (cmp k (id y)) ≡ true) xs (λ y no yes. absurd (cc)) (none_from_count p xs (omega arith)))
        | false ↦ λ e.
            let least : 1 ≤ count_by p xs = count_found p k r xs e passes in
            elim (p x) as (λ b. cond b 1 0 + count_by p xs ≡ 1 → (b ≡ true → false ≡ true) × AllByRecursion (λ y. p y ≡ true → is_eq (cmp k (id y)) ≡ true) xs) [
              | true ↦ λ c. absurd (omega arith)
              | false ↦ λ c. (λ yes. yes, one_found p k r xs e passes (omega arith))
            ] counted
      ] found

module _ {R K : Type 0} (cmp : K → K → Ordering) (id : R → K) (order : IsTotalOrder cmp) where
  below : (k : K) (xs : List R) → IsBefore cmp id k xs → AllByRecursion (λ x. cmp k (id x) ≡ Less) xs
  below k [] before = tt
  below k (x ∷ xs) before = (before.0, below k xs before.1)

  -- in ascending rows a row of another place has another id
  not_back : (x y : K) → cmp x y ≡ Less → is_eq (cmp y x) ≡ false
  not_back x y less = ap is_eq (order.antisymm y x ∙ ap ordering_reverse less)

  -- each row is found by its id
  pub each_found : (xs : List R) → IsAscending cmp id xs → AllByRecursion (λ x. row_of cmp id (id x) xs ≡ Some x) xs
  each_found [] ascending = tt
  each_found (x ∷ xs) ascending = (
    rw (tied_itself order (id x)) refl,
    All-both (λ y. cmp (id x) (id y) ≡ Less) (λ y. row_of cmp id (id y) xs ≡ Some y) (λ y. row_of cmp id (id y) (x ∷ xs) ≡ Some y) xs
        (λ y less found. rw (not_back (id x) (id y) less) found)
        (below (id x) xs ascending.0) (each_found xs ascending.1),
  )

  -- in ascending rows no more than one has an id
  pub count_of_id : (p : R → Bool) (k : K) (xs : List R) → ((x : R) → p x ≡ is_eq (cmp k (id x))) → IsAscending cmp id xs → count_by p xs ≤ 1
  count_of_id p k [] is ascending = omega arith
  count_of_id p k (x ∷ xs) is ascending =
      rw (count_by-cons p x xs) (elim (p x) as (λ b. p x ≡ b → cond b 1 0 + count_by p xs ≤ 1) [
        | true ↦ λ e.
            let same : cmp k (id x) ≡ Equal = equal_from (cmp k (id x)) (sym (is x) ∙ e) in
            let none : count_by p xs ≡ 0 =
            count_by-none p xs (All-weaker (λ y. cmp (id x) (id y) ≡ Less) (λ y. p y ≡ false) xs (λ y less. is y ∙ ap is_eq (order.congr k (id x) (id y) same ∙ less)) (below (id x) xs ascending.0)) in
            omega arith
        | false ↦ λ e. omega (arith, count_of_id p k xs is ascending.1)
      ] refl)

  -- ids that are the same find the same row
  pub row_of-alike : (j k : K) (xs : List R) → cmp j k ≡ Equal → row_of cmp id j xs ≡ row_of cmp id k xs
  row_of-alike j k [] same = refl
  row_of-alike j k (x ∷ xs) same = rw (order.congr j k (id x) same, row_of-alike j k xs same) refl

  -- the row that is found is the only one of its id
  pub only_found : (k : K) (r : R) (xs : List R) → IsAscending cmp id xs → row_of cmp id k xs ≡ Some r → AllByRecursion (λ x. is_eq (cmp k (id x)) ≡ true → x ≡ r) xs
  only_found k r xs ascending found =
      All-weaker (λ x. row_of cmp id (id x) xs ≡ Some x) (λ x. is_eq (cmp k (id x)) ≡ true → x ≡ r) xs
      (λ x at same. let alike = row_of-alike k (id x) xs (equal_from (cmp k (id x)) same) in cc)
      (each_found xs ascending)

  -- a row that is found stays found where a row of a new id is put
  pub row_of-put_new : (k : K) (r t : R) (xs : List R) → row_of cmp id (id r) xs ≡ None → row_of cmp id k xs ≡ Some t → row_of cmp id k (put cmp id r xs) ≡ Some t
  row_of-put_new k r t xs absent found = elim (is_eq (cmp k (id r))) as (λ b. is_eq (cmp k (id r)) ≡ b → row_of cmp id k (put cmp id r xs) ≡ Some t) [
    | true ↦ λ e. let alike = row_of-alike k (id r) xs (equal_from (cmp k (id r)) e) in absurd (cc)
    | false ↦ λ e. row_of-put cmp id k r xs e ∙ found
  ] refl

  -- a row that is put is found
  pub row_of-put_own : (r : R) (xs : List R) → row_of cmp id (id r) xs ≡ None → row_of cmp id (id r) (put cmp id r xs) ≡ Some r
  row_of-put_own r [] absent = rw (tied_itself order (id r)) refl
  row_of-put_own r (x ∷ xs) absent = elim (is_gt (cmp (id r) (id x))) as (λ b. is_gt (cmp (id r) (id x)) ≡ b → row_of cmp id (id r) (if b then x ∷ put cmp id r xs else r ∷ x ∷ xs) ≡ Some r) [
    | true ↦ λ later. elim (is_eq (cmp (id r) (id x))) as (λ b. (if b then Some x else row_of cmp id (id r) xs) ≡ None → (if b then Some x else row_of cmp id (id r) (put cmp id r xs)) ≡ Some r) [
      | true ↦ λ e. absurd (cc)
      | false ↦ λ e. row_of-put_own r xs e
    ] absent
    | false ↦ λ first. rw (tied_itself order (id r)) refl
  ] refl

  before-map : (k : K) (f : R → R) (xs : List R) → ((x : R) → id (f x) ≡ id x) → IsBefore cmp id k xs → IsBefore cmp id k (map f xs)
  before-map k f [] keeps before = tt
  before-map k f (x ∷ xs) keeps before = (rw (keeps x) before.0, before-map k f xs keeps before.1)

  -- a map that keeps ids keeps the order
  pub IsAscending-map : (f : R → R) (xs : List R) → ((x : R) → id (f x) ≡ id x) → IsAscending cmp id xs → IsAscending cmp id (map f xs)
  IsAscending-map f [] keeps ascending = tt
  IsAscending-map f (x ∷ xs) keeps ascending = (rw (keeps x) (before-map (id x) f xs keeps ascending.0), IsAscending-map f xs keeps ascending.1)

  before-filter : (k : K) (q : R → Bool) (xs : List R) → IsBefore cmp id k xs → IsBefore cmp id k (filter q xs)
  before-filter k q [] before = tt
  before-filter k q (x ∷ xs) before = elim (q x) as (λ b. IsBefore cmp id k (cond b (x ∷ filter q xs) (filter q xs))) [
    | true ↦ (before.0, before-filter k q xs before.1)
    | false ↦ before-filter k q xs before.1
  ]

  -- so does a filter
  pub IsAscending-filter : (q : R → Bool) (xs : List R) → IsAscending cmp id xs → IsAscending cmp id (filter q xs)
  IsAscending-filter q [] ascending = tt
  IsAscending-filter q (x ∷ xs) ascending = elim (q x) as (λ b. IsAscending cmp id (cond b (x ∷ filter q xs) (filter q xs))) [
    | true ↦ (before-filter (id x) q xs ascending.0, IsAscending-filter q xs ascending.1)
    | false ↦ IsAscending-filter q xs ascending.1
  ]
