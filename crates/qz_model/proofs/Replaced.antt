-- A row that is put in place of one of its id, or that is new.
use Rattle.std.proofs.Common.{◌≡◌, ◌+◌, ◌≤◌, true, false, not, cond, List, [], ◌∷◌, length, filter, Some, None, is_some, refl, sym, ap, ◌∙◌, arith, if◌then◌else◌}
use Rattle.std.specs.Cmp.{IsTotalOrder, IsEquivalence}
use Rattle.std.specs.Ordering.{is_gt, is_eq}
use Rattle.std.specs.declared.cmp.Ordering.{Ordering}
use Rattle.std.proofs.lemmas.Cmp.{eq_by_cmp_equiv}
use Rattle.qz_types.specs.Sorted.{row_of, put, IsAscending}
use Rattle.qz_types.proofs.Ascending.{IsAscending-put}
use Rattle.qz_model.proofs.LookUps.{equal_from, row_of_none, row_of-alike, row_of-put, row_of-filter, IsAscending-filter}
use Rattle.qz_model.proofs.RowPoints.{All-from, All-left, length-put, length-filter_le}

module _ {R K : Type 0} (cmp : K → K → Ordering) (id : R → K) where
  -- the rows without that of an id
  abbrev pub without : K → List R → List R
  without k xs = filter (λ x. not (is_eq (cmp k (id x)))) xs

  pub row_of-without : (k : K) (xs : List R) → row_of cmp id k (without k xs) ≡ None
  row_of-without k xs = row_of_none cmp id k (without k xs)
      (All-left (λ x. Unit {0}) (λ x. is_eq (cmp k (id x)) ≡ false) (λ x. is_eq (cmp k (id x))) xs (All-from (λ x. Unit {0}) xs (λ x. tt)) (λ x other t. other))

  -- a row that is there is one of the rows
  pub length-without_found : (k : K) (xs : List R) → is_some (row_of cmp id k xs) ≡ true → length (without k xs) + 1 ≤ length xs
  length-without_found k [] found = absurd (cc)
  length-without_found k (x ∷ xs) found = elim (is_eq (cmp k (id x))) as (λ b. is_some (if b then Some x else row_of cmp id k xs) ≡ true → length (cond (not b) (x ∷ without k xs) (without k xs)) + 1 ≤ length (x ∷ xs)) [
    | true ↦ λ e. omega (arith, length-filter_le (λ y. not (is_eq (cmp k (id y)))) xs)
    | false ↦ λ e. omega (arith, length-without_found k xs e)
  ] found

  -- only a new row makes one more
  pub length-replaced : (r : R) (xs : List R) → length (put cmp id r (without (id r) xs)) ≤ length xs + cond (is_some (row_of cmp id (id r) xs)) 0 1
  length-replaced r xs = elim (is_some (row_of cmp id (id r) xs)) as (λ b. is_some (row_of cmp id (id r) xs) ≡ b → length (put cmp id r (without (id r) xs)) ≤ length xs + cond b 0 1) [
    | true ↦ λ e. omega (arith, length-put cmp id r (without (id r) xs), length-without_found (id r) xs e)
    | false ↦ λ e. omega (arith, length-put cmp id r (without (id r) xs), length-filter_le (λ y. not (is_eq (cmp (id r) (id y)))) xs)
  ] refl

module _ {R K : Type 0} (cmp : K → K → Ordering) (id : R → K) (order : IsTotalOrder cmp) where
  pub ordered-replaced : (r : R) (xs : List R) → IsAscending cmp id xs → IsAscending cmp id (put cmp id r (without cmp id (id r) xs))
  ordered-replaced r xs ordered =
      IsAscending-put cmp id order r (without cmp id (id r) xs) (IsAscending-filter cmp id order (λ x. not (is_eq (cmp (id r) (id x)))) xs ordered) (row_of-without cmp id (id r) xs)

  -- a row that is put before none of its id is found
  row_of-put_same : (k : K) (r : R) (xs : List R) → is_eq (cmp k (id r)) ≡ true → row_of cmp id k xs ≡ None → row_of cmp id k (put cmp id r xs) ≡ Some r
  row_of-put_same k r [] same absent = rw same refl
  row_of-put_same k r (x ∷ xs) same absent = elim (is_eq (cmp k (id x))) as (λ b. is_eq (cmp k (id x)) ≡ b → (if b then Some x else row_of cmp id k xs) ≡ None → row_of cmp id k (put cmp id r (x ∷ xs)) ≡ Some r) [
    | true ↦ λ is e. absurd (cc)
    | false ↦ λ is e. elim (is_gt (cmp (id r) (id x))) as (λ b. row_of cmp id k (if b then x ∷ put cmp id r xs else r ∷ x ∷ xs) ≡ Some r) [
      | true ↦ rw is (row_of-put_same k r xs same e)
      | false ↦ rw same refl
    ]
  ] refl absent

  laws : IsEquivalence (λ a b. is_eq (cmp a b))
  laws = eq_by_cmp_equiv order

  -- it is found under its id, and each other row as before
  pub row_of-put_replaced : (k : K) (r : R) (xs : List R) → row_of cmp id k (put cmp id r (without cmp id (id r) xs)) ≡ (if is_eq (cmp (id r) k) then Some r else row_of cmp id k xs)
  row_of-put_replaced k r xs = elim (is_eq (cmp (id r) k)) as (λ b. is_eq (cmp (id r) k) ≡ b → row_of cmp id k (put cmp id r (without cmp id (id r) xs)) ≡ (if b then Some r else row_of cmp id k xs)) [
    | true ↦ λ same.
        let turned : is_eq (cmp k (id r)) ≡ true = laws.symm k (id r) ∙ same in
        row_of-put_same k r (without cmp id (id r) xs) turned (row_of-alike cmp id order k (id r) (without cmp id (id r) xs) (equal_from (cmp k (id r)) turned) ∙ row_of-without cmp id (id r) xs)
    | false ↦ λ differ.
        row_of-put cmp id k r (without cmp id (id r) xs) (laws.symm k (id r) ∙ differ)
        ∙ row_of-filter cmp id k (λ x. not (is_eq (cmp (id r) (id x)))) xs
        (All-from (λ x. is_eq (cmp k (id x)) ≡ true → not (is_eq (cmp (id r) (id x))) ≡ true) xs
        (λ x same. ap not (sym (laws.congr k (id x) (id r) same ∙ laws.symm (id x) (id r)) ∙ (laws.symm k (id r) ∙ differ))))
  ] refl
