-- Numbers of names, each of one trigger.
use Rattle.std.proofs.Common.{◌≡◌, ℕ, ◌+◌, ◌≤◌, Bool, true, false, cond, ◌==◌, List, [], ◌∷◌, length, take, count_by, Option, Some, None, if◌then◌else◌, refl, sym, ap, subst, ◌∙◌, arith}
use Rattle.std.specs.List.{slice_get, AllByRecursion, list_any}
use Rattle.std.specs.Ordering.{is_eq, nat_cmp}
use Rattle.std.specs.BTreeMap.{is_at}
use Rattle.std.specs.declared.cmp.Ordering.{Ordering}
use Rattle.std.specs.declared.cmp.Ordering.TheVariants.{Less}
use Rattle.std.specs.Cmp.{IsTotalOrder}
use Rattle.std.proofs.lemmas.Cmp.{tied_itself}
use Rattle.std.proofs.lemmas.Bool.Decides.{Decides-eqb}
use Rattle.qz_types.specs.Rows.{TriggerData}
use Rattle.qz_types.specs.Sorted.{IsBefore, IsAscending}
use Rattle.qz_model.proofs.RowPoints.{All-weaker, none_from_count, count_by-cons, count_by-none}
use Rattle.qz_model.proofs.RowLaws.{same_number}
use Rattle.qz_valid.specs.Names.{added_number, is_number, AreApart}
use Rattle.qz_valid.proofs.Sets.{at_most_one}
use Rattle.qz_valid.proofs.Walks.{count_yes, count_no, count_by-take-le, count_all}

-- the trigger is named by this number
abbrev pub has_number : ℕ → TriggerData → Bool
has_number n t = is_number n (added_number t)

-- the numbers are those that triggers are named by, each one trigger
abbrev pub Numbers : List TriggerData → List ℕ → Type 0
Numbers triggers numbers = (n : ℕ) → count_by (has_number n) triggers ≡ (if list_any (is_at (nat_cmp n)) numbers then 1 else 0)

pub no_numbers : (triggers : List TriggerData) (numbers : List ℕ) → numbers ≡ [] → Numbers (take 0 triggers) numbers
no_numbers triggers numbers none n = rw none refl

number_is : (t : TriggerData) (o : Option ℕ) → added_number t ≡ o → (n : ℕ) → has_number n t ≡ is_number n o
number_is t o is n = ap (is_number n) is

module _ (triggers : List TriggerData) (place : ℕ) (t : TriggerData) (at : slice_get triggers place ≡ Some t) where
  pub numbers_new : (m : ℕ) (old new : List ℕ) → added_number t ≡ Some m → list_any (is_at (nat_cmp m)) old ≡ false
      → ((q : ℕ) → list_any (is_at (nat_cmp q)) new ≡ cond (is_at (nat_cmp m) q) true (list_any (is_at (nat_cmp q)) old))
      → Numbers (take place triggers) old → Numbers (take (place + 1) triggers) new
  numbers_new m old new number absent added before n = rw (added n, same_number m n) (elim (m == n) as (λ b. (m == n) ≡ b → count_by (has_number n) (take (place + 1) triggers) ≡ (if (cond b true (list_any (is_at (nat_cmp n)) old)) then 1 else 0)) [
    | true ↦ λ e.
        let same : m ≡ n = (Decides-eqb m n).0 e in
        let none : list_any (is_at (nat_cmp n)) old ≡ false = subst (λ (k : ℕ). list_any (is_at (nat_cmp k)) old ≡ false) same absent in
        let was : count_by (has_number n) (take place triggers) ≡ 0 = before n ∙ ap (λ (b : Bool). if b then 1 else 0) none in
        count_yes (has_number n) triggers place t at (number_is t (Some m) number n ∙ e) ∙ ap (λ (k : ℕ). k + 1) was
    | false ↦ λ e. count_no (has_number n) triggers place t at (number_is t (Some m) number n ∙ e) ∙ before n
  ] refl)

  pub numbers_none : (numbers : List ℕ) → added_number t ≡ None → Numbers (take place triggers) numbers → Numbers (take (place + 1) triggers) numbers
  numbers_none numbers none before n = count_no (has_number n) triggers place t at (number_is t None none n) ∙ before n

  -- a number that is there already
  pub named_twice : (m : ℕ) (old : List ℕ) → added_number t ≡ Some m → list_any (is_at (nat_cmp m)) old ≡ true → Numbers (take place triggers) old → AreApart triggers → ⊥
  named_twice m old number present before apart =
      let was : count_by (has_number m) (take place triggers) ≡ 1 = before m ∙ ap (λ (b : Bool). if b then 1 else 0) present in
      let itself : (m == m) ≡ true = (Decides-eqb m m).1 refl in
      let two : count_by (has_number m) (take (place + 1) triggers) ≡ 2 = count_yes (has_number m) triggers place t at (number_is t (Some m) number m ∙ itself) ∙ ap (λ (k : ℕ). k + 1) was in
      let few : count_by (has_number m) triggers ≤ 1 = apart m in
      absurd (omega (arith, count_by-take-le (has_number m) (place + 1) triggers))

pub apart_at_end : (triggers : List TriggerData) (place : ℕ) (numbers : List ℕ) → length triggers ≤ place → Numbers (take place triggers) numbers → AreApart triggers
apart_at_end triggers place numbers le counted n = at_most_one (list_any (is_at (nat_cmp n)) numbers) (count_by (has_number n) triggers) (sym (count_all (has_number n) triggers place le) ∙ counted n)

-- At most one passes.

module _ {R : Type 0} (p : R → Bool) where
  no_others : (x : R) (xs : List R) → count_by p xs ≡ 0 → AllByRecursion (λ y. p y ≡ true → y ≡ x) xs
  no_others x xs none = All-weaker (λ y. p y ≡ false) (λ y. p y ≡ true → y ≡ x) xs (λ y no yes. absurd (cc)) (none_from_count p xs none)

  -- those that pass are one
  pub one_passes : (xs : List R) → count_by p xs ≤ 1 → AllByRecursion (λ x. p x ≡ true → AllByRecursion (λ y. p y ≡ true → y ≡ x) xs) xs
  one_passes [] le = tt
  one_passes (x ∷ xs) le =
      let counted : cond (p x) 1 0 + count_by p xs ≡ count_by p (x ∷ xs) = sym (count_by-cons p x xs) in
      elim (p x) as (λ b. p x ≡ b → cond b 1 0 + count_by p xs ≡ count_by p (x ∷ xs) → AllByRecursion (λ z. p z ≡ true → AllByRecursion (λ y. p y ≡ true → y ≡ z) (x ∷ xs)) (x ∷ xs)) [
        | true ↦ λ e c. let none : count_by p xs ≡ 0 = omega arith in (
          λ is. (λ also. refl, no_others x xs none),
          All-weaker (λ z. p z ≡ false) (λ z. p z ≡ true → AllByRecursion (λ y. p y ≡ true → y ≡ z) (x ∷ xs)) xs (λ z no yes. absurd (cc)) (none_from_count p xs none),
        )
        | false ↦ λ e c. (
          λ is. absurd (cc),
          All-weaker (λ z. p z ≡ true → AllByRecursion (λ y. p y ≡ true → y ≡ z) xs) (λ z. p z ≡ true → AllByRecursion (λ y. p y ≡ true → y ≡ z) (x ∷ xs)) xs
              (λ z all is. (λ also. absurd (cc), all is)) (one_passes xs (omega arith)),
        )
      ] refl counted

  none_after : {K : Type 0} (cmp : K → K → Ordering) (id : R → K) (order : IsTotalOrder cmp) (x : R) (xs : List R) → IsBefore cmp id (id x) xs → AllByRecursion (λ y. p y ≡ true → id y ≡ id x) xs → AllByRecursion (λ y. p y ≡ false) xs
  none_after cmp id order x [] before all = tt
  none_after cmp id order x (y ∷ xs) before all = (
    elim (p y) as (λ b. (b ≡ true → id y ≡ id x) → b ≡ false) [
      | true ↦ λ f.
          let less : cmp (id x) (id x) ≡ Less = subst (λ k. cmp (id x) k ≡ Less) (f refl) before.0 in
          let tied : is_eq (cmp (id x) (id x)) ≡ true = ap is_eq (tied_itself order (id x)) in
          let no : is_eq (cmp (id x) (id x)) ≡ false = ap is_eq less in
          absurd (cc)
      | false ↦ λ f. refl
    ] all.0,
    none_after cmp id order x xs before.1 all.1,
  )

  -- where rows ascend, and those that pass have one id, at most one passes
  pub few_pass : {K : Type 0} (cmp : K → K → Ordering) (id : R → K) (order : IsTotalOrder cmp) (xs : List R) → IsAscending cmp id xs → AllByRecursion (λ x. p x ≡ true → AllByRecursion (λ y. p y ≡ true → id y ≡ id x) xs) xs → count_by p xs ≤ 1
  few_pass cmp id order [] up all = omega arith
  few_pass cmp id order (x ∷ xs) up all = rw (count_by-cons p x xs) (elim (p x) as (λ b. p x ≡ b → cond b 1 0 + count_by p xs ≤ 1) [
    | true ↦ λ e.
        let none : count_by p xs ≡ 0 = count_by-none p xs (none_after cmp id order x xs up.0 (all.0 e).1) in
        omega arith
    | false ↦ λ e. omega (
      arith,
      few_pass cmp id order xs up.1
          (All-weaker (λ z. p z ≡ true → AllByRecursion (λ y. p y ≡ true → id y ≡ id z) (x ∷ xs)) (λ z. p z ≡ true → AllByRecursion (λ y. p y ≡ true → id y ≡ id z) xs) xs (λ z h is. (h is).1) all.1),
    )
  ] refl)
