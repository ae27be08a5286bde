-- Tables in which two rows are counted for one key aren't valid.
use Rattle.std.proofs.Common.{◌≡◌, ℕ, ◌≤◌, Bool, true, false, ◌||◌, List, [], ◌∷◌, count_by, nat_lt, Option, Some, None, IsSomeAnd, refl, sym, subst, ◌∙◌, arith}
use Rattle.std.specs.List.{AllByRecursion, list_any}
use Rattle.std.proofs.lemmas.Bool.{and_parts}
use Rattle.std.proofs.lemmas.Bool.Decides.{nat_tests}
use Rattle.qz_types.specs.Rows.{TriggerData, FiredData}
use Rattle.qz_types.specs.States.{is_acquired, is_acquired_for}
use Rattle.qz_types.specs.Words.{same_key, trigger_of}
use Rattle.qz_types.specs.declared.keys.Key.{Key}
use Rattle.qz_types.specs.declared.triggers.TriggerState.TheVariants as state
use Rattle.qz_model.specs.Executions.{is_exclusive_of}
use Rattle.qz_model.specs.Invariant.{IsRowOf, AcquiredMatch}
use Rattle.qz_model.proofs.RowPoints.{All-weaker, any_is_count}
use Rattle.qz_model.proofs.RowLaws.{same_key-exact, All-trigger_of, trigger_of-key}
use Rattle.qz_valid.specs.Keys.{counts, IsTwice}
use Rattle.qz_valid.specs.declared.keys.Counted.TheVariants.{Acquired, Exclusive}

any_gives : {R : Type 0} (p : R → Bool) (C : Type 0) (xs : List R) → AllByRecursion (λ x. p x ≡ true → C) xs → list_any p xs ≡ true → C
any_gives p C [] all any = absurd (cc)
any_gives p C (x ∷ xs) all any = elim (p x) as (λ b. p x ≡ b → (b || list_any p xs) ≡ true → C) [
  | true ↦ λ e h. all.0 e
  | false ↦ λ e h. any_gives p C xs all.1 h
] refl any

acquired_parts : (k : Key) (f : FiredData) → is_acquired_for k f ≡ true → (is_acquired f.state ≡ true) × (k ≡ f.trigger)
unfolding is_acquired_for
acquired_parts k f h = let parts = and_parts (is_acquired f.state) (same_key k f.trigger) h in (parts.0, same_key-exact k f.trigger parts.1)

-- the trigger of a row has one row
one_where : (k : Key) (o : Option TriggerData) (f : FiredData) (triggers : List TriggerData) (fired : List FiredData) → AllByRecursion (λ u. u.state ≡ state.Acquired → count_by (is_acquired_for u.spec.key) fired ≡ 1) triggers
    → trigger_of k triggers ≡ o → IsSomeAnd o (IsRowOf f) → count_by (is_acquired_for k) fired ≡ 1
one_where k None f triggers fired all found is = absurd is
one_where k (Some t) f triggers fired all found is =
    let one : count_by (is_acquired_for t.spec.key) fired ≡ 1 = All-trigger_of (λ (u : TriggerData). u.state ≡ state.Acquired → count_by (is_acquired_for u.spec.key) fired ≡ 1) k t triggers all found is.state in
    subst (λ (j : Key). count_by (is_acquired_for j) fired ≡ 1) (sym (same_key-exact k t.spec.key (trigger_of-key k t triggers found))) one

some_passes : (n : ℕ) → 2 ≤ n → nat_lt 0 n ≡ true
some_passes n le = grind (arith, nat_tests)

pub twice_acquired : (triggers : List TriggerData) (fired : List FiredData) → IsTwice Acquired fired → AcquiredMatch triggers fired → ⊥
unfolding counts
twice_acquired triggers fired twice match =
    let k : Key = twice.0 in
    let two : 2 ≤ count_by (is_acquired_for k) fired = twice.1 in
    let one : count_by (is_acquired_for k) fired ≡ 1 = any_gives (is_acquired_for k) (count_by (is_acquired_for k) fired ≡ 1) fired
    (All-weaker (λ f. is_acquired f.state ≡ true → IsSomeAnd (trigger_of f.trigger triggers) (IsRowOf f)) (λ f. is_acquired_for k f ≡ true → count_by (is_acquired_for k) fired ≡ 1) fired
    (λ f row passes.
    let parts = acquired_parts k f passes in
    one_where k (trigger_of k triggers) f triggers fired match.one_row refl (subst (λ (j : Key). IsSomeAnd (trigger_of j triggers) (IsRowOf f)) (sym parts.1) (row parts.0)))
    match.a_trigger)
    (any_is_count (is_acquired_for k) fired ∙ some_passes (count_by (is_acquired_for k) fired) two) in
    omega arith

pub twice_exclusive : (fired : List FiredData) → IsTwice Exclusive fired → ((k : Key) → count_by (is_exclusive_of k) fired ≤ 1) → ⊥
unfolding counts
twice_exclusive fired twice one = let few : count_by (is_exclusive_of twice.0) fired ≤ 1 = one twice.0 in let two : 2 ≤ count_by (is_exclusive_of twice.0) fired = twice.1 in omega arith
