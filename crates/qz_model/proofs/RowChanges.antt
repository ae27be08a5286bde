-- Look-ups of triggers whose states are changed, and counts of fired rows where one is changed.
use Rattle.std.proofs.Common.{◌≡◌, ℕ, ◌+◌, ◌≤◌, ◌==◌, Bool, true, false, cond, List, [], ◌∷◌, map, count_by, Some, option_map, refl, sym, ap, ◌∙◌, arith, if◌then◌else◌}
use Rattle.std.specs.List.{AllByRecursion}
use Rattle.std.specs.Ordering.{nat_cmp}
use Rattle.std.proofs.lemmas.Cmp.{nat_cmp_total}
use Rattle.qz_types.specs.Sorted.{IsAscending}
use Rattle.qz_types.specs.Rows.{TriggerData, FiredData}
use Rattle.qz_types.specs.Changes.{with_states}
use Rattle.qz_types.specs.Words.{trigger_of, fired_of, with_fired}
use Rattle.qz_types.specs.declared.keys.Key.{Key}
use Rattle.qz_types.specs.declared.triggers.TriggerState.{TriggerState}
use Rattle.qz_model.proofs.RowPoints.{changed_keeps, count_by-cons}
use Rattle.qz_model.proofs.LookUps.{row_of-map, count_found, count_of_id}
use Rattle.qz_model.proofs.RowLaws.{same_number}
use Rattle.qz_model.proofs.StateLaws.{trigger_of-with_states}

-- a trigger that doesn't pass is found as it was
pub trigger_of-unchanged : (change : TriggerState → TriggerState) (passes : TriggerData → Bool) (k : Key) (t : TriggerData) (rows : List TriggerData) → trigger_of k rows ≡ Some t → passes t ≡ false
    → trigger_of k (with_states change passes rows) ≡ Some t
trigger_of-unchanged change passes k t rows found fails = trigger_of-with_states change passes k rows ∙ ap (option_map _) found ∙ ap Some (rw fails refl)

-- where one row is changed, no more than one is counted anew
count_map_le : {R : Type 0} (p q : R → Bool) (change : R → R) (xs : List R) → AllByRecursion (λ x. p x ≡ false) xs → count_by p (map (λ x. if q x then change x else x) xs) ≤ count_by q xs
count_map_le p q change [] none = omega arith
count_map_le p q change (x ∷ xs) none =
    rw (count_by-cons p (if q x then change x else x) (map (λ y. if q y then change y else y) xs), count_by-cons q x xs)
    (elim (q x) as (λ b. cond (p (if b then change x else x)) 1 0 + count_by p (map (λ y. if q y then change y else y) xs) ≤ cond b 1 0 + count_by q xs) [
      | true ↦ elim (p (change x)) as (λ b. cond b 1 0 + count_by p (map (λ y. if q y then change y else y) xs) ≤ 1 + count_by q xs) [
        | true ↦ omega (arith, count_map_le p q change xs none.1)
        | false ↦ omega (arith, count_map_le p q change xs none.1)
      ]
      | false ↦ rw none.0 (omega (arith, count_map_le p q change xs none.1))
    ])

pub one-with_fired : (p : FiredData → Bool) (n : ℕ) (change : FiredData → FiredData) (rows : List FiredData) → IsAscending nat_cmp (λ r. r.entry) rows
    → AllByRecursion (λ f. p f ≡ false) rows → count_by p (with_fired n change rows) ≤ 1
unfolding with_fired
one-with_fired p n change rows ordered none =
    omega (arith, count_map_le p (λ f. n == f.entry) change rows none, count_of_id nat_cmp (λ r. r.entry) nat_cmp_total (λ f. n == f.entry) n rows (λ f. sym (same_number n f.entry)) ordered)

-- the row that is changed is counted where it passes then
pub counted-with_fired : (p : FiredData → Bool) (n : ℕ) (change : FiredData → FiredData) (f : FiredData) (rows : List FiredData) → ((g : FiredData) → (change g).entry ≡ g.entry)
    → fired_of n rows ≡ Some f → (n == f.entry) ≡ true → p (change f) ≡ true → 1 ≤ count_by p (with_fired n change rows)
unfolding with_fired fired_of
counted-with_fired p n change f rows keeps found same passes =
    count_found nat_cmp (λ r. r.entry) p n (change f) (map (λ r. if n == r.entry then change r else r) rows)
    (row_of-map nat_cmp (λ r. r.entry) n _ rows (changed_keeps (λ r. r.entry) change keeps (λ r. n == r.entry)) ∙ ap (option_map _) found ∙ ap Some (rw same refl)) passes
