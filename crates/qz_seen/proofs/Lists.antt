-- Lists that are empty.
use Rattle.std.proofs.Common.{◌≡◌, ℕ, suc, Bool, true, false, List, [], ◌∷◌, filter, map, take, length, refl, ap, arith, if◌then◌else◌}
use Rattle.std.specs.List.{AllByRecursion}
use Rattle.std.specs.Ordering.{is_gt}
use Rattle.qz_types.specs.Sorted.{put}
use Rattle.qz_types.specs.Due.{due_cmp, in_due_order}
use Rattle.qz_types.specs.Rows.{TriggerData}
use Rattle.qz_model.proofs.RowPoints.{none-filtered}

module _ {R : Type 0} where
  pub map_empty : {S : Type 0} (f : R → S) (xs : List R) → map f xs ≡ [] → xs ≡ []
  map_empty f [] e = refl
  map_empty f (x ∷ xs) e = absurd (cc)

  pub take_empty : (n : ℕ) (xs : List R) → take (suc n) xs ≡ [] → xs ≡ []
  take_empty n [] e = refl
  take_empty n (x ∷ xs) e = absurd (cc)

  pub none_passes : (p : R → Bool) (xs : List R) → filter p xs ≡ [] → AllByRecursion (λ x. p x ≡ false) xs
  none_passes p xs e = none-filtered p xs (omega (arith, ap length e))

  -- where none passes, none is changed
  pub map_unchanged : (p : R → Bool) (change : R → R) (xs : List R) → ((x : R) → p x ≡ false) → map (λ x. if p x then change x else x) xs ≡ xs
  map_unchanged p change [] none = refl
  map_unchanged p change (x ∷ xs) none = rw (none x) (ap (λ ys. x ∷ ys) (map_unchanged p change xs none))

put_some : (t : TriggerData) (ts : List TriggerData) → put due_cmp (λ x. x) t ts ≡ [] → ⊥
put_some t [] e = cc
put_some t (u ∷ us) e = elim (is_gt (due_cmp t u)) as (λ b. (if b then u ∷ put due_cmp (λ x. x) t us else t ∷ u ∷ us) ≡ [] → ⊥) [
  | true ↦ λ is. cc
  | false ↦ λ is. cc
] e

pub none_in_order : (ts : List TriggerData) → in_due_order ts ≡ [] → ts ≡ []
none_in_order [] e = refl
none_in_order (t ∷ ts) e = absurd (put_some t (in_due_order ts) e)
