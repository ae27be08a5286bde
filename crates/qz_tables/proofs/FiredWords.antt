-- Entry numbers that the order doesn't tell apart are the same.
use Rattle.std.proofs.Common.{◌≡◌, ℕ, List, [], ◌∷◌, ◌==◌, refl, arith}
use Rattle.std.proofs.lemmas.Grind.{common_steps}
use Rattle.std.specs.Ordering.{is_eq, nat_cmp}
use Rattle.qz_types.specs.Rows.{FiredData}
use Rattle.qz_types.specs.Words.{with_fired}
use Rattle.qz_tables.specs.Ids.{changed_at}

same_number : (n m : ℕ) → is_eq (nat_cmp n m) ≡ (n == m)
same_number n m = grind (arith, common_steps)

pub with_fired-is : (entry : ℕ) (change : FiredData → FiredData) (rows : List FiredData) → changed_at nat_cmp (λ (r : FiredData). r.entry) entry change rows ≡ with_fired entry change rows
unfolding with_fired
with_fired-is entry change [] = refl
with_fired-is entry change (r ∷ rs) = rw (same_number entry r.entry, with_fired-is entry change rs) refl
