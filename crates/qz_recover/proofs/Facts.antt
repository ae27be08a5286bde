-- What valid tables say of the rows.
use Rattle.std.proofs.Common.{List, [], ◌∷◌}
use Rattle.std.proofs.Math.Logic.{∥∥₁_elim}
use Rattle.std.proofs.Props.{props}
use Rattle.std.specs.Ordering.{nat_cmp, Ordering-set}
use Rattle.std.specs.declared.cmp.Ordering.{Ordering}
use Rattle.qz_types.specs.Sorted.{IsBefore, IsAscending}
use Rattle.qz_types.specs.Tables.{SchedulerTables}
use Rattle.qz_types.specs.Words.{key_cmp}
use Rattle.qz_model.specs.Invariant.{TablesValid}

module _ {R K : Type 0} (cmp : K → K → Ordering) (id : R → K) where
  before_prop : (k : K) (xs : List R) → IsProp (IsBefore cmp id k xs)
  before_prop k [] = hlevel props
  before_prop k (x ∷ xs) = hlevel (Ordering-set, before_prop k xs)

  ascending_prop : (xs : List R) → IsProp (IsAscending cmp id xs)
  ascending_prop [] = hlevel props
  ascending_prop (x ∷ xs) = hlevel (before_prop (id x) xs, ascending_prop xs)

-- the fired rows are in the order of their entry numbers
pub fired_ordered : (T : SchedulerTables) → ∥ TablesValid T ∥₁ → IsAscending nat_cmp (λ r. r.entry) T.fired
fired_ordered T valid = ∥∥₁_elim valid (ascending_prop nat_cmp (λ r. r.entry) T.fired) (λ is. is.references_and_limits.ordered.fired)

-- the triggers and the jobs are in the order of their keys
pub triggers_ordered : (T : SchedulerTables) → ∥ TablesValid T ∥₁ → IsAscending key_cmp (λ r. r.spec.key) T.triggers
triggers_ordered T valid = ∥∥₁_elim valid (ascending_prop key_cmp (λ r. r.spec.key) T.triggers) (λ is. is.references_and_limits.ordered.triggers)

pub jobs_ordered : (T : SchedulerTables) → ∥ TablesValid T ∥₁ → IsAscending key_cmp (λ r. r.key) T.jobs
jobs_ordered T valid = ∥∥₁_elim valid (ascending_prop key_cmp (λ r. r.key) T.jobs) (λ is. is.references_and_limits.ordered.jobs)
