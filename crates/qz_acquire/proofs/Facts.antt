-- What valid tables say of what the commands read.
use Rattle.std.proofs.Common.{◌≡◌, ◌<◌, ℤ, List, [], ◌∷◌, Option, Some, None, IsTrue, refl, arith}
use Rattle.std.proofs.Math.Logic.{∥∥₁_elim}
use Rattle.std.proofs.Math.Bool.{Bool-set}
use Rattle.std.proofs.Props.{props}
use Rattle.std.specs.Ordering.{Ordering-set}
use Rattle.qz_types.specs.Sorted.{IsBefore, IsAscending}
use Rattle.qz_types.specs.Rows.{TriggerData, FiredData, is_interval}
use Rattle.qz_types.specs.declared.keys.Key.{Key}
use Rattle.qz_types.specs.Tables.{SchedulerTables, IsMoment, recorded_moment}
use Rattle.qz_types.specs.Words.{key_cmp, fired_of}
use Rattle.qz_model.specs.Invariant.{TablesValid}
use Rattle.qz_model.proofs.Changes.{moment_within}
use Rattle.qz_model.proofs.RowLaws.{All-fired_of, fired_of-entry}

before_prop : (k : Key) (ts : List TriggerData) → IsProp (IsBefore key_cmp (λ r. r.spec.key) k ts)
before_prop k [] = hlevel props
before_prop k (t ∷ ts) = hlevel (Ordering-set, before_prop k ts)

ascending_prop : (ts : List TriggerData) → IsProp (IsAscending key_cmp (λ r. r.spec.key) ts)
ascending_prop [] = hlevel props
ascending_prop (t ∷ ts) = hlevel (before_prop t.spec.key ts, ascending_prop ts)

-- the triggers are in the order of their keys
pub ordered : (T : SchedulerTables) → ∥ TablesValid T ∥₁ → IsAscending key_cmp (λ r. r.spec.key) T.triggers
ordered T valid = ∥∥₁_elim valid (ascending_prop T.triggers) (λ is. is.references_and_limits.ordered.triggers)

-- the threshold is an interval
pub threshold_of : (T : SchedulerTables) → ∥ TablesValid T ∥₁ → IsTrue (is_interval T.threshold)
threshold_of T valid = ∥∥₁_elim valid (hlevel Bool-set) (λ is. is.references_and_limits.limits.threshold)

-- the recorded moment lies within the horizon
pub moment_of : (T : SchedulerTables) (at : ℤ) → ∥ TablesValid T ∥₁ → IsMoment T.horizon (recorded_moment T at)
moment_of T at valid = ∥∥₁_elim valid (hlevel props) (λ is. moment_within T at is.next_times.moment)

none_from : (o : Option FiredData) → ((f : FiredData) → o ≡ Some f → ⊥) → o ≡ None
none_from None never = refl
none_from (Some f) never = absurd (never f refl)

-- no row has the next entry number
pub new_entry : (T : SchedulerTables) → ∥ TablesValid T ∥₁ → fired_of T.next_entry T.fired ≡ None
new_entry T valid = none_from (fired_of T.next_entry T.fired) (λ f found. ∥∥₁_elim valid (λ x y. absurd x) (λ is.
    let below : f.entry < T.next_entry = All-fired_of (λ g. g.entry < T.next_entry) T.next_entry f T.fired is.fresh.fired found in
    let same : T.next_entry ≡ f.entry = fired_of-entry T.next_entry f T.fired found in
    absurd (omega arith)))
