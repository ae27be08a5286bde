-- The walks over the fired rows that find a member's executions.
use Rattle.std.proofs.Common.{◌≡◌, ℕ, ℤ, ◌≤ℤ◌, zero, suc, ◌+◌, ◌<◌, ◌≤◌, ◌&&◌, Bool, true, false, not, cond, List, [], ◌∷◌, ◌++◌, take, filter, map, length, Some, refl, sym, ap, ◌∙◌, arith, add-one}
use Rattle.std.proofs.Math.Logic.{∥∥₁_elim}
use Rattle.std.proofs.Math.Bool.{Bool-set}
use Rattle.std.proofs.Props.{props}
use Rattle.std.proofs.lemmas.Bool.{and_parts, not-true}
use Rattle.std.proofs.lemmas.Int.{ints}
use Rattle.std.proofs.lemmas.List.{append-nil, take_all, length-map}
use Rattle.std.specs.List.{slice_get}
use Rattle.qz_civil.specs.Timings.{is_span}
use Rattle.qz_civil.specs.declared.limits.TheConstants.{LAST}
use Rattle.qz_types.specs.declared.limits.TheConstants.{NUMBER_LIMIT}
use Rattle.qz_types.specs.Rows.{JobData, MemberData, FiredData}
use Rattle.qz_types.specs.declared.fired.FiredState.{FiredState}
use Rattle.qz_types.specs.declared.fired.FiredState.TheVariants as row
use Rattle.qz_types.specs.States.{is_acquired}
use Rattle.qz_types.specs.Tables.{SchedulerTables}
use Rattle.qz_model.specs.Invariant.{TablesValid, HasTimes}
use Rattle.qz_model.specs.Recovery.{asks, lost_of, recoveries, recovery_trigger}
use Rattle.qz_model.specs.Tests.{is_of}
use Rattle.qz_model.proofs.NextTimes.{horizon_of_valid}
use Rattle.qz_apply.proofs.Moves.{span}
use Rattle.qz_recover.specs.Recovering.{is_execution_of, is_recovered_by}
use Rattle.qz_recover.proofs.Walk.{All-at}

module _ {R S : Type 0} (p : R → Bool) (f : R → S) where
  kept : (rows : List R) (place : ℕ) (r : R) → slice_get rows place ≡ Some r → map f (filter p (take (suc place) rows)) ≡ map f (filter p (take place rows)) ++ cond (p r) (f r ∷ []) []
  kept [] place r is = absurd (cc)
  kept (x ∷ rows) zero r is = let same : x ≡ r = cc in rw same (elim (p r) as (λ b. map f (cond b (r ∷ []) []) ≡ cond b (f r ∷ []) []) [ true ↦ refl | false ↦ refl ])
  kept (x ∷ rows) (suc place) r is = elim (p x) as (λ b. map f (cond b (x ∷ filter p (take (suc place) rows)) (filter p (take (suc place) rows))) ≡ map f (cond b (x ∷ filter p (take place rows)) (filter p (take place rows))) ++ cond (p r) (f r ∷ []) []) [
    | true ↦ ap (λ (ys : List S). f x ∷ ys) (kept rows place r is)
    | false ↦ kept rows place r is
  ]

  -- a row that passes is taken too
  pub taken_one : (rows : List R) (place : ℕ) (r : R) → slice_get rows place ≡ Some r → p r ≡ true → map f (filter p (take (place + 1) rows)) ≡ map f (filter p (take place rows)) ++ f r ∷ []
  taken_one rows place r is passes = rw add-one (kept rows place r is ∙ ap (λ b. map f (filter p (take place rows)) ++ cond b (f r ∷ []) []) passes)

  -- and one that fails isn't
  pub passed_one : (rows : List R) (place : ℕ) (r : R) → slice_get rows place ≡ Some r → p r ≡ false → map f (filter p (take (place + 1) rows)) ≡ map f (filter p (take place rows))
  passed_one rows place r is fails = rw add-one (kept rows place r is ∙ ap (λ b. map f (filter p (take place rows)) ++ cond b (f r ∷ []) []) fails ∙ append-nil _)

  pub taken_all : (rows : List R) (place : ℕ) → length rows ≤ place → map f (filter p (take place rows)) ≡ map f (filter p rows)
  taken_all rows place past = ap (λ xs. map f (filter p xs)) (take_all place rows past)

filter-both : {R : Type 0} (p q : R → Bool) (rows : List R) → filter (λ r. p r && q r) rows ≡ filter q (filter p rows)
filter-both p q [] = refl
filter-both p q (x ∷ rows) = elim (p x) as (λ b. cond (b && q x) (x ∷ filter (λ r. p r && q r) rows) (filter (λ r. p r && q r) rows) ≡ filter q (cond b (x ∷ filter p rows) (filter p rows))) [
  | true ↦ elim (q x) as (λ b. cond b (x ∷ filter (λ r. p r && q r) rows) (filter (λ r. p r && q r) rows) ≡ cond b (x ∷ filter q (filter p rows)) (filter q (filter p rows))) [
    | true ↦ ap (λ xs. x ∷ xs) (filter-both p q rows)
    | false ↦ filter-both p q rows
  ]
  | false ↦ filter-both p q rows
]

-- the triggers that are added are those of the rows that pass the test
pub recoveries_passed : (T : SchedulerTables) (member : MemberData) → map (recovery_trigger T.paused_groups T.paused_job_groups) (filter (is_recovered_by T.jobs member) T.fired) ≡ recoveries T member
unfolding recoveries lost_of
recoveries_passed T member = ap (map (recovery_trigger T.paused_groups T.paused_job_groups)) (filter-both (is_execution_of member) (asks T.jobs) T.fired)

pub count_passed : (T : SchedulerTables) (member : MemberData) → length (filter (is_recovered_by T.jobs member) T.fired) ≡ length (recoveries T member)
count_passed T member = sym (length-map (filter (is_recovered_by T.jobs member) T.fired) (recovery_trigger T.paused_groups T.paused_job_groups)) ∙ ap length (recoveries_passed T member)

-- those of the executions
pub executions_passed : (member : MemberData) (rows : List FiredData) → filter (is_execution_of member) rows ≡ lost_of member rows
unfolding lost_of
executions_passed member rows = refl

-- a row for which a trigger is added is an execution
pub recovered_begun : (jobs : List JobData) (member : MemberData) (f : FiredData) → is_recovered_by jobs member f ≡ true → is_acquired f.state ≡ false
recovered_begun jobs member f passes =
    let begun = and_parts (not (is_acquired f.state)) (is_of member f) (and_parts (is_execution_of member f) (asks jobs f) passes).0 in
    not-true (is_acquired f.state) begun.0

executing_span : (horizon : ℤ) (f : FiredData) (s : FiredState) → horizon ≤ℤ LAST → is_acquired s ≡ false → HasTimes horizon f s → is_span f.scheduled ≡ true
executing_span horizon f row.Acquired last begun times = absurd (cc)
executing_span horizon f row.Executing last begun times = span f.scheduled (times.0.low, omega (arith, ints, times.0.high, last))

-- the scheduled time of an execution is a start that a trigger may have
pub execution_span : (T : SchedulerTables) (place : ℕ) (f : FiredData) → ∥ TablesValid T ∥₁ → slice_get T.fired place ≡ Some f → is_acquired f.state ≡ false → is_span f.scheduled ≡ true
execution_span T place f valid at begun = ∥∥₁_elim valid (hlevel Bool-set) (λ is.
    executing_span T.horizon f f.state (horizon_of_valid T is).high begun (All-at (λ g. HasTimes T.horizon g g.state) T.fired place f is.row_times.rows at))

-- the entry number of a row is within the limit
pub row_number : (T : SchedulerTables) (place : ℕ) (f : FiredData) → ∥ TablesValid T ∥₁ → slice_get T.fired place ≡ Some f → f.entry < NUMBER_LIMIT
row_number T place f valid at = ∥∥₁_elim valid (hlevel props) (λ is.
    let below : f.entry < T.next_entry = All-at (λ g. g.entry < T.next_entry) T.fired place f is.fresh.fired at in
    omega (arith, below, is.references_and_limits.limits.next_entry))
