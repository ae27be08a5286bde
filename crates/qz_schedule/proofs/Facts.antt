-- What valid tables say of what the commands read.
use Rattle.std.proofs.Common.{◌≡◌, ℕ, ◌+◌, ◌++◌, ◌<◌, ◌≤◌, ◌^◌, ℤ, pos, ◌≤ℤ◌, int_le, nat_le, nat_lt, true, false, length, sym, ap, ◌∙◌, subst, lit<, Option, Some, None, IsSome, is_none, codes, refl, arith}
use Rattle.std.proofs.Math.Logic.{∥∥₁_elim}
use Rattle.std.proofs.Math.Bool.{Bool-set}
use Rattle.std.proofs.lemmas.Bool.{and_from, ltb-false}
use Rattle.std.proofs.lemmas.Bool.Decides.{nat_tests}
use Rattle.std.proofs.lemmas.Int.{ints}
use Rattle.std.proofs.lemmas.Fmt.{length-decimal-le}
use Rattle.std.specs.Fmt.{decimal}
use Rattle.qz_civil.specs.declared.limits.TheConstants.{LAST, LONGEST}
use Rattle.qz_civil.specs.Timings.{is_name, is_span}
use Rattle.qz_types.specs.Rows.{TriggerData, is_key, is_trigger_spec}
use Rattle.qz_types.specs.declared.keys.Key.{Key}
use Rattle.qz_types.specs.declared.limits.TheConstants.{NUMBER_LIMIT, TRIGGER_LIMIT}
use Rattle.qz_types.specs.declared.triggers.TriggerSpec.{TriggerSpec}
use Rattle.qz_types.specs.Tables.{SchedulerTables, IsMoment, recorded_moment}
use Rattle.qz_types.specs.Words.{job_of, trigger_of}
use Rattle.qz_model.specs.Invariant.{TablesValid}
use Rattle.qz_model.specs.Triggers.{manual_trigger, new_trigger, trigger_now_refusal}
use Rattle.qz_model.proofs.Changes.{moment_within}
use Rattle.qz_model.proofs.KeptTriggers.{manual_absent as absent_in_valid}
use Rattle.qz_model.proofs.NextTimes.{moment_up_to_last}
use Rattle.qz_model.proofs.Refusals.{not_refused}

-- a new trigger is as it was given
pub new_spec : (T : SchedulerTables) (s : TriggerSpec) (next : Option ℤ) → (new_trigger T s next).spec ≡ s
unfolding new_trigger
new_spec T s next = refl

pub new_next : (T : SchedulerTables) (s : TriggerSpec) (next : Option ℤ) → (new_trigger T s next).next ≡ next
unfolding new_trigger
new_next T s next = refl

pub manual_job : (m : ℤ) (n : ℕ) (job : Key) → (manual_trigger m n job).job ≡ job
unfolding manual_trigger
manual_job m n job = refl

none_from : (o : Option TriggerData) → ((t : TriggerData) → o ≡ Some t → ⊥) → o ≡ None
none_from None never = refl
none_from (Some t) never = absurd (never t refl)

-- no trigger is named by the next entry number
pub manual_absent : (T : SchedulerTables) (m : ℤ) (job : Key) → ∥ TablesValid T ∥₁ → T.next_entry + 1 ≤ NUMBER_LIMIT → trigger_of (manual_trigger m T.next_entry job).key T.triggers ≡ None
manual_absent T m job valid room = none_from _ (λ t found. ∥∥₁_elim valid (λ x y. absurd x) (λ is. let none = absent_in_valid T m job is room in absurd (cc)))

-- there is a number for its name
pub manual_room : (T : SchedulerTables) (job : Key) → trigger_now_refusal T job ≡ None → T.next_entry + 1 ≤ NUMBER_LIMIT
unfolding trigger_now_refusal
manual_room T job clear =
    let after_job = (not_refused (is_none (job_of job T.jobs)) _ _ clear).1 in
    let after_limit = (not_refused (nat_le TRIGGER_LIMIT (length T.triggers)) _ _ after_job).1 in
    ltb-false NUMBER_LIMIT (T.next_entry + 1) (not_refused (nat_lt NUMBER_LIMIT (T.next_entry + 1)) _ _ after_limit).0

-- so the trigger that is added is new
pub manual_is_new : (T : SchedulerTables) (m : ℤ) (row : TriggerData) → ∥ TablesValid T ∥₁ → trigger_now_refusal T row.spec.job ≡ None → row ≡ new_trigger T (manual_trigger m T.next_entry row.spec.job) (Some m)
    → trigger_of row.spec.key T.triggers ≡ None
manual_is_new T m row valid clear is =
    let key : row.spec.key ≡ (manual_trigger m T.next_entry row.spec.job).key = ap (λ (t : TriggerData). t.spec.key) is ∙ ap (λ (s : TriggerSpec). s.key) (new_spec T (manual_trigger m T.next_entry row.spec.job) (Some m)) in
    subst (λ k. trigger_of k T.triggers ≡ None) (sym key) (manual_absent T m row.spec.job valid (manual_room T row.spec.job clear))

-- the name of a manual trigger is short enough
manual_name : (n : ℕ) → n < 2 ^ 64 → is_name (codes "now_" ++ decimal n) ≡ true
manual_name n small = grind (arith, nat_tests, length-decimal-le 20 n (lit< tt) (omega arith) small)

-- a manual trigger is valid
pub manual_is_spec : (m : ℤ) (n : ℕ) (job : Key) → is_span m ≡ true → is_key job ≡ true → n < 2 ^ 64 → is_trigger_spec (manual_trigger m n job) ≡ true
unfolding manual_trigger
manual_is_spec m n job span key small = rw (manual_name n small, key, span) refl

le_from : (a b : ℤ) → a ≤ℤ b → int_le a b ≡ true
le_from a b le = grind (arith, ints)

span_of : (t : ℤ) → pos 0 ≤ℤ t → t ≤ℤ LAST → is_span t ≡ true
span_of t low high = and_from (int_le (pos 0) t) (int_le t LONGEST) (le_from (pos 0) t low) (le_from t LONGEST (omega (arith, ints)))

-- the recorded moment is a start that a trigger may have
pub moment_is_span : (T : SchedulerTables) (at : ℤ) → ∥ TablesValid T ∥₁ → is_span (recorded_moment T at) ≡ true
moment_is_span T at valid = ∥∥₁_elim valid (hlevel Bool-set) (λ is.
    let within : IsMoment LAST (recorded_moment T at) = moment_up_to_last T (recorded_moment T at) is (moment_within T at is.next_times.moment) in
    span_of (recorded_moment T at) within.low within.high)

-- a time that is there
pub some_time : (o : Option ℤ) → is_none o ≡ false → IsSome o
some_time None is = absurd cc
some_time (Some t) is = refl
