-- Fire times up to the horizon, and how far the horizon may be.
use Rattle.std.proofs.Common.{◌≡◌, inl, inr, ℤ, negsuc, int_le, ◌≤ℤ◌, ◌<ℤ◌, true, false, Option, Some, None, IfSome, refl, sym, subst, arith, if◌then◌else◌}
use Rattle.std.proofs.lemmas.Int.{ints}
use Rattle.qz_civil.specs.declared.limits.TheConstants.{LAST}
use Rattle.qz_civil.specs.Least.{IsNext}
use Rattle.qz_misfire.proofs.NextLaws.{same_next}
use Rattle.qz_plan.proofs.Plan.{fire_time_within}
use Rattle.qz_plan.specs.Plan.{fire_time_after}
use Rattle.qz_types.specs.declared.triggers.TriggerSpec.{TriggerSpec}
use Rattle.qz_types.specs.Tables.{SchedulerTables, IsMoment}
use Rattle.qz_model.specs.Plan.{zone_named_by, stretches_for, zoned_chain, within, next_after}
use Rattle.qz_model.specs.Invariant.{IsHorizon, TablesValid}

-- The horizon lies from 0 to LAST.
pub horizon_moment : (horizon : ℤ) → IsHorizon horizon → IsMoment LAST horizon
horizon_moment horizon (inl one) = subst (IsMoment LAST) (sym one) (record { low = omega (arith, ints); high = omega (arith, ints) })
horizon_moment horizon (inr two) = subst (IsMoment LAST) (sym two) (record { low = omega (arith, ints); high = omega (arith, ints) })

pub horizon_of_valid : (T : SchedulerTables) → TablesValid T → IsMoment LAST T.horizon
horizon_of_valid T valid = horizon_moment T.horizon valid.references_and_limits.limits.horizon

-- So does each moment up to the horizon.
pub moment_further : (near far m : ℤ) → near ≤ℤ far → IsMoment near m → IsMoment far m
moment_further near far m further is = record { low = is.low; high = omega (arith, ints, is.high) }

pub moment_up_to_last : (T : SchedulerTables) (m : ℤ) → TablesValid T → IsMoment T.horizon m → IsMoment LAST m
moment_up_to_last T m valid is = moment_further T.horizon LAST m (horizon_of_valid T valid).high is

-- A time that is kept is the one that was found, and comes no later than the horizon.
pub within-some : (horizon : ℤ) (o : Option ℤ) (n : ℤ) → within horizon o ≡ Some n → (o ≡ Some n) × (n ≤ℤ horizon)
within-some horizon None n is = absurd (cc)
within-some horizon (Some time) n is = elim (int_le time horizon) as (λ b. int_le time horizon ≡ b → (if b then Some time else None) ≡ Some n → (Some time ≡ Some n) × (n ≤ℤ horizon)) [
  | true ↦ λ early same. let own : time ≡ n = cc in (same, subst (λ x. x ≤ℤ horizon) own (grind (arith, ints)))
  | false ↦ λ late none. absurd (cc)
] refl is

-- Where none is kept, what was found comes after the horizon.
pub within-none : (horizon : ℤ) (o : Option ℤ) (n : ℤ) → within horizon o ≡ None → o ≡ Some n → horizon <ℤ n
within-none horizon None n none is = absurd (cc)
within-none horizon (Some time) n none is = elim (int_le time horizon) as (λ b. int_le time horizon ≡ b → (if b then Some time else None) ≡ None → horizon <ℤ n) [
  | true ↦ λ early kept. absurd (cc)
  | false ↦ λ late kept. let own : time ≡ n = cc in subst (λ x. horizon <ℤ x) own (grind (arith, ints))
] refl none

-- A time up to the horizon is kept, and one after it isn't.
pub within-early : (horizon n : ℤ) → n ≤ℤ horizon → within horizon (Some n) ≡ Some n
within-early horizon n early = let test : int_le n horizon ≡ true = grind (arith, ints) in rw test refl

pub within-late : (horizon n : ℤ) → horizon <ℤ n → within horizon (Some n) ≡ None
within-late horizon n late = let test : int_le n horizon ≡ false = grind (arith, ints) in rw test refl

-- Where no time comes after the horizon, all is kept.
pub within-all : (horizon : ℤ) (o : Option ℤ) → IfSome o (λ n. n ≤ℤ horizon) → within horizon o ≡ o
within-all horizon None early = refl
within-all horizon (Some n) early = within-early horizon n early

-- The least member of a set that comes after a number is the least up to a nearer horizon where it is kept, and else there is none.
pub next-within : (horizon far : ℤ) (Member : ℤ → Type 0) (after : ℤ) (o : Option ℤ) → horizon ≤ℤ far → IsNext far Member after o → IsNext horizon Member after (within horizon o)
next-within horizon far Member after None further none = λ s member later early. none s member later (omega (arith, ints))
next-within horizon far Member after (Some t) further least = elim (int_le t horizon) as (λ b. int_le t horizon ≡ b → IsNext horizon Member after (if b then Some t else None)) [
  | true ↦ λ early. record { member = least.member; later = least.later; within = grind (arith, ints); least = least.least }
  | false ↦ λ late. λ s member later early. (let first = least.least s member later in let past : horizon <ℤ t = grind (arith, ints) in omega (arith, ints))
] refl

-- So it is whatever is the least up to the nearer horizon.
pub within-one : (horizon far : ℤ) (Member : ℤ → Type 0) (after : ℤ) (o r : Option ℤ) → horizon ≤ℤ far → IsNext far Member after o → IsNext horizon Member after r → within horizon o ≡ r
within-one horizon far Member after o r further least near = same_next horizon Member after (within horizon o) r (next-within horizon far Member after o further least) near

moments_from : (horizon : ℤ) (o : Option ℤ) → ((n : ℤ) → o ≡ Some n → IsMoment horizon n) → IfSome o (IsMoment horizon)
moments_from horizon None each = tt
moments_from horizon (Some n) each = each n refl

-- A fire time after t lies within the horizon.
pub next_after-moment : (T : SchedulerTables) (s : TriggerSpec) (t : ℤ) → negsuc 0 ≤ℤ t → IfSome (next_after T s t) (IsMoment T.horizon)
unfolding next_after
next_after-moment T s t low = moments_from T.horizon (next_after T s t) (λ n found.
    let zone = stretches_for T.zones (zone_named_by s.timing.kind) in
    let chain = zoned_chain T s.calendar in
    let is = within-some T.horizon (fire_time_after s.timing zone chain t) n found in
    let later = fire_time_within s.timing zone chain t n low is.0 in
    record { low = omega (arith, ints, later.0); high = is.1 })

pub next_after-within : (T : SchedulerTables) (s : TriggerSpec) (m : ℤ) → IsMoment T.horizon m → IfSome (next_after T s m) (IsMoment T.horizon)
next_after-within T s m is = next_after-moment T s m (omega (arith, ints, is.low))
