-- A trigger that fires once, at its start, has its start for its first time.
use Rattle.std.proofs.Common.{◌≡◌, ℕ, ℤ, pos, negsuc, false, List, [], Some, None, IsTrue, inr, sym, ap, ◌∙◌, arith}
use Rattle.std.proofs.lemmas.Int.{ints}
use Rattle.std.proofs.lemmas.List.Elements.{All-nil}
use Rattle.qz_civil.specs.declared.limits.TheConstants.{LAST}
use Rattle.qz_civil.specs.declared.stretches.Stretch.{Stretch}
use Rattle.qz_civil.specs.declared.timings.Kind.TheVariants.{Simple}
use Rattle.qz_civil.specs.declared.timings.Timing.{Timing}
use Rattle.qz_civil.specs.Least.{IsLeast}
use Rattle.qz_civil.specs.Timings.{is_timing}
use Rattle.qz_calendar.specs.Chains.{ZonedCalendar, excludes_at}
use Rattle.qz_plan.specs.FireTimes.{IsFireTime}
use Rattle.qz_plan.specs.Plan.{fire_time_after}
use Rattle.qz_plan.proofs.PlanLaws.{fire_time-one}
use Rattle.qz_types.specs.Rows.{FiredData}
use Rattle.qz_types.specs.declared.keys.Key.{Key}
use Rattle.qz_types.specs.Tables.{SchedulerTables, IsMoment}
use Rattle.qz_types.specs.Chains.{chain_of}
use Rattle.qz_model.specs.Invariant.{TablesValid}
use Rattle.qz_model.specs.Plan.{zoned_chain, within, next_after, first_time}
use Rattle.qz_model.specs.Recovery.{recovery_trigger}
use Rattle.qz_model.specs.Triggers.{manual_trigger}
use Rattle.qz_model.proofs.NextTimes.{moment_up_to_last, within-early}

-- once, at t
abbrev once : ℤ → ℤ → Timing
once misfire t = record { kind = Simple (pos 0) (pos 0); misfire = misfire; start = t; end = None }

once_least : (zone : List Stretch) (misfire t : ℤ) → IsMoment LAST t → IsLeast LAST (IsFireTime (once misfire t) zone []) (negsuc 0) t
once_least zone misfire t is = record {
  member = record { scheduled = record { place = 0; at = omega (arith, ints); counted = inr (omega (arith, ints)); before = tt }; included = All-nil (λ (c : ZonedCalendar). excludes_at c t ≡ false) };
  later = omega (arith, ints, is.low);
  within = is.high;
  least = λ s member later. (let at = member.scheduled.at in omega (arith, ints));
}

once_first : (zone : List Stretch) (misfire t : ℤ) → IsTrue (is_timing (once misfire t)) → IsMoment LAST t → Some t ≡ fire_time_after (once misfire t) zone [] (negsuc 0)
once_first zone misfire t valid is = fire_time-one (once misfire t) zone [] valid (negsuc 0) (Some t) (omega (arith, ints)) (once_least zone misfire t is)

-- it is kept where it comes up to the horizon
once_kept : (T : SchedulerTables) (zone : List Stretch) (misfire t : ℤ) → IsTrue (is_timing (once misfire t)) → TablesValid T → IsMoment T.horizon t
    → Some t ≡ within T.horizon (fire_time_after (once misfire t) zone [] (negsuc 0))
once_kept T zone misfire t timing valid is = sym (within-early T.horizon t is.high) ∙ ap (within T.horizon) (once_first zone misfire t timing (moment_up_to_last T t valid is))

once_manual : (t : ℤ) → IsMoment LAST t → IsTrue (is_timing (once (pos 0) t))
once_manual t is = let low = is.low in let high = is.high in grind (arith, ints)

once_recovery : (t : ℤ) → IsMoment LAST t → IsTrue (is_timing (once (negsuc 0) t))
once_recovery t is = let low = is.low in let high = is.high in grind (arith, ints)

-- the trigger of a TriggerNow
pub manual_timing : (m : ℤ) (entry : ℕ) (job : Key) → IsMoment LAST m → IsTrue (is_timing (manual_trigger m entry job).timing)
unfolding manual_trigger
manual_timing m entry job is = once_manual m is

pub manual_first : (T : SchedulerTables) (m : ℤ) (entry : ℕ) (job : Key) → TablesValid T → IsMoment T.horizon m → Some m ≡ first_time T (manual_trigger m entry job)
unfolding manual_trigger next_after zoned_chain chain_of
manual_first T m entry job valid is = once_kept T _ (pos 0) m (once_manual m (moment_up_to_last T m valid is)) valid is

-- and that of a recovery
pub recovery_timing : (groups job_groups : List (List ℕ)) (f : FiredData) → IsMoment LAST f.scheduled → IsTrue (is_timing (recovery_trigger groups job_groups f).spec.timing)
unfolding recovery_trigger
recovery_timing groups job_groups f is = once_recovery f.scheduled is

pub recovery_first : (T : SchedulerTables) (groups job_groups : List (List ℕ)) (f : FiredData) → TablesValid T → IsMoment T.horizon f.scheduled
    → (recovery_trigger groups job_groups f).next ≡ first_time T (recovery_trigger groups job_groups f).spec
unfolding recovery_trigger next_after zoned_chain chain_of
recovery_first T groups job_groups f valid is = once_kept T _ (negsuc 0) f.scheduled (once_recovery f.scheduled (moment_up_to_last T f.scheduled valid is)) valid is
