-- A moment that a run may have is one of the tables of a store that isn't old.
use Rattle.std.proofs.Common.{◌≡◌, inl, inr, ◌∙◌, ℤ, ◌≤ℤ◌, true, false, sym, ap, subst}
use Rattle.std.specs.Ordering.{int_eq}
use Rattle.qz_civil.specs.declared.limits.TheConstants.{VERSION_ONE_LAST}
use Rattle.qz_types.specs.Tables.{SchedulerTables, IsMoment}
use Rattle.qz_model.specs.Invariant.{IsHorizon, TablesValid}
use Rattle.qz_trigger_store.specs.Entries.{is_old}
use Rattle.qz_run.specs.Stores.{IsTime}

within : (T : SchedulerTables) (at : ℤ) → is_old T ≡ false → IsTime at → IsHorizon T.horizon → IsMoment T.horizon at
within T at current time (inl old) = let bad : true ≡ false = sym (ap (λ h. int_eq h VERSION_ONE_LAST) old) ∙ current in absurd cc
within T at current time (inr last) = record { low = time.low; high = subst (λ h. at ≤ℤ h) (sym last) time.high }

pub is_moment : (T : SchedulerTables) (at : ℤ) → TablesValid T → is_old T ≡ false → IsTime at → IsMoment T.horizon at
is_moment T at valid current time = within T at current time valid.references_and_limits.limits.horizon
