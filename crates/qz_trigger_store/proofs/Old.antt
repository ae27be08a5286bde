-- Stores of version one that weren't upgraded.
use Rattle.std.proofs.Common.{◌≡◌, ℤ, subst}
use Rattle.std.proofs.Math.Logic.{∥∥₁_map}
use Rattle.std.specs.Prelude.{IfSome}
use Rattle.std.specs.List.{AllByRecursion}
use Rattle.qz_civil.specs.declared.limits.TheConstants.{VERSION_ONE_LAST}
use Rattle.qz_types.specs.Rows.{TriggerData}
use Rattle.qz_types.specs.Tables.{SchedulerTables, IsMoment}
use Rattle.qz_model.specs.History.{replay}
use Rattle.qz_model.specs.Invariant.{TablesValid}
use Rattle.qz_trigger_store.specs.Entries.{TriggerState}
use Rattle.qz_trigger_store.specs.Opening.{IsSound}

-- the next times are moments up to this one
abbrev AreWithin : ℤ → SchedulerTables → Type 0
AreWithin horizon T = AllByRecursion (λ (t : TriggerData). IfSome t.next (IsMoment horizon)) T.triggers

within_horizon : (T : SchedulerTables) (horizon : ℤ) → T.horizon ≡ horizon → TablesValid T → AreWithin horizon T
within_horizon T horizon is valid = subst (λ (h : ℤ). AreWithin h T) is valid.next_times.within

pub until_2099 : (s : TriggerState) → IsSound s → (replay s.history).horizon ≡ VERSION_ONE_LAST → ∥ AreWithin VERSION_ONE_LAST (replay s.history) ∥₁
until_2099 s sound old = ∥∥₁_map sound.state (within_horizon (replay s.history) VERSION_ONE_LAST old)
