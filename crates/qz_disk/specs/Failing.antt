-- Disks that fail by a rule: which calls they pass on to the disk within.
use Rattle.std.specs.Prelude.{◌≡◌, ◌≢◌, ℕ, Some, None, true, false, OnOk}
use Rattle.std.specs.declared.result.Result.{Result}
use Rattle.qz_civil.specs.Causes.{HasCause}
use Rattle.qz_disk.specs.Counts.{counted, one_less, is_listed}
use Rattle.qz_disk.specs.declared.cut.CutDisk.{CutDisk}
use Rattle.qz_disk.specs.declared.fault.FaultDisk.{FaultDisk}

-- A call of a disk that is cut: where no pass is left it fails and does nothing but count, else it is passed on.
pub record CutsOrPasses {D T E : Type 0} (faults : D → ℕ) (result : Result T E) (old new : CutDisk D) : Type 0 where
  pub passes : new.passes ≡ one_less old.passes
  pub cut : old.passes ≡ Some 0 → OnOk result ⊥ × (new.inner ≡ old.inner) × (new.failures ≡ counted old.failures)
  pub passed : old.passes ≢ Some 0 → HasCause (faults old.inner) (faults new.inner) result × (new.failures ≡ old.failures)

-- a restart lifts the cut, and is passed on
pub record LiftsTheCut {D T E : Type 0} (faults : D → ℕ) (result : Result T E) (old new : CutDisk D) : Type 0 where
  pub passes : new.passes ≡ None
  pub passed : HasCause (faults old.inner) (faults new.inner) result
  pub failures : new.failures ≡ old.failures

-- A call of a disk with a list of calls that fail: one with a listed number does nothing but count, else it is passed on.
pub record FailsOrPasses {D T E : Type 0} (faults : D → ℕ) (result : Result T E) (old new : FaultDisk D) : Type 0 where
  pub calls : new.calls ≡ counted old.calls
  pub failing : new.failing ≡ old.failing
  pub listed : is_listed old.failing (counted old.calls) ≡ true
      → OnOk result ⊥ × (new.inner ≡ old.inner) × (new.failures ≡ counted old.failures)
  pub passed : is_listed old.failing (counted old.calls) ≡ false
      → HasCause (faults old.inner) (faults new.inner) result × (new.failures ≡ old.failures)
