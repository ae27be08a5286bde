-- Failures of a disk's own, beside those of the disk within.
use Rattle.std.proofs.Common.{ℕ, ◌+◌, ◌≤◌, ◌≡◌, false, Result, arith}
use Rattle.std.specs.Prelude.{Ok, Err, OnOk}
use Rattle.std.specs.Result.{is_err}
use Rattle.qz_civil.specs.Causes.{Rose, HasCause}

-- a count that rose, whatever was answered
pub risen : {T E : Type 0} (before now : ℕ) (r : Result T E) → Rose before now → before ≤ now → HasCause before now r
risen before now (Ok x) rose later = record { later = later; failed = tt }
risen before now (Err e) rose later = record { later = later; failed = rose }

pub own : {T E : Type 0} (inner n m : ℕ) (r : Result T E) → n ≤ m → Rose n m → HasCause (inner + n) (inner + m) r
own inner n m r later rose = risen (inner + n) (inner + m) r (omega arith) (omega arith)

pub passed_on : {T E : Type 0} (n m before now : ℕ) (r : Result T E) → n ≤ m → HasCause before now r → HasCause (before + n) (now + m) r
passed_on n m before now (Ok x) le cause = record { later = omega (arith, cause.later); failed = tt }
passed_on n m before now (Err e) le cause = record { later = omega (arith, cause.later); failed = omega (arith, cause.failed, cause.later) }

pub ruleset own_failures = (own, passed_on)

pub on_ok : {T E : Type 0} (r : Result T E) (P : Type 0) → is_err r ≡ false → OnOk r P → P
on_ok (Ok x) P ok p = p
on_ok (Err e) P ok p = cc
