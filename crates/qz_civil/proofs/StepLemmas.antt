-- How long a step in seconds is at most.
use Rattle.std.proofs.Common.{◌≡◌, ℕ, ◌*◌, ◌^◌, ◌<◌, ◌≤◌, Some, ap, arith}
use Rattle.std.specs.Prelude.{unwrap_or}
use Rattle.std.proofs.lemmas.Nat.{mul-le}
use Rattle.qz_civil.specs.declared.timings.Unit.{Unit}
use Rattle.qz_civil.specs.declared.timings.Unit.TheVariants.{Second, Minute, Hour, Day, Week, Month, Year}
use Rattle.qz_civil.specs.Timings.{seconds}

-- the seconds of a unit, and 0 where it varies in length
abbrev pub seconds_or_0 : Unit → ℕ
seconds_or_0 unit = unwrap_or (seconds unit) 0

seconds-most : (unit : Unit) → seconds_or_0 unit ≤ 3600
unfolding seconds
seconds-most Second = omega arith
seconds-most Minute = omega arith
seconds-most Hour = omega arith
seconds-most Day = omega arith
seconds-most Week = omega arith
seconds-most Month = omega arith
seconds-most Year = omega arith

pub even_step_most : (every : ℕ) (unit : Unit) → every < 2 ^ 32 → every * seconds_or_0 unit < 2 ^ 62
even_step_most every unit lt = omega (arith, mul-le every (seconds_or_0 unit) 4294967295 3600 (omega arith) (seconds-most unit))

pub step_most : (every length : ℕ) (unit : Unit) → every < 2 ^ 32 → seconds unit ≡ Some length → every * length < 2 ^ 62
step_most every length unit lt e =
    let same : seconds_or_0 unit ≡ length = ap (λ o. unwrap_or o 0) e in
    rw same at (even_step_most every unit lt)
