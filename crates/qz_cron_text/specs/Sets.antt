-- Sets of values as bits.
use Rattle.std.specs.Prelude.{ℕ, ◌+◌, ◌^◌, if◌then◌else◌, Bool, zero, suc}
use Rattle.qz_civil.specs.declared.fields.Field.{Field}
use Rattle.qz_cron_text.specs.declared.runs.Run.{Run}
use Rattle.qz_cron_text.specs.Runs.{has_value}

-- the bit set of the numbers below n that pass
unfoldable pub set_of : (ℕ → Bool) → ℕ → ℕ
set_of test zero = 0
set_of test (suc n) = if test n then set_of test n + 2 ^ n else set_of test n

-- the 64 numbers from `from` on that the run has
unfoldable pub word_of : Field → Run → ℕ → ℕ
word_of field run from = set_of (λ i. has_value field run (from + i)) 64
