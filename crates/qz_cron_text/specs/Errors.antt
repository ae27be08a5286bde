-- Faults of cron texts: their numbers, and how they give places.
use Rattle.std.specs.Prelude.{ℕ, ◌-◌, ◌^◌, min}
use Rattle.qz_cron_text.specs.declared.errors.CronError.{CronError}
use Rattle.qz_cron_text.specs.declared.errors.CronError.TheVariants.{FieldCount, BadToken, OutOfRange, BothDays, NoDays, BadStep, NotAlone}

-- the number of each kind of fault
abbrev pub error_number : CronError → ℕ
error_number (FieldCount found) = 1
error_number (BadToken field at) = 2
error_number (OutOfRange field value) = 3
error_number BothDays = 4
error_number NoDays = 5
error_number (BadStep field) = 6
error_number (NotAlone field) = 7

-- a place or a count in 32 bits; a greater one is given as the greatest
abbrev pub u32_of : ℕ → ℕ
u32_of n = min n (2 ^ 32 - 1)
