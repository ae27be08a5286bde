-- The number that the name of an added trigger ends in, read from the left.
use Rattle.std.specs.Prelude.{ℕ, ◌+◌, ◌-◌, ◌*◌, ◌^◌, ◌≤◌, List, fold, count_by, Bool, not, false, ◌&&◌, ◌||◌, nat_lt, nat_le, ◌==◌, Option, Some, None, is_none, if◌then◌else◌}
use Rattle.qz_types.specs.Rows.{TriggerData}
use Rattle.qz_types.specs.Tables.{SchedulerTables}
use Rattle.qz_types.specs.Words.{fired_of}
use Rattle.qz_model.specs.Triggers.{is_reserved}
use Rattle.qz_valid.specs.declared.names.Ending.{Ending}
use Rattle.qz_valid.specs.declared.names.Ending.TheVariants.{Underscore, Number, Other}

abbrev pub is_digit : ℕ → Bool
is_digit byte = nat_le 48 byte && nat_le byte 57

-- A digit more: a number doesn't begin with a 0, and has 64 bits at most.
abbrev pub with_digit : Ending → ℕ → Ending
with_digit Underscore digit = Number digit
with_digit (Number n) digit = if nat_lt 0 n && nat_lt (n * 10 + digit) (2 ^ 64) then Number (n * 10 + digit) else Other
with_digit Other digit = Other

-- a byte more
unfoldable pub with_byte : Ending → ℕ → Ending
with_byte ending byte = if byte == 95 then Underscore else (if is_digit byte then with_digit ending (byte - 48) else Other)

abbrev pub number_at : Ending → Option ℕ
number_at Underscore = None
number_at (Number n) = Some n
number_at Other = None

-- the number that the name ends in, after an underscore
unfoldable pub number_of : List ℕ → Option ℕ
number_of name = number_at (fold with_byte Other name)

-- the number that the name of a trigger ends in, if the scheduler added it
unfoldable pub added_number : TriggerData → Option ℕ
added_number t = if is_reserved t.spec.key.group then number_of t.spec.key.name else None

-- it is this number
abbrev pub is_number : ℕ → Option ℕ → Bool
is_number n None = false
is_number n (Some m) = m == n

-- the number was given as an entry number, and no fired row has it
abbrev pub is_spent : SchedulerTables → Option ℕ → Bool
is_spent T None = false
is_spent T (Some n) = nat_lt n T.next_entry && is_none (fired_of n T.fired)

-- the name of a trigger that the scheduler added ends in such a number
unfoldable pub name_fits : SchedulerTables → TriggerData → Bool
name_fits T t = not (is_reserved t.spec.key.group) || is_spent T (added_number t)

-- no two of them are named by one number
abbrev pub AreApart : List TriggerData → Type 0
AreApart triggers = (n : ℕ) → count_by (λ t. is_number n (added_number t)) triggers ≤ 1
