-- Runs of values: `*`, `a`, `a-b`, and with a step. Each is a first value, a last one and a step.
use Rattle.std.specs.Prelude.{ℕ, ◌+◌, ◌-◌, ◌%◌, List, [], ◌∷◌, Option, Some, None, if◌then◌else◌, Bool, ◌&&◌, ◌||◌, not, nat_le, nat_lt, nat_eq, length, true, false, ◌==◌}
use Rattle.std.specs.Option.{option_map, option_and_then}
use Rattle.qz_civil.specs.declared.fields.Field.{Field}
use Rattle.qz_civil.specs.declared.fields.Field.TheVariants.{Seconds, Minutes, Hours, DayOfMonth, Month, DayOfWeek, Year}
use Rattle.qz_civil.specs.Fields.{number, least, greatest, size, is_value}
use Rattle.qz_cron_text.specs.declared.runs.Run.{Run}
use Rattle.qz_cron_text.specs.declared.errors.CronError.{CronError}
use Rattle.qz_cron_text.specs.declared.errors.CronError.TheVariants.{OutOfRange, BadStep}
use Rattle.qz_cron_text.specs.Cuts.{Parts, cut_at}
use Rattle.qz_cron_text.specs.Values.{number_of, value_of}

abbrev pub is_star : List ℕ → Bool
is_star (b ∷ []) = b == 42
is_star _ = false

-- each value of the field, every step-th
abbrev pub all_by : Field → ℕ → Run
all_by field step = record { first = least field; last = greatest field; step = step }

-- a value, to `last` where no second one follows, or two values with a dash
abbrev pub two_values : Field → (ℕ → ℕ) → ℕ → List ℕ → Option (List ℕ) → Option Run
two_values field last step a None =
    option_map (λ first. record { first = first; last = last first; step = step }) (value_of field a)
two_values field last step a (Some b) =
    option_and_then (λ first. option_map (λ last. record { first = first; last = last; step = step }) (value_of field b)) (value_of field a)

abbrev pub values_by : Field → (ℕ → ℕ) → ℕ → Parts → Option Run
values_by field last step parts = two_values field last step parts.front parts.rest

-- `*`, `a` or `a-b`
unfoldable pub closed_run : Field → List ℕ → Option Run
closed_run field text = if is_star text then Some (all_by field 1) else values_by field (λ a. a) 1 (cut_at 45 text)

-- nothing, `*`, `a` or `a-b`, before `/step`
unfoldable pub open_run : Field → List ℕ → ℕ → Option Run
open_run field text step =
    if nat_eq (length text) 0 || is_star text then Some (all_by field step)
    else values_by field (λ _. greatest field) step (cut_at 45 text)

abbrev pub run_with : Field → List ℕ → Option (List ℕ) → Option Run
run_with field base None = closed_run field base
run_with field base (Some step) = option_and_then (λ n. open_run field base n) (number_of step)

abbrev pub run_by : Field → Parts → Option Run
run_by field parts = run_with field parts.front parts.rest

unfoldable pub run_of : Field → List ℕ → Option Run
run_of field text = run_by field (cut_at 47 text)

abbrev pub is_year : Field → Bool
is_year Year = true
is_year Seconds = false
is_year Minutes = false
is_year Hours = false
is_year DayOfMonth = false
is_year Month = false
is_year DayOfWeek = false

-- the first value that is out of range, where a first year after the last one is too, or else a step that is
unfoldable pub run_fault : Field → Run → Option CronError
run_fault field run =
    if not (is_value field run.first) then Some (OutOfRange (number field) run.first)
    else if is_year field && nat_lt run.last run.first then Some (OutOfRange (number field) run.first)
    else if not (is_value field run.last) then Some (OutOfRange (number field) run.last)
    else if nat_lt run.step 1 || nat_lt 59 run.step then Some (BadStep (number field))
    else None

-- how far value number i is from number a on, where after the last of n values the first comes
abbrev pub ahead : ℕ → ℕ → ℕ → ℕ
ahead n a i = if nat_le a i then i - a else i + n - a

-- value number i is one of the run's
unfoldable pub has_value : Field → Run → ℕ → Bool
has_value field run i =
    nat_lt i (size field)
    && nat_le (ahead (size field) (run.first - least field) i) (ahead (size field) (run.first - least field) (run.last - least field))
    && (ahead (size field) (run.first - least field) i % run.step == 0)
