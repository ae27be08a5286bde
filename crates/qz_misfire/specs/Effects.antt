-- What a misfire instruction asks for. Instructions are numbered as Quartz's constants MISFIRE_INSTRUCTION_*; 0 is the smart
-- policy, which chooses by the kind. Their effects are this scheduler's own.
use Rattle.std.specs.Prelude.{Bool, false, ℤ, pos, negsuc, int_le, int_lt, if◌then◌else◌, Option, Some, None}
use Rattle.std.specs.Ordering.{int_eq}
use Rattle.qz_civil.specs.declared.timings.Kind.{Kind}
use Rattle.qz_civil.specs.declared.timings.Kind.TheVariants.{Simple, Cron, Interval, Daily}
use Rattle.qz_misfire.specs.declared.effects.Effect.{Effect}
use Rattle.qz_misfire.specs.declared.effects.Effect.TheVariants.{FireNow, Restart, RestartWithoutMissed, ResumeCountingMissed, Resume}

-- the smart policy of a simple trigger: one that fires once fires now, and one without end resumes
unfoldable pub smart_effect : ℤ → Effect
smart_effect count =
    if int_eq count (pos 0) then FireNow
    else (if int_eq count (negsuc 0) then ResumeCountingMissed
    else Restart)

-- The instructions of a simple trigger. 1 is FIRE_NOW: one that fires more than once restarts.
unfoldable pub simple_effect : ℤ → ℤ → Effect
simple_effect count instruction =
    if int_eq instruction (pos 0) then smart_effect count
    else (if int_eq instruction (pos 1) then (if int_eq count (pos 0) then FireNow else RestartWithoutMissed)
    else (if int_eq instruction (pos 2) then Restart
    else (if int_eq instruction (pos 3) then RestartWithoutMissed
    else (if int_eq instruction (pos 4) then ResumeCountingMissed
    else Resume))))

-- The instructions of the other kinds: 1 is FIRE_ONCE_NOW, which the smart policy chooses too, and 2 is DO_NOTHING.
unfoldable pub other_effect : ℤ → Effect
other_effect instruction = if int_eq instruction (pos 2) then Resume else FireNow

abbrev pub effect_of : Kind → ℤ → Effect
effect_of (Simple interval count) instruction = simple_effect count instruction
effect_of (Cron fields zone) instruction = other_effect instruction
effect_of (Interval unit every zone preserve skip) instruction = other_effect instruction
effect_of (Daily unit every from to days zone) instruction = other_effect instruction

-- A firing at that time would come after the end. A cron trigger still fires at its end, the others don't.
abbrev pub is_over : Kind → Option ℤ → ℤ → Bool
is_over kind None now = false
is_over (Simple interval count) (Some end) now = int_le end now
is_over (Cron fields zone) (Some end) now = int_lt end now
is_over (Interval unit every zone preserve skip) (Some end) now = int_le end now
is_over (Daily unit every from to days zone) (Some end) now = int_le end now

-- how often a simple trigger fires after its first time, -1 without end; 0 for the other kinds
abbrev pub count_of : Kind → ℤ
count_of (Simple interval count) = count
count_of (Cron fields zone) = pos 0
count_of (Interval unit every zone preserve skip) = pos 0
count_of (Daily unit every from to days zone) = pos 0

-- the time between two firings of a simple trigger, in ms; 0 for the other kinds
abbrev pub interval_of : Kind → ℤ
interval_of (Simple interval count) = interval
interval_of (Cron fields zone) = pos 0
interval_of (Interval unit every zone preserve skip) = pos 0
interval_of (Daily unit every from to days zone) = pos 0
