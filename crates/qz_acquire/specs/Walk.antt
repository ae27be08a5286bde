-- The walk along the triggers that wait, in due order.
use Rattle.std.specs.Prelude.{ℤ, negsuc, Bool, false, not, ◌&&◌, int_le, int_lt, Option, Some, None, if◌then◌else◌}
use Rattle.std.specs.Ordering.{int_eq}
use Rattle.qz_types.specs.Due.{is_waiting}
use Rattle.qz_types.specs.Rows.{TriggerData}
use Rattle.qz_types.specs.Tables.{SchedulerTables}
use Rattle.qz_model.specs.Due.{is_up_to, is_before, is_misfired}

-- there is a next time, and it is past the limit
abbrev pub is_past : ℤ → Option ℤ → Bool
is_past limit None = false
is_past limit (Some next) = int_lt limit next

-- there is a next time, and it doesn't lie before this one
abbrev pub is_from : ℤ → Option ℤ → Bool
is_from time None = false
is_from time (Some next) = int_le time next

-- the next time lies before the earliest that isn't misfired, and the instruction isn't -1
abbrev pub is_late : ℤ → TriggerData → Bool
is_late earliest t = not (int_eq t.spec.timing.misfire (negsuc 0)) && is_before earliest t.next

-- the trigger waits, and is misfired
abbrev pub is_missed : ℤ → TriggerData → Bool
is_missed earliest t = is_waiting t.state && is_late earliest t

-- the trigger waits, is due up to the limit, and isn't misfired
abbrev pub is_on_time : ℤ → ℤ → TriggerData → Bool
is_on_time earliest limit t = is_waiting t.state && is_up_to limit t.next && not (is_late earliest t)

-- the trigger waits, and is misfired
abbrev pub is_waiting_misfired : SchedulerTables → ℤ → TriggerData → Bool
is_waiting_misfired T m t = is_waiting t.state && is_misfired T m t

-- A walk stops at the triggers that pass. Of them it takes those that aren't past the end.
abbrev pub unless_past : (TriggerData → Bool) → Option TriggerData → Option TriggerData
unless_past past None = None
unless_past past (Some t) = if past t then None else Some t
