-- Which triggers are due.
use Rattle.std.specs.Prelude.{◌≡◌, ⊤, ℤ, negsuc, ◌-ℤ◌, List, [], ◌∷◌, Bool, false, not, ◌&&◌, int_le, int_lt, filter, Option, Some, None}
use Rattle.std.specs.Ordering.{int_eq, is_gt}
use Rattle.qz_types.specs.Due.{is_waiting, due_cmp, in_due_order}
use Rattle.qz_types.specs.Rows.{TriggerData}
use Rattle.qz_types.specs.Tables.{SchedulerTables}

-- there is a next time, and it isn't past the limit
abbrev pub is_up_to : ℤ → Option ℤ → Bool
is_up_to limit None = false
is_up_to limit (Some next) = int_le next limit

-- there is a next time, and it lies before this one
abbrev pub is_before : ℤ → Option ℤ → Bool
is_before time None = false
is_before time (Some next) = int_lt next time

-- its next time lies further back than the threshold, and its instruction isn't -1, Quartz's
-- MISFIRE_INSTRUCTION_IGNORE_MISFIRE_POLICY
unfoldable pub is_misfired : SchedulerTables → ℤ → TriggerData → Bool
is_misfired T m t = not (int_eq t.spec.timing.misfire (negsuc 0)) && is_before (m -ℤ T.threshold) t.next

-- it waits, its next time isn't past the limit, and it isn't misfired
unfoldable pub is_due : SchedulerTables → ℤ → ℤ → TriggerData → Bool
is_due T m limit t = is_waiting t.state && is_up_to limit t.next && not (is_misfired T m t)

-- the triggers that a node may acquire at m, up to the limit
unfoldable pub due_triggers : SchedulerTables → ℤ → ℤ → List TriggerData
due_triggers T m limit = in_due_order (filter (is_due T m limit) T.triggers)

-- the trigger doesn't come after the first of these
abbrev pub IsNotAfterFirst : TriggerData → List TriggerData → Type 0
IsNotAfterFirst t [] = ⊤
IsNotAfterFirst t (u ∷ us) = is_gt (due_cmp t u) ≡ false

-- no trigger comes after the next one in due order
abbrev pub IsInDueOrder : List TriggerData → Type 0
IsInDueOrder [] = ⊤
IsInDueOrder (t ∷ ts) = IsNotAfterFirst t ts × IsInDueOrder ts
