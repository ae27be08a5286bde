-- Which triggers come next in due order.
use Rattle.std.specs.Prelude.{List, Bool, true, ◌&&◌, filter, Option, Some, None, option_and_then, if◌then◌else◌}
use Rattle.std.specs.List.{slice_get}
use Rattle.std.specs.Ordering.{is_gt}
use Rattle.qz_types.specs.Due.{is_waiting, due_cmp, in_due_order}
use Rattle.qz_types.specs.Rows.{TriggerData}
use Rattle.qz_types.specs.declared.keys.Key.{Key}
use Rattle.qz_types.specs.Words.{trigger_of}

-- the trigger comes after this one, if one is given
abbrev pub is_later : Option TriggerData → TriggerData → Bool
is_later None t = true
is_later (Some u) t = is_gt (due_cmp t u)

-- the trigger waits, and comes after this one, if one is given
abbrev pub waits_after : Option TriggerData → TriggerData → Bool
waits_after after t = is_waiting t.state && is_later after t

-- the trigger waits, comes after this one, if one is given, and passes
abbrev pub waits_and : Option TriggerData → (TriggerData → Bool) → TriggerData → Bool
waits_and after p t = waits_after after t && p t

-- these triggers in due order
unfoldable pub waiting : Option TriggerData → List TriggerData → List TriggerData
waiting after triggers = in_due_order (filter (waits_after after) triggers)

-- the first trigger that waits
unfoldable pub due_first : List TriggerData → Option TriggerData
due_first triggers = slice_get (waiting None triggers) 0

-- the first that waits and passes, and comes after the trigger of this key, if one is given; that has to be stored
unfoldable pub due_next : Option Key → (TriggerData → Bool) → List TriggerData → Option TriggerData
due_next None p triggers = slice_get (filter p (waiting None triggers)) 0
due_next (Some k) p triggers = option_and_then (λ t. slice_get (filter p (waiting (Some t) triggers)) 0) (trigger_of k triggers)

-- the trigger, if it waits
abbrev pub waiting_only : Option TriggerData → Option TriggerData
waiting_only None = None
waiting_only (Some t) = if is_waiting t.state then Some t else None
