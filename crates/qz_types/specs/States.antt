-- The states of triggers and of fired rows, and what commands make of them.
use Rattle.std.specs.Prelude.{Bool, true, false, ◌&&◌}
use Rattle.qz_types.specs.Rows.{FiredData}
use Rattle.qz_types.specs.Words.{same_key}
use Rattle.qz_types.specs.declared.keys.Key.{Key}
use Rattle.qz_types.specs.declared.triggers.TriggerState.{TriggerState}
use Rattle.qz_types.specs.declared.triggers.TriggerState.TheVariants.{Waiting, Acquired, Complete, Blocked, Paused, PausedBlocked, Error}
use Rattle.qz_types.specs.declared.fired.FiredState.{FiredState}
use Rattle.qz_types.specs.declared.fired.FiredState.TheVariants as row

-- Fired rows.

-- the execution hasn't begun
abbrev pub is_acquired : FiredState → Bool
is_acquired row.Acquired = true
is_acquired row.Executing = false

-- the row is that of an acquired trigger, of this key
unfoldable pub is_acquired_for : Key → FiredData → Bool
is_acquired_for trigger f = is_acquired f.state && same_key trigger f.trigger

-- Triggers. A trigger that is paused while an execution of its job excludes it is in the state PausedBlocked.

-- it fires no more until it is resumed
abbrev pub paused : TriggerState → TriggerState
paused Waiting = Paused
paused Acquired = Paused
paused Complete = Complete
paused Blocked = PausedBlocked
paused Paused = Paused
paused PausedBlocked = PausedBlocked
paused Error = Error

-- it isn't paused any more
abbrev pub resumed : TriggerState → TriggerState
resumed Waiting = Waiting
resumed Acquired = Acquired
resumed Complete = Complete
resumed Blocked = Blocked
resumed Paused = Waiting
resumed PausedBlocked = Blocked
resumed Error = Error

-- an execution of its job excludes all others from now on
abbrev pub blocked : TriggerState → TriggerState
blocked Waiting = Blocked
blocked Acquired = Blocked
blocked Complete = Complete
blocked Blocked = Blocked
blocked Paused = PausedBlocked
blocked PausedBlocked = PausedBlocked
blocked Error = Error

-- that execution has ended
abbrev pub unblocked : TriggerState → TriggerState
unblocked Waiting = Waiting
unblocked Acquired = Acquired
unblocked Complete = Complete
unblocked Blocked = Waiting
unblocked Paused = Paused
unblocked PausedBlocked = Paused
unblocked Error = Error

-- the state of a trigger that is stored now, by whether it is paused with a group and an execution excludes others of its job
abbrev pub first_state : Bool → Bool → TriggerState
first_state false false = Waiting
first_state true false = Paused
first_state false true = Blocked
first_state true true = PausedBlocked
