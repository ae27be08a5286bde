-- Changes of rows, and of all rows that pass a test.
use Rattle.std.specs.Prelude.{◌+◌, min, ℤ, List, Bool, not, ◌&&◌, map, filter, Option, Some, is_none, if◌then◌else◌}
use Rattle.qz_civil.specs.declared.timings.Kind.{Kind}
use Rattle.qz_civil.specs.declared.timings.Kind.TheVariants.{Simple, Cron, Interval, Daily}
use Rattle.qz_civil.specs.declared.timings.Moved.{Moved}
use Rattle.qz_civil.specs.declared.timings.Timing.{Timing}
use Rattle.qz_types.specs.Rows.{TriggerData, FiredData}
use Rattle.qz_types.specs.States.{is_acquired}
use Rattle.qz_types.specs.declared.limits.TheConstants.{TIMES_LIMIT}
use Rattle.qz_types.specs.declared.triggers.TriggerSpec.{TriggerSpec}
use Rattle.qz_types.specs.declared.triggers.TriggerState.{TriggerState}
use Rattle.qz_types.specs.declared.triggers.TriggerState.TheVariants.{Complete}
use Rattle.qz_types.specs.declared.fired.FiredState.TheVariants.{Executing}

-- the trigger in this state
abbrev pub in_state : TriggerState → TriggerData → TriggerData
in_state state t = record t { state = state }

-- the trigger, its state changed so
abbrev pub with_state : (TriggerState → TriggerState) → TriggerData → TriggerData
with_state change t = in_state (change t.state) t

-- the triggers, of those that pass the state changed so
unfoldable pub with_states : (TriggerState → TriggerState) → (TriggerData → Bool) → List TriggerData → List TriggerData
with_states change passes triggers = map (λ t. if passes t then with_state change t else t) triggers

-- the trigger after it fired: its next time is its last one now, and it has this next time and this state
abbrev pub after_fire : Option ℤ → TriggerState → TriggerData → TriggerData
after_fire next state t = record t { prev = t.next; next = next; times = min (t.times + 1) TIMES_LIMIT; state = state }

-- Misfires.

-- the kind with this count, if it is a simple one
abbrev pub counting : ℤ → Kind → Kind
counting count (Simple interval old) = Simple interval count
counting count (Cron fields zone) = Cron fields zone
counting count (Interval unit every zone preserve skip) = Interval unit every zone preserve skip
counting count (Daily unit every from to days zone) = Daily unit every from to days zone

-- the timing with this start and this count
abbrev pub moved_timing : Moved → Timing → Timing
moved_timing move timing = record timing { kind = counting move.count timing.kind; start = move.start }

abbrev pub moved_spec : Moved → TriggerSpec → TriggerSpec
moved_spec move s = record s { timing = moved_timing move s.timing }

-- the trigger, moved so; one that has no next time any more is complete
abbrev pub moved_trigger : Moved → TriggerData → TriggerData
moved_trigger move t = record t {
  spec = moved_spec move t.spec;
  next = move.next;
  times = move.times;
  state = if is_none move.next then Complete else t.state;
}

-- Fired rows.

-- the row of an execution that begins at this moment, with the flags that its job has then
abbrev pub begun : ℤ → Bool → Bool → FiredData → FiredData
begun moment no_concurrent requests_recovery f = record f {
  state = Executing;
  fired = Some moment;
  no_concurrent = no_concurrent;
  requests_recovery = requests_recovery;
}

-- the fired rows without those of acquired triggers that pass
unfoldable pub without_acquired : (FiredData → Bool) → List FiredData → List FiredData
without_acquired passes fired = filter (λ f. not (is_acquired f.state && passes f)) fired
