-- A test of each trigger, with the keys of the triggers that have an acquired row, and of the jobs that have an execution
-- which excludes others.
use Rattle.std.specs.Prelude.{ℤ, List, Bool, not, ◌&&◌, ◌||◌, Option, Some, None, is_some, if◌then◌else◌}
use Rattle.qz_types.specs.Rows.{TriggerData}
use Rattle.qz_types.specs.Tables.{SchedulerTables}
use Rattle.qz_types.specs.Words.{job_of}
use Rattle.qz_types.specs.declared.keys.Key.{Key}
use Rattle.qz_model.specs.Invariant.{is_blocked, is_blocked_or_done, is_live_state}
use Rattle.qz_model.specs.Plan.{zone_named_by, is_known_zone_name, is_known_calendar}
use Rattle.qz_valid.specs.Fired.{is_acquired_state}
use Rattle.qz_valid.specs.Keys.{has}
use Rattle.qz_valid.specs.Limits.{is_moment}
use Rattle.qz_valid.specs.Names.{name_fits}

-- what the trigger names is stored
unfoldable pub is_named : SchedulerTables → TriggerData → Bool
is_named T t = is_some (job_of t.spec.job T.jobs)
    && (is_known_calendar T.calendars t.spec.calendar
    && is_known_zone_name T.zones (zone_named_by t.spec.timing.kind))

-- a next time is from 0 to the horizon, and a live trigger has one
abbrev pub next_fits : ℤ → Bool → Option ℤ → Bool
next_fits horizon live None = not live
next_fits horizon live (Some next) = is_moment horizon next

-- the state fits the fired rows and the next time
unfoldable pub state_fits : SchedulerTables → List Key → List Key → TriggerData → Bool
state_fits T acquired exclusive t = (not (is_acquired_state t.state) || has t.spec.key acquired)
    && ((if has t.spec.job exclusive then is_blocked_or_done t.state else not (is_blocked t.state))
    && next_fits T.horizon (is_live_state t.state) t.next)

unfoldable pub trigger_fits : SchedulerTables → List Key → List Key → TriggerData → Bool
trigger_fits T acquired exclusive t = is_named T t && (state_fits T acquired exclusive t && name_fits T t)
