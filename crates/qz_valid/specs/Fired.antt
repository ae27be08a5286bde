-- A test of each fired row, with the keys of the jobs that have an execution which excludes others.
use Rattle.std.specs.Prelude.{ℕ, ℤ, List, Bool, true, false, not, ◌&&◌, ◌||◌, nat_lt, ◌==◌, int_le, Option, Some, None, is_none, if◌then◌else◌}
use Rattle.std.specs.Ordering.{int_eq}
use Rattle.qz_types.specs.Rows.{JobData, TriggerData, MemberData, FiredData}
use Rattle.qz_types.specs.Tables.{SchedulerTables}
use Rattle.qz_types.specs.Words.{same_key, job_of, trigger_of, member_of}
use Rattle.qz_types.specs.declared.keys.Key.{Key}
use Rattle.qz_types.specs.declared.triggers.TriggerState.{TriggerState}
use Rattle.qz_types.specs.declared.triggers.TriggerState.TheVariants as state
use Rattle.qz_types.specs.declared.fired.FiredState.{FiredState}
use Rattle.qz_types.specs.declared.fired.FiredState.TheVariants as row
use Rattle.qz_valid.specs.Keys.{has}
use Rattle.qz_valid.specs.Limits.{is_moment}

-- the member is stored, under this epoch
abbrev pub has_epoch : ℕ → Option MemberData → Bool
has_epoch epoch None = false
has_epoch epoch (Some m) = m.epoch == epoch

-- the entry number was given, to a member
unfoldable pub owner_fits : SchedulerTables → FiredData → Bool
owner_fits T f = nat_lt f.entry T.next_entry && has_epoch f.epoch (member_of f.node T.members)

abbrev pub is_acquired_state : TriggerState → Bool
is_acquired_state state.Waiting = false
is_acquired_state state.Acquired = true
is_acquired_state state.Complete = false
is_acquired_state state.Blocked = false
is_acquired_state state.Paused = false
is_acquired_state state.PausedBlocked = false
is_acquired_state state.Error = false

-- there is a next time, and it is this one
abbrev pub is_time : ℤ → Option ℤ → Bool
is_time time None = false
is_time time (Some next) = int_eq next time

-- the trigger is stored and acquired, and the row is for it
abbrev pub is_for : FiredData → Option TriggerData → Bool
is_for f None = false
is_for f (Some t) = is_acquired_state t.state && (same_key t.spec.job f.job && is_time f.scheduled t.next)

-- the row of an acquired trigger: its execution hasn't begun
unfoldable pub acquired_fits : SchedulerTables → FiredData → Bool
acquired_fits T f = is_none f.fired && is_for f (trigger_of f.trigger T.triggers)

-- the job has this flag, if it is stored
abbrev pub has_flag : Bool → Option JobData → Bool
has_flag flag None = true
has_flag flag (Some j) = if j.no_concurrent then flag else not flag

-- the execution began at its scheduled time or later
abbrev pub is_since : ℤ → Option ℤ → Bool
is_since scheduled None = false
is_since scheduled (Some began) = int_le scheduled began

-- the row of an execution: if it excludes no other, none of its job does
unfoldable pub executing_fits : SchedulerTables → List Key → FiredData → Bool
executing_fits T exclusive f = is_moment T.horizon f.scheduled
    && (is_since f.scheduled f.fired
    && (has_flag f.no_concurrent (job_of f.job T.jobs)
    && (f.no_concurrent || not (has f.job exclusive))))

abbrev pub fits_in_state : SchedulerTables → List Key → FiredData → FiredState → Bool
fits_in_state T exclusive f row.Acquired = acquired_fits T f
fits_in_state T exclusive f row.Executing = executing_fits T exclusive f

unfoldable pub fired_fits : SchedulerTables → List Key → FiredData → Bool
fired_fits T exclusive f = owner_fits T f && fits_in_state T exclusive f f.state
