-- Tests of how many rows tables have, of their numbers, and of the names of paused groups.
use Rattle.std.specs.Prelude.{ℤ, pos, Bool, ◌&&◌, ◌||◌, nat_le, length}
use Rattle.std.specs.List.{list_all}
use Rattle.std.specs.Ordering.{int_eq}
use Rattle.qz_civil.specs.Timings.{is_name, is_within}
use Rattle.qz_civil.specs.declared.limits.TheConstants.{LAST, VERSION_ONE_LAST}
use Rattle.qz_types.specs.Rows.{is_interval}
use Rattle.qz_types.specs.Tables.{SchedulerTables}
use Rattle.qz_types.specs.declared.limits.TheConstants.{JOB_LIMIT, TRIGGER_LIMIT, CALENDAR_LIMIT, ZONE_LIMIT, GROUP_LIMIT, JOB_GROUP_LIMIT, MEMBER_LIMIT, FIRED_LIMIT, NUMBER_LIMIT}

-- from 0 to the horizon
abbrev pub is_moment : ℤ → ℤ → Bool
is_moment horizon m = is_within (pos 0) horizon m

-- that of one of the two format versions
abbrev pub is_horizon : ℤ → Bool
is_horizon horizon = int_eq horizon VERSION_ONE_LAST || int_eq horizon LAST

-- no table has more rows than it may
unfoldable pub counts_fit : SchedulerTables → Bool
counts_fit T = nat_le (length T.jobs) JOB_LIMIT
    && (nat_le (length T.triggers) TRIGGER_LIMIT
    && (nat_le (length T.calendars) CALENDAR_LIMIT
    && (nat_le (length T.zones) ZONE_LIMIT
    && (nat_le (length T.paused_groups) GROUP_LIMIT
    && (nat_le (length T.paused_job_groups) JOB_GROUP_LIMIT
    && (nat_le (length T.members) MEMBER_LIMIT
    && nat_le (length T.fired) FIRED_LIMIT))))))

-- each number is within its limits
unfoldable pub numbers_fit : SchedulerTables → Bool
numbers_fit T = nat_le T.next_entry NUMBER_LIMIT
    && (nat_le T.next_epoch NUMBER_LIMIT
    && (is_interval T.threshold
    && (is_horizon T.horizon
    && is_moment T.horizon T.last_moment)))

-- each paused group is a name of a length that a group may have
unfoldable pub names_fit : SchedulerTables → Bool
names_fit T = list_all is_name T.paused_groups && list_all is_name T.paused_job_groups
