-- The tables of the trigger store, as lists in the order of their ids, and their numbers. Times are in ms since
-- 1970-01-01T00:00:00Z.
use Rattle.std.specs.Prelude.{ℕ, ℤ, pos, ◌≤ℤ◌, List, [], ◌==◌, if◌then◌else◌}
use Rattle.std.specs.Int.{int_max, int_min}
use Rattle.qz_civil.specs.declared.limits.TheConstants.{LAST, VERSION_ONE_LAST}
use Rattle.qz_types.specs.declared.limits.TheConstants.{FIRST_THRESHOLD}
use Rattle.qz_types.specs.Rows.{JobData, TriggerData, CalendarData, ZoneData, MemberData, FiredData}

pub record SchedulerTables : Type 0 where
  pub jobs : List JobData
  pub triggers : List TriggerData
  pub calendars : List CalendarData
  pub zones : List ZoneData
  -- the groups of triggers that are paused, triggers that are stored later too
  pub paused_groups : List (List ℕ)
  -- the groups of jobs whose triggers are paused, triggers that are stored later too
  pub paused_job_groups : List (List ℕ)
  pub members : List MemberData
  pub fired : List FiredData
  -- the entry number that the next fired row gets
  pub next_entry : ℕ
  -- the epoch that the next member gets
  pub next_epoch : ℕ
  -- how far back a next time may be before it is misfired, in ms
  pub threshold : ℤ
  -- the recorded moment of the last transaction
  pub last_moment : ℤ
  -- the last moment that is ever recorded, and the last fire time
  pub horizon : ℤ

-- how far the tables of a format version reach
abbrev pub horizon_of : ℕ → ℤ
horizon_of version = if version == 1 then VERSION_ONE_LAST else LAST

-- the tables of a new store of this format version
abbrev pub empty : ℕ → SchedulerTables
empty version = record {
  jobs = [];
  triggers = [];
  calendars = [];
  zones = [];
  paused_groups = [];
  paused_job_groups = [];
  members = [];
  fired = [];
  next_entry = 1;
  next_epoch = 1;
  threshold = FIRST_THRESHOLD;
  last_moment = pos 0;
  horizon = horizon_of version;
}

-- the tables of a new store, of the format version that is written today
unfoldable pub new_tables : SchedulerTables
new_tables = empty 2

-- from 0 to the horizon
pub record IsMoment (horizon m : ℤ) : Type 0 where
  pub low : pos 0 ≤ℤ m
  pub high : m ≤ℤ horizon

-- The moment at which a transaction with this reading of the clock is recorded: recorded moments never fall, and
-- lie from 0 to the horizon.
abbrev pub recorded_moment : SchedulerTables → ℤ → ℤ
recorded_moment T at = int_max T.last_moment (int_min (int_max at (pos 0)) T.horizon)
