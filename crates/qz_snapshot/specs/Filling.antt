-- How many rows tables have.
use Rattle.std.specs.Prelude.{length}
use Rattle.qz_types.specs.Tables.{SchedulerTables}
use Rattle.qz_tables.specs.declared.tables.RowCounts.{RowCounts}

-- how many rows of each kind
abbrev pub row_counts : SchedulerTables → RowCounts
row_counts T = record {
  jobs = length T.jobs;
  triggers = length T.triggers;
  calendars = length T.calendars;
  zones = length T.zones;
  paused_groups = length T.paused_groups;
  paused_job_groups = length T.paused_job_groups;
  members = length T.members;
  fired = length T.fired;
}
