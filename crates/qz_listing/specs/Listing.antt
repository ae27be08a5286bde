-- What both stores are printed as.
use Rattle.std.specs.Prelude.{ℕ, List, ◌++◌}
use Rattle.std.specs.List.{flat_map}
use Rattle.qz_types.specs.Rows.{StateData}
use Rattle.qz_types.specs.Tables.{SchedulerTables}
use Rattle.qz_listing.specs.Lines.{threshold_line, zone_line, calendar_line, job_line, trigger_line, group_line, job_group_line, member_line, fired_line, state_line}

-- a line for the threshold and for each row of the tables, kind by kind and each kind as it lies in its table, and then for
-- each row of the state store as the rows are given
abbrev pub listed : SchedulerTables → List StateData → List ℕ
listed T states =
    threshold_line T.threshold ++ flat_map zone_line T.zones ++ flat_map calendar_line T.calendars
    ++ flat_map job_line T.jobs ++ flat_map trigger_line T.triggers ++ flat_map group_line T.paused_groups
    ++ flat_map job_group_line T.paused_job_groups ++ flat_map member_line T.members ++ flat_map fired_line T.fired ++ flat_map state_line states
