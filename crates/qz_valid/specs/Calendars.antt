-- A test of each calendar.
use Rattle.std.specs.Prelude.{Bool, ◌&&◌, Some}
use Rattle.qz_types.specs.Chains.{ends_within}
use Rattle.qz_types.specs.Rows.{CalendarData}
use Rattle.qz_types.specs.Tables.{SchedulerTables}
use Rattle.qz_types.specs.declared.limits.TheConstants.{CHAIN_LIMIT}
use Rattle.qz_model.specs.Plan.{is_known_calendar, is_known_zone}

-- what the calendar names is stored, and its chain is short
unfoldable pub calendar_fits : SchedulerTables → CalendarData → Bool
calendar_fits T c = is_known_calendar T.calendars c.base
    && (is_known_zone T.zones c.zone
    && ends_within T.calendars CHAIN_LIMIT (Some c))
