-- The tests of all rows.
use Rattle.std.specs.Prelude.{List, Bool, ◌&&◌}
use Rattle.std.specs.List.{list_all}
use Rattle.qz_types.specs.Tables.{SchedulerTables}
use Rattle.qz_types.specs.declared.keys.Key.{Key}
use Rattle.qz_valid.specs.Calendars.{calendar_fits}
use Rattle.qz_valid.specs.Fired.{fired_fits}
use Rattle.qz_valid.specs.Members.{member_fits}
use Rattle.qz_valid.specs.Triggers.{trigger_fits}

-- each row fits the tables, with the keys of the acquired triggers and of the jobs that have an exclusive execution
unfoldable pub rows_fit : SchedulerTables → List Key → List Key → Bool
rows_fit T acquired exclusive = list_all (calendar_fits T) T.calendars
    && (list_all (member_fits T) T.members
    && (list_all (fired_fits T exclusive) T.fired
    && list_all (trigger_fits T acquired exclusive) T.triggers))
