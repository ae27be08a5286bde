-- What lines have stored: tables of the trigger store, of which only zones and calendars have rows.
use Rattle.qz_types.specs.Tables.{SchedulerTables, empty}
use Rattle.qz_times.specs.declared.known.Known as declared

abbrev pub Known : Type 0
Known = SchedulerTables

-- what the program keeps
abbrev pub kept : declared.Known → Known
kept known = known.store.tables

-- before the first line: those of a new store of version 2
abbrev pub nothing : Known
nothing = empty 2
