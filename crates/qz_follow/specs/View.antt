-- What is seen of a follower.
use Rattle.std.specs.Prelude.{Bool, is_some}
use Rattle.qz_types.specs.Entries.{EntryData}
use Rattle.qz_types.specs.Tables.{SchedulerTables}
use Rattle.qz_follow.specs.Following.{Following}
use Rattle.qz_follow.specs.Payloads.{Held}
use Rattle.qz_follow.specs.declared.follower.Follower.{Follower}
use Rattle.qz_follow.specs.declared.holding.Taken.{Taken}

-- what was taken
abbrev pub held : Taken → Held SchedulerTables EntryData
held t = record {
  version = t.version;
  stage = t.stage;
  parts = t.parts;
  start = t.start.value.tables;
  entries = t.entries.items;
  end = t.end;
}

-- where it stands
abbrev pub view : Follower → Following
view s = record {
  standing = s.stream;
  version = s.taken.version;
  stage = s.taken.stage;
  parts = s.taken.parts;
  start = s.taken.start.value.tables;
  entries = s.taken.entries.items;
  end = s.taken.end;
  fault = s.fault;
}

-- the tables that its entries leave
abbrev pub tables_of : Follower → SchedulerTables
tables_of s = s.taken.tables.tables

-- it keeps the payloads of records
abbrev pub keeps_of : Follower → Bool
keeps_of s = is_some s.taken.kept
