-- What contracts see of the tables: the rows and numbers, the order of linking, and for how many rows more there is memory.
use Rattle.std.specs.Prelude.{ℕ, ◌+◌, ◌≤◌, List}
use Rattle.qz_types.specs.Tables.{SchedulerTables}
use Rattle.qz_types.specs.declared.keys.Key.{Key}
use Rattle.qz_tables.specs.declared.tables.RowCounts.{RowCounts}

-- how many rows more of each kind there is memory for
pub record Spare : Type 0 where
  pub jobs : ℕ
  pub triggers : ℕ
  pub calendars : ℕ
  pub zones : ℕ
  pub paused_groups : ℕ
  pub paused_job_groups : ℕ
  pub members : ℕ
  pub fired : ℕ

pub record TablesData : Type 0 where
  pub tables : SchedulerTables
  -- the keys of each job's triggers; `linked` reads it
  pub links : List (Key × List Key)
  pub spare : Spare

-- no kind has less spare
pub record KeepsSpare (old new : Spare) : Type 0 where
  pub jobs : old.jobs ≤ new.jobs
  pub triggers : old.triggers ≤ new.triggers
  pub calendars : old.calendars ≤ new.calendars
  pub zones : old.zones ≤ new.zones
  pub paused_groups : old.paused_groups ≤ new.paused_groups
  pub paused_job_groups : old.paused_job_groups ≤ new.paused_job_groups
  pub members : old.members ≤ new.members
  pub fired : old.fired ≤ new.fired

-- there is memory for so many rows more of each kind
pub record HasSpare (rows : ℕ) (spare : Spare) : Type 0 where
  pub jobs : rows ≤ spare.jobs
  pub triggers : rows ≤ spare.triggers
  pub calendars : rows ≤ spare.calendars
  pub zones : rows ≤ spare.zones
  pub paused_groups : rows ≤ spare.paused_groups
  pub paused_job_groups : rows ≤ spare.paused_job_groups
  pub members : rows ≤ spare.members
  pub fired : rows ≤ spare.fired

-- there is memory for so many rows more, of each kind as many as this says
pub record HasSpareOf (rows : RowCounts) (spare : Spare) : Type 0 where
  pub jobs : rows.jobs ≤ spare.jobs
  pub triggers : rows.triggers ≤ spare.triggers
  pub calendars : rows.calendars ≤ spare.calendars
  pub zones : rows.zones ≤ spare.zones
  pub paused_groups : rows.paused_groups ≤ spare.paused_groups
  pub paused_job_groups : rows.paused_job_groups ≤ spare.paused_job_groups
  pub members : rows.members ≤ spare.members
  pub fired : rows.fired ≤ spare.fired

-- the spare with one row more of a kind
abbrev pub one_job : Spare → Spare
one_job s = record s { jobs = s.jobs + 1 }

abbrev pub one_trigger : Spare → Spare
one_trigger s = record s { triggers = s.triggers + 1 }

abbrev pub one_calendar : Spare → Spare
one_calendar s = record s { calendars = s.calendars + 1 }

abbrev pub one_zone : Spare → Spare
one_zone s = record s { zones = s.zones + 1 }

abbrev pub one_group : Spare → Spare
one_group s = record s { paused_groups = s.paused_groups + 1 }

abbrev pub one_job_group : Spare → Spare
one_job_group s = record s { paused_job_groups = s.paused_job_groups + 1 }

abbrev pub one_member : Spare → Spare
one_member s = record s { members = s.members + 1 }

abbrev pub one_fired : Spare → Spare
one_fired s = record s { fired = s.fired + 1 }
