-- What a checkpoint writes, and what a crash in it leaves.
use Rattle.std.specs.Prelude.{◌≡◌, ◌⊎◌, ℕ, ◌≤◌, List, ◌∷◌, ◌++◌, length, take, Some, None}
use Rattle.std.specs.List.{AllByRecursion}
use Rattle.qz_types.specs.Tables.{SchedulerTables}
use Rattle.qz_values.specs.Fields.{IsName, text}
use Rattle.qz_values.specs.declared.versions.Version.TheVariants.{Two}
use Rattle.qz_codec.specs.Calendars.{calendar_row, IsCalendarRow}
use Rattle.qz_codec.specs.Layout.{job, member}
use Rattle.qz_codec.specs.Rows.{trigger, fired, IsTrigger, IsFired}
use Rattle.qz_codec.specs.Values.{IsJob, IsMember}
use Rattle.qz_codec.specs.Zones.{zone_row, IsZoneRow}
use Rattle.qz_journal.specs.declared.slots.Slots.{Slots}
use Rattle.qz_journal.specs.Layout.{Holds, end_of}
use Rattle.qz_journal.specs.Slots.{slot, other_slot, free_slot, offset_in}
use Rattle.qz_pieces.specs.declared.kinds.RowKind.TheVariants.{Job, Trigger, Calendar, Zone, Group, Member, Fired, JobGroup}
use Rattle.qz_pieces.specs.Pieces.{RowBytes, pieces}
use Rattle.qz_snapshot.specs.declared.heads.Head.{Head}
use Rattle.qz_snapshot.specs.Heads.{head_bytes}
use Rattle.qz_snapshot.specs.Rows.{of_kind, written}
use Rattle.qz_snapshot.specs.Snapshots.{numbers_of}

-- the rows of what is to fire and when, as a checkpoint writes them: all in version two
abbrev pub plan_rows : SchedulerTables → List RowBytes
plan_rows T = of_kind Job (written (λ version. job) T.jobs) ++ (of_kind Trigger (written trigger T.triggers)
    ++ (of_kind Calendar (written (λ version. calendar_row) T.calendars) ++ of_kind Zone (written (λ version. zone_row) T.zones)))

-- all others
abbrev pub state_rows : SchedulerTables → List RowBytes
state_rows T = of_kind Group (written (λ version. text) T.paused_groups) ++ (of_kind Member (written (λ version. member) T.members)
    ++ (of_kind Fired (written (λ version. fired) T.fired) ++ of_kind JobGroup (written (λ version. text) T.paused_job_groups)))

-- the rows of tables
abbrev pub rows_written : SchedulerTables → List RowBytes
rows_written T = plan_rows T ++ state_rows T

-- Each row of what is to fire and when has a record of version two.
pub record PlansHaveRecords (T : SchedulerTables) : Type 0 where
  pub jobs : AllByRecursion IsJob T.jobs
  pub triggers : AllByRecursion (IsTrigger Two) T.triggers
  pub calendars : AllByRecursion (IsCalendarRow Two) T.calendars
  pub zones : AllByRecursion (IsZoneRow Two) T.zones

-- So has each other row.
pub record StatesHaveRecords (T : SchedulerTables) : Type 0 where
  pub groups : AllByRecursion IsName T.paused_groups
  pub members : AllByRecursion IsMember T.members
  pub fired : AllByRecursion IsFired T.fired
  pub job_groups : AllByRecursion IsName T.paused_job_groups

-- the head that goes before them, where so many payloads and entries come before it
abbrev pub head_written : SchedulerTables → ℕ → ℕ → Head
head_written T before entries = record { payloads = before; entries = entries; pieces = length (pieces (rows_written T)); numbers = numbers_of T }

-- the payloads of the snapshot
abbrev pub snapshot_written : SchedulerTables → ℕ → ℕ → List (List ℕ)
snapshot_written T before entries = head_bytes (head_written T before entries) ∷ pieces (rows_written T)

-- A crash while payloads are appended leaves some first ones of them, after those that stood there, and the old header.
pub record IsPartly (version kind : ℕ) (old : List ℕ) (payloads more : List (List ℕ)) (bytes : List ℕ) : Type 0 where
  pub count : ℕ
  pub holds : Holds bytes version kind (payloads ++ take count more)
  pub header : take 16 bytes ≡ take 16 old

-- A crash in a checkpoint, whose slots were these before it, leaves the payloads and some first ones of the snapshot. The
-- slot in use is as it was. The free one is as it was, or closed, or leads to the snapshot once that is whole.
pub record IsMidway (version kind : ℕ) (old : Slots) (payloads snapshot : List (List ℕ)) (bytes : List ℕ) : Type 0 where
  pub count : ℕ
  pub holds : Holds bytes version kind (payloads ++ take count snapshot)
  pub in_use : slot (other_slot (free_slot old)) bytes ≡ offset_in old (other_slot (free_slot old))
  pub free : (slot (free_slot old) bytes ≡ offset_in old (free_slot old))
      ⊎ ((slot (free_slot old) bytes ≡ None) ⊎ ((slot (free_slot old) bytes ≡ Some (end_of payloads)) × (length snapshot ≤ count)))
