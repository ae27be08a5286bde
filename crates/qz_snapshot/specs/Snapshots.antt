-- Which payloads are a snapshot of which tables.
use Rattle.std.specs.Prelude.{◌≡◌, ℕ, List, [], ◌∷◌, ◌++◌, length}
use Rattle.std.specs.List.{AllZip}
use Rattle.qz_types.specs.Tables.{SchedulerTables}
use Rattle.qz_values.specs.Fields.{IsName, text}
use Rattle.qz_codec.specs.Calendars.{calendar_row, IsCalendarRow}
use Rattle.qz_codec.specs.Layout.{job, member}
use Rattle.qz_codec.specs.Records.{IsRecord}
use Rattle.qz_codec.specs.Rows.{trigger, fired, IsTrigger, IsFired}
use Rattle.qz_codec.specs.Values.{IsJob, IsMember}
use Rattle.qz_codec.specs.Zones.{zone_row, IsZoneRow}
use Rattle.qz_pieces.specs.declared.kinds.RowKind.TheVariants.{Job, Trigger, Calendar, Zone, Group, Member, Fired, JobGroup}
use Rattle.qz_pieces.specs.Payloads.{ArePiecesOf}
use Rattle.qz_pieces.specs.Pieces.{RowBytes}
use Rattle.qz_snapshot.specs.declared.heads.Head.{Head}
use Rattle.qz_snapshot.specs.declared.heads.Numbers.{Numbers}
use Rattle.qz_snapshot.specs.Heads.{head_bytes, HasWidths}
use Rattle.qz_snapshot.specs.Rows.{of_kind}

-- Each of these rows is a record of the row of the tables in its place, in version one or two: the jobs first, then the
-- triggers, calendars, zones, paused groups of triggers, members, fired rows and paused groups of jobs, each kind in the
-- order of its ids.
pub record AreRowsOf (rows : List RowBytes) (T : SchedulerTables) : Type 0 where
  pub jobs : List (List ℕ)
  pub triggers : List (List ℕ)
  pub calendars : List (List ℕ)
  pub zones : List (List ℕ)
  pub groups : List (List ℕ)
  pub members : List (List ℕ)
  pub fired_rows : List (List ℕ)
  pub job_groups : List (List ℕ)
  pub parts : rows ≡ of_kind Job jobs ++ (of_kind Trigger triggers ++ (of_kind Calendar calendars ++ (of_kind Zone zones
      ++ (of_kind Group groups ++ (of_kind Member members ++ (of_kind Fired fired_rows ++ of_kind JobGroup job_groups))))))
  pub are_jobs : AllZip (IsRecord (λ version. job) (λ version. IsJob)) jobs T.jobs
  pub are_triggers : AllZip (IsRecord trigger IsTrigger) triggers T.triggers
  pub are_calendars : AllZip (IsRecord (λ version. calendar_row) IsCalendarRow) calendars T.calendars
  pub are_zones : AllZip (IsRecord (λ version. zone_row) IsZoneRow) zones T.zones
  pub are_groups : AllZip (IsRecord (λ version. text) (λ version. IsName)) groups T.paused_groups
  pub are_members : AllZip (IsRecord (λ version. member) (λ version. IsMember)) members T.members
  pub are_fired : AllZip (IsRecord (λ version. fired) (λ version. IsFired)) fired_rows T.fired
  pub are_job_groups : AllZip (IsRecord (λ version. text) (λ version. IsName)) job_groups T.paused_job_groups

-- the numbers of tables
abbrev pub numbers_of : SchedulerTables → Numbers
numbers_of T = record { next_entry = T.next_entry; next_epoch = T.next_epoch; threshold = T.threshold; last_moment = T.last_moment; horizon = T.horizon }

-- A head, then as many pieces as it says, which are those of these rows, and then any payloads.
pub record BeginsPieces (payloads : List (List ℕ)) (head : Head) (rows : List RowBytes) (more : List (List ℕ)) : Type 0 where
  pub widths : HasWidths head
  pub pieces : List (List ℕ)
  pub parts : payloads ≡ head_bytes head ∷ (pieces ++ more)
  pub pieces_is : head.pieces ≡ length pieces
  pub cut : ArePiecesOf pieces rows

-- The payloads begin with a snapshot of these tables, before which so many payloads and entries stand: a head, and the pieces
-- of records of the tables' rows, cut by their lengths as they are stored. After it these payloads stand.
pub record BeginSnapshot (payloads : List (List ℕ)) (T : SchedulerTables) (before entries : ℕ) (more : List (List ℕ)) : Type 0 where
  pub head : Head
  pub rows : List RowBytes
  pub begins : BeginsPieces payloads head rows more
  pub before_is : head.payloads ≡ before
  pub entries_is : head.entries ≡ entries
  pub numbers_are : head.numbers ≡ numbers_of T
  pub rows_are : AreRowsOf rows T

-- The payloads are a snapshot of these tables.
abbrev pub IsSnapshot : List (List ℕ) → SchedulerTables → ℕ → ℕ → Type 0
IsSnapshot payloads T before entries = BeginSnapshot payloads T before entries []
