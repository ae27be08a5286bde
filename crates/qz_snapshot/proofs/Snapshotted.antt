-- What a checkpoint writes is a snapshot of its tables.
use Rattle.std.proofs.Common.{◌≡◌, ℕ, ◌≤◌, List, [], ◌∷◌, ◌++◌, refl, sym, ap, subst, ◌∙◌, arith, append-nil, append_assoc}
use Rattle.std.specs.List.{AllByRecursion, AllZip}
use Rattle.qz_codec.specs.Calendars.{calendar_row, IsCalendarRow}
use Rattle.qz_codec.specs.Layout.{job, member}
use Rattle.qz_codec.specs.Records.{IsRecord}
use Rattle.qz_codec.specs.Rows.{trigger, fired, IsTrigger, IsFired}
use Rattle.qz_codec.specs.Values.{IsJob, IsMember}
use Rattle.qz_codec.specs.Zones.{zone_row, IsZoneRow}
use Rattle.qz_pieces.specs.declared.kinds.RowKind.{RowKind}
use Rattle.qz_pieces.specs.declared.kinds.RowKind.TheVariants.{Job, Trigger, Calendar, Zone, Group, Member, Fired, JobGroup}
use Rattle.qz_pieces.specs.Kinds.{kind_byte}
use Rattle.qz_pieces.specs.Payloads.{AreFromKind, AreInOrder}
use Rattle.qz_pieces.specs.Pieces.{RowBytes, AreShort, pieces}
use Rattle.qz_snapshot.specs.Checkpoints.{state_rows, rows_written, head_written, snapshot_written, PlansHaveRecords, StatesHaveRecords}
use Rattle.qz_snapshot.specs.Heads.{head_bytes, HasWidths}
use Rattle.qz_snapshot.specs.Rows.{of_kind, written}
use Rattle.qz_snapshot.specs.Snapshots.{AreRowsOf, IsSnapshot}
use Rattle.qz_types.specs.Tables.{SchedulerTables}
use Rattle.qz_values.specs.Fields.{IsName, text}
use Rattle.qz_values.specs.declared.versions.Version.{Version}
use Rattle.qz_values.specs.declared.versions.Version.TheVariants.{Two}

all_recorded : {A : Type 0} (write : Version → A → List ℕ) (Has : Version → A → Type 0) (rows : List A) → AllByRecursion (Has Two) rows → AllZip (IsRecord write Has) (written write rows) rows
all_recorded write Has [] all = tt
all_recorded write Has (x ∷ rows) all = (record { version = Two; has = all.0; bytes_are = refl }, all_recorded write Has rows all.1)

lower : (least kind : ℕ) (rows : List RowBytes) → least ≤ kind → AreFromKind kind rows → AreFromKind least rows
lower least kind [] le all = tt
lower least kind (r ∷ rows) le all = (omega (arith, le, all.0), all.1)

kind_first : (kind : RowKind) (least : ℕ) (records : List (List ℕ)) (rest : List RowBytes) → least ≤ kind_byte kind → AreFromKind (kind_byte kind) rest → AreFromKind least (of_kind kind records ++ rest)
kind_first kind least [] rest le all = lower least (kind_byte kind) rest le all
kind_first kind least (b ∷ records) rest le all = (le, kind_first kind (kind_byte kind) records rest (omega arith) all)

kinds_in_order : (a b c d e f g h : List (List ℕ))
    → AreInOrder (of_kind Job a ++ (of_kind Trigger b ++ (of_kind Calendar c ++ (of_kind Zone d ++ (of_kind Group e ++ (of_kind Member f ++ (of_kind Fired g ++ of_kind JobGroup h)))))))
kinds_in_order a b c d e f g h =
    let last : AreFromKind 7 (of_kind JobGroup h) = subst (AreFromKind 7) (append-nil (of_kind JobGroup h)) (kind_first JobGroup 7 h [] (omega arith) tt) in
    let from6 = kind_first Fired 6 g (of_kind JobGroup h) (omega arith) (lower 6 7 (of_kind JobGroup h) (omega arith) last) in
    let rows6 = of_kind Fired g ++ of_kind JobGroup h in
    let from5 = kind_first Member 5 f rows6 (omega arith) (lower 5 6 rows6 (omega arith) from6) in
    let rows5 = of_kind Member f ++ rows6 in
    let from4 = kind_first Group 4 e rows5 (omega arith) (lower 4 5 rows5 (omega arith) from5) in
    let rows4 = of_kind Group e ++ rows5 in
    let from3 = kind_first Zone 3 d rows4 (omega arith) (lower 3 4 rows4 (omega arith) from4) in
    let rows3 = of_kind Zone d ++ rows4 in
    let from2 = kind_first Calendar 2 c rows3 (omega arith) (lower 2 3 rows3 (omega arith) from3) in
    let rows2 = of_kind Calendar c ++ rows3 in
    let from1 = kind_first Trigger 1 b rows2 (omega arith) (lower 1 2 rows2 (omega arith) from2) in
    let rows1 = of_kind Trigger b ++ rows2 in
    kind_first Job 0 a rows1 (omega arith) (lower 0 1 rows1 (omega arith) from1)

module _ (T : SchedulerTables) where
  abbrev jobs : List RowBytes
  jobs = of_kind Job (written (λ version. job) T.jobs)

  abbrev triggers : List RowBytes
  triggers = of_kind Trigger (written trigger T.triggers)

  abbrev calendars : List RowBytes
  calendars = of_kind Calendar (written (λ version. calendar_row) T.calendars)

  abbrev zones : List RowBytes
  zones = of_kind Zone (written (λ version. zone_row) T.zones)

  parts : rows_written T ≡ jobs ++ (triggers ++ (calendars ++ (zones ++ state_rows T)))
  parts =
      append_assoc jobs (triggers ++ (calendars ++ zones)) (state_rows T)
      ∙ ap (λ (l : List RowBytes). jobs ++ l) (append_assoc triggers (calendars ++ zones) (state_rows T) ∙ ap (λ (l : List RowBytes). triggers ++ l) (append_assoc calendars zones (state_rows T)))

  rows_are : PlansHaveRecords T → StatesHaveRecords T → AreRowsOf (rows_written T) T
  rows_are plans states = record {
    jobs = written (λ version. job) T.jobs;
    triggers = written trigger T.triggers;
    calendars = written (λ version. calendar_row) T.calendars;
    zones = written (λ version. zone_row) T.zones;
    groups = written (λ version. text) T.paused_groups;
    members = written (λ version. member) T.members;
    fired_rows = written (λ version. fired) T.fired;
    job_groups = written (λ version. text) T.paused_job_groups;
    parts = parts;
    are_jobs = all_recorded (λ version. job) (λ version. IsJob) T.jobs plans.jobs;
    are_triggers = all_recorded trigger IsTrigger T.triggers plans.triggers;
    are_calendars = all_recorded (λ version. calendar_row) IsCalendarRow T.calendars plans.calendars;
    are_zones = all_recorded (λ version. zone_row) IsZoneRow T.zones plans.zones;
    are_groups = all_recorded (λ version. text) (λ version. IsName) T.paused_groups states.groups;
    are_members = all_recorded (λ version. member) (λ version. IsMember) T.members states.members;
    are_fired = all_recorded (λ version. fired) (λ version. IsFired) T.fired states.fired;
    are_job_groups = all_recorded (λ version. text) (λ version. IsName) T.paused_job_groups states.job_groups;
  }

  in_order : AreInOrder (rows_written T)
  in_order = subst AreInOrder (sym parts)
      (kinds_in_order (written (λ version. job) T.jobs) (written trigger T.triggers) (written (λ version. calendar_row) T.calendars) (written (λ version. zone_row) T.zones)
      (written (λ version. text) T.paused_groups) (written (λ version. member) T.members) (written (λ version. fired) T.fired) (written (λ version. text) T.paused_job_groups))

  pub is_snapshot : (before entries : ℕ) → HasWidths (head_written T before entries) → AreShort (rows_written T) → PlansHaveRecords T → StatesHaveRecords T → IsSnapshot (snapshot_written T before entries) T before entries
  is_snapshot before entries widths short plans states = record {
    head = head_written T before entries;
    rows = rows_written T;
    begins = record {
      widths = widths;
      pieces = pieces (rows_written T);
      parts = ap (λ (l : List (List ℕ)). head_bytes (head_written T before entries) ∷ l) (sym (append-nil (pieces (rows_written T))));
      pieces_is = refl;
      cut = record { short = short; order = in_order; cut = refl };
    };
    before_is = refl;
    entries_is = refl;
    numbers_are = refl;
    rows_are = rows_are plans states;
  }
