-- The rows of a snapshot, taken kind by kind.
use Rattle.std.proofs.Common.{◌≡◌, ℕ, List, [], ◌++◌, refl, sym, ap, subst, ◌∙◌, arith, append-nil}
use Rattle.qz_types.specs.Rows.{JobData, TriggerData, CalendarData, ZoneData, MemberData, FiredData}
use Rattle.qz_types.specs.Tables.{SchedulerTables}
use Rattle.qz_values.specs.declared.versions.Version.{Version}
use Rattle.qz_values.specs.Fields.{IsName, text}
use Rattle.qz_codec.specs.Calendars.{calendar_row, IsCalendarRow}
use Rattle.qz_codec.specs.Layout.{job, member}
use Rattle.qz_codec.specs.Rows.{trigger, fired, IsTrigger, IsFired}
use Rattle.qz_codec.specs.Values.{IsJob, IsMember}
use Rattle.qz_codec.specs.Zones.{zone_row, IsZoneRow}
use Rattle.qz_pieces.specs.declared.kinds.RowKind.{RowKind}
use Rattle.qz_pieces.specs.declared.kinds.RowKind.TheVariants.{Job, Trigger, Calendar, Zone, Group, Member, Fired, JobGroup}
use Rattle.qz_pieces.specs.Pieces.{RowBytes}
use Rattle.qz_snapshot.specs.Rows.{of_kind, BeginWith}
use Rattle.qz_snapshot.specs.Snapshots.{AreRowsOf}
use Rattle.qz_snapshot.proofs.RowLists.{parts_once}
use Rattle.qz_snapshot.proofs.Unique.{from1, from2, from3, from4, from5, from6, from7, is1, is2, is3, is4, is5, is6, is7, other_from}

-- what follows the rows of a kind is one list
pub rest_once : {A : Type 0} (write : Version → A → List ℕ) (Has : Version → A → Type 0) (kind : RowKind) (rows : List RowBytes) (found others : List A) (rest after : List RowBytes)
    → BeginWith write Has kind rows found rest → BeginWith write Has kind rows others after → rest ≡ after
rest_once write Has kind rows found others rest after a b = (parts_once kind a.records b.records rest after a.other b.other (sym a.parts ∙ b.parts)).1

module _ {T : SchedulerTables} {rows : List RowBytes} (a : AreRowsOf rows T) where
  pub with0 : BeginWith (λ version. job) (λ version. IsJob) Job rows T.jobs (from1 a)
  with0 = record { records = a.jobs; parts = a.parts; recorded = a.are_jobs; other = other_from Job 1 (from1 a) (omega arith) (is1 a) }

  pub with1 : BeginWith trigger IsTrigger Trigger (from1 a) T.triggers (from2 a)
  with1 = record { records = a.triggers; parts = refl; recorded = a.are_triggers; other = other_from Trigger 2 (from2 a) (omega arith) (is2 a) }

  pub with2 : BeginWith (λ version. calendar_row) IsCalendarRow Calendar (from2 a) T.calendars (from3 a)
  with2 = record { records = a.calendars; parts = refl; recorded = a.are_calendars; other = other_from Calendar 3 (from3 a) (omega arith) (is3 a) }

  pub with3 : BeginWith (λ version. zone_row) IsZoneRow Zone (from3 a) T.zones (from4 a)
  with3 = record { records = a.zones; parts = refl; recorded = a.are_zones; other = other_from Zone 4 (from4 a) (omega arith) (is4 a) }

  pub with4 : BeginWith (λ version. text) (λ version. IsName) Group (from4 a) T.paused_groups (from5 a)
  with4 = record { records = a.groups; parts = refl; recorded = a.are_groups; other = other_from Group 5 (from5 a) (omega arith) (is5 a) }

  pub with5 : BeginWith (λ version. member) (λ version. IsMember) Member (from5 a) T.members (from6 a)
  with5 = record { records = a.members; parts = refl; recorded = a.are_members; other = other_from Member 6 (from6 a) (omega arith) (is6 a) }

  pub with6 : BeginWith (λ version. fired) (λ version. IsFired) Fired (from6 a) T.fired (from7 a)
  with6 = record { records = a.fired_rows; parts = refl; recorded = a.are_fired; other = other_from Fired 7 (from7 a) (omega arith) (is7 a) }

  pub with7 : BeginWith (λ version. text) (λ version. IsName) JobGroup (from7 a) T.paused_job_groups []
  with7 = record { records = a.job_groups; parts = sym (append-nil (of_kind JobGroup a.job_groups)); recorded = a.are_job_groups; other = tt }

-- kinds that were taken one after the other are the rows of tables
pub taken_all : (T : SchedulerTables) (r0 r1 r2 r3 r4 r5 r6 r7 r8 : List RowBytes) → BeginWith (λ version. job) (λ version. IsJob) Job r0 T.jobs r1 → BeginWith trigger IsTrigger Trigger r1 T.triggers r2
    → BeginWith (λ version. calendar_row) IsCalendarRow Calendar r2 T.calendars r3 → BeginWith (λ version. zone_row) IsZoneRow Zone r3 T.zones r4 → BeginWith (λ version. text) (λ version. IsName) Group r4 T.paused_groups r5
    → BeginWith (λ version. member) (λ version. IsMember) Member r5 T.members r6 → BeginWith (λ version. fired) (λ version. IsFired) Fired r6 T.fired r7
    → BeginWith (λ version. text) (λ version. IsName) JobGroup r7 T.paused_job_groups r8 → r8 ≡ [] → AreRowsOf r0 T
taken_all T r0 r1 r2 r3 r4 r5 r6 r7 r8 jobs triggers calendars zones groups members fired_rows job_groups done = record {
  jobs = jobs.records;
  triggers = triggers.records;
  calendars = calendars.records;
  zones = zones.records;
  groups = groups.records;
  members = members.records;
  fired_rows = fired_rows.records;
  job_groups = job_groups.records;
  parts = jobs.parts ∙ ap (λ (l : List RowBytes). of_kind Job jobs.records ++ l) (triggers.parts ∙ ap (λ (l : List RowBytes). of_kind Trigger triggers.records ++ l)
      (calendars.parts ∙ ap (λ (l : List RowBytes). of_kind Calendar calendars.records ++ l) (zones.parts ∙ ap (λ (l : List RowBytes). of_kind Zone zones.records ++ l)
      (groups.parts ∙ ap (λ (l : List RowBytes). of_kind Group groups.records ++ l) (members.parts ∙ ap (λ (l : List RowBytes). of_kind Member members.records ++ l)
      (fired_rows.parts ∙ ap (λ (l : List RowBytes). of_kind Fired fired_rows.records ++ l)
      (job_groups.parts ∙ ap (λ (l : List RowBytes). of_kind JobGroup job_groups.records ++ l) done ∙ append-nil (of_kind JobGroup job_groups.records))))))));
  are_jobs = jobs.recorded;
  are_triggers = triggers.recorded;
  are_calendars = calendars.recorded;
  are_zones = zones.recorded;
  are_groups = groups.recorded;
  are_members = members.recorded;
  are_fired = fired_rows.recorded;
  are_job_groups = job_groups.recorded;
}

-- rows that are one, of which a kind was taken twice
pub after : {A : Type 0} (write : Version → A → List ℕ) (Has : Version → A → Type 0) (kind : RowKind) (here there : List RowBytes) (found others : List A) (rest after_it : List RowBytes)
    → here ≡ there → BeginWith write Has kind here found rest → BeginWith write Has kind there others after_it → rest ≡ after_it
after write Has kind here there found others rest after_it same a b = rest_once write Has kind there found others rest after_it (subst (λ (l : List RowBytes). BeginWith write Has kind l found rest) same a) b

pub not_here : {A : Type 0} (write : Version → A → List ℕ) (Has : Version → A → Type 0) (kind : RowKind) (here there : List RowBytes) (found : List A) (rest : List RowBytes)
    → here ≡ there → BeginWith write Has kind here found rest → ((others : List A) (after_it : List RowBytes) → BeginWith write Has kind there others after_it → ⊥) → ⊥
not_here write Has kind here there found rest same a none = none found rest (subst (λ (l : List RowBytes). BeginWith write Has kind l found rest) same a)

-- where the rows of tables are after each kind that was taken
module _ {T : SchedulerTables} {rows : List RowBytes} (a : AreRowsOf rows T) where
  pub after0 : (others : List JobData) (r1 : List RowBytes) → BeginWith (λ version. job) (λ version. IsJob) Job rows others r1 → from1 a ≡ r1
  after0 others r1 b = after (λ version. job) (λ version. IsJob) Job rows rows T.jobs others (from1 a) r1 refl (with0 a) b

  pub after1 : (others : List TriggerData) (r1 r2 : List RowBytes) → from1 a ≡ r1 → BeginWith trigger IsTrigger Trigger r1 others r2 → from2 a ≡ r2
  after1 others r1 r2 same b = after trigger IsTrigger Trigger (from1 a) r1 T.triggers others (from2 a) r2 same (with1 a) b

  pub after2 : (others : List CalendarData) (r2 r3 : List RowBytes) → from2 a ≡ r2 → BeginWith (λ version. calendar_row) IsCalendarRow Calendar r2 others r3 → from3 a ≡ r3
  after2 others r2 r3 same b = after (λ version. calendar_row) IsCalendarRow Calendar (from2 a) r2 T.calendars others (from3 a) r3 same (with2 a) b

  pub after3 : (others : List ZoneData) (r3 r4 : List RowBytes) → from3 a ≡ r3 → BeginWith (λ version. zone_row) IsZoneRow Zone r3 others r4 → from4 a ≡ r4
  after3 others r3 r4 same b = after (λ version. zone_row) IsZoneRow Zone (from3 a) r3 T.zones others (from4 a) r4 same (with3 a) b

  pub after4 : (others : List (List ℕ)) (r4 r5 : List RowBytes) → from4 a ≡ r4 → BeginWith (λ version. text) (λ version. IsName) Group r4 others r5 → from5 a ≡ r5
  after4 others r4 r5 same b = after (λ version. text) (λ version. IsName) Group (from4 a) r4 T.paused_groups others (from5 a) r5 same (with4 a) b

  pub after5 : (others : List MemberData) (r5 r6 : List RowBytes) → from5 a ≡ r5 → BeginWith (λ version. member) (λ version. IsMember) Member r5 others r6 → from6 a ≡ r6
  after5 others r5 r6 same b = after (λ version. member) (λ version. IsMember) Member (from5 a) r5 T.members others (from6 a) r6 same (with5 a) b

  pub after6 : (others : List FiredData) (r6 r7 : List RowBytes) → from6 a ≡ r6 → BeginWith (λ version. fired) (λ version. IsFired) Fired r6 others r7 → from7 a ≡ r7
  after6 others r6 r7 same b = after (λ version. fired) (λ version. IsFired) Fired (from6 a) r6 T.fired others (from7 a) r7 same (with6 a) b

  pub after7 : (others : List (List ℕ)) (r7 r8 : List RowBytes) → from7 a ≡ r7 → BeginWith (λ version. text) (λ version. IsName) JobGroup r7 others r8 → [] ≡ r8
  after7 others r7 r8 same b = after (λ version. text) (λ version. IsName) JobGroup (from7 a) r7 T.paused_job_groups others [] r8 same (with7 a) b
