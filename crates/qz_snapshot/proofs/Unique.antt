-- Payloads begin with a snapshot of one list of tables at most.
use Rattle.std.proofs.Common.{◌≡◌, ℕ, ◌<◌, ◌≤◌, List, [], ◌∷◌, ◌++◌, length, take, drop, get_or, refl, sym, ap, subst, ◌∙◌, arith, append-nil}
use Rattle.std.specs.Prelude.{⊤}
use Rattle.std.specs.List.{AllZip}
use Rattle.std.proofs.lemmas.List.{take_at, drop_at}
use Rattle.qz_types.specs.Tables.{SchedulerTables}
use Rattle.qz_values.specs.declared.versions.Version.{Version}
use Rattle.qz_values.specs.Fields.{Read}
use Rattle.qz_values.proofs.NameFormats.{name_format}
use Rattle.qz_codec.specs.Records.{IsRecord}
use Rattle.qz_codec.proofs.RecordFormats.{AreFormats, record_unique}
use Rattle.qz_codec.proofs.RowFormats.{job_format, member_format, zone_row_format, calendar_row_format}
use Rattle.qz_codec.proofs.RowRecordFormats.{trigger_format, fired_format}
use Rattle.qz_pieces.specs.Kinds.{kind_byte}
use Rattle.qz_pieces.specs.declared.kinds.RowKind.{RowKind}
use Rattle.qz_pieces.specs.declared.kinds.RowKind.TheVariants.{Job, Trigger, Calendar, Zone, Group, Member, Fired, JobGroup}
use Rattle.qz_pieces.specs.Payloads.{ArePiecesOf}
use Rattle.qz_pieces.specs.Pieces.{RowBytes}
use Rattle.qz_pieces.proofs.MorePayloads.{pieces_one}
use Rattle.qz_snapshot.specs.declared.heads.Head.{Head}
use Rattle.qz_snapshot.specs.Heads.{head_bytes}
use Rattle.qz_snapshot.specs.Rows.{of_kind, BeginsOther}
use Rattle.qz_snapshot.specs.Snapshots.{AreRowsOf, BeginsPieces, BeginSnapshot}
use Rattle.qz_snapshot.proofs.HeadBytes.{heads_once}
use Rattle.qz_snapshot.proofs.RowLists.{parts_once}

-- Records are those of one list of rows.
pub zip_once : {A : Type 0} {write : Version → A → List ℕ} {Has : Version → A → Type 0} {read : Version → List ℕ → Read A} {m : ℕ} → AreFormats write Has read m → (records : List (List ℕ)) (xs ys : List A)
    → AllZip (IsRecord write Has) records xs → AllZip (IsRecord write Has) records ys → xs ≡ ys
zip_once f [] [] [] p q = refl
zip_once f [] [] (y ∷ ys) p q = absurd q
zip_once f [] (x ∷ xs) ys p q = absurd p
zip_once f (r ∷ rs) [] ys p q = absurd p
zip_once f (r ∷ rs) (x ∷ xs) [] p q = absurd q
zip_once f (r ∷ rs) (x ∷ xs) (y ∷ ys) p q =
    let first : x ≡ y = record_unique f r x y p.0 q.0 in
    let others : xs ≡ ys = zip_once f rs xs ys p.1 q.1 in
    λ i. first i ∷ others i

also_once : {A : Type 0} {write : Version → A → List ℕ} {Has : Version → A → Type 0} {read : Version → List ℕ → Read A} {m : ℕ} → AreFormats write Has read m → (records others : List (List ℕ)) (xs ys : List A)
    → records ≡ others → AllZip (IsRecord write Has) records xs → AllZip (IsRecord write Has) others ys → xs ≡ ys
also_once {write = write} {Has = Has} f records others xs ys same p q = zip_once f others xs ys (subst (λ (l : List (List ℕ)). AllZip (IsRecord write Has) l xs) same p) q

-- there is no row, or the first is of this kind or a later one
pub BeginsFrom : ℕ → List RowBytes → Type 0
BeginsFrom least [] = ⊤
BeginsFrom least (r ∷ rows) = least ≤ kind_byte r.kind

from_then : (kind : RowKind) (least next : ℕ) (records : List (List ℕ)) (x : List RowBytes) → least ≤ kind_byte kind → least ≤ next → BeginsFrom next x → BeginsFrom least (of_kind kind records ++ x)
unfolding BeginsFrom
from_then kind least next [] [] here there from = tt
from_then kind least next [] (r ∷ x) here there from = omega (arith, there, from)
from_then kind least next (a ∷ records) x here there from = here

from_last : (kind : RowKind) (least : ℕ) (records : List (List ℕ)) → least ≤ kind_byte kind → BeginsFrom least (of_kind kind records)
unfolding BeginsFrom
from_last kind least [] here = tt
from_last kind least (a ∷ records) here = here

pub other_from : (kind : RowKind) (least : ℕ) (x : List RowBytes) → kind_byte kind < least → BeginsFrom least x → BeginsOther kind x
unfolding BeginsFrom
other_from kind least [] later from = tt
other_from kind least (r ∷ x) later from = λ same. omega (arith, later, from, ap kind_byte same)

last_once : (kind : RowKind) (ps qs : List (List ℕ)) → of_kind kind ps ≡ of_kind kind qs → ps ≡ qs
last_once kind ps qs same = (parts_once kind ps qs [] [] tt tt (append-nil (of_kind kind ps) ∙ same ∙ sym (append-nil (of_kind kind qs)))).0

-- the rows from each kind on
module _ {T : SchedulerTables} {rows : List RowBytes} (a : AreRowsOf rows T) where
  abbrev pub from7 : List RowBytes
  from7 = of_kind JobGroup a.job_groups

  abbrev pub from6 : List RowBytes
  from6 = of_kind Fired a.fired_rows ++ from7

  abbrev pub from5 : List RowBytes
  from5 = of_kind Member a.members ++ from6

  abbrev pub from4 : List RowBytes
  from4 = of_kind Group a.groups ++ from5

  abbrev pub from3 : List RowBytes
  from3 = of_kind Zone a.zones ++ from4

  abbrev pub from2 : List RowBytes
  from2 = of_kind Calendar a.calendars ++ from3

  abbrev pub from1 : List RowBytes
  from1 = of_kind Trigger a.triggers ++ from2

  pub is7 : BeginsFrom 7 from7
  is7 = from_last JobGroup 7 a.job_groups (omega arith)

  pub is6 : BeginsFrom 6 from6
  is6 = from_then Fired 6 7 a.fired_rows from7 (omega arith) (omega arith) is7

  pub is5 : BeginsFrom 5 from5
  is5 = from_then Member 5 6 a.members from6 (omega arith) (omega arith) is6

  pub is4 : BeginsFrom 4 from4
  is4 = from_then Group 4 5 a.groups from5 (omega arith) (omega arith) is5

  pub is3 : BeginsFrom 3 from3
  is3 = from_then Zone 3 4 a.zones from4 (omega arith) (omega arith) is4

  pub is2 : BeginsFrom 2 from2
  is2 = from_then Calendar 2 3 a.calendars from3 (omega arith) (omega arith) is3

  pub is1 : BeginsFrom 1 from1
  is1 = from_then Trigger 1 2 a.triggers from2 (omega arith) (omega arith) is2

-- the same rows, kind by kind
record SameRows (T U : SchedulerTables) : Type 0 where
  pub jobs : T.jobs ≡ U.jobs
  pub triggers : T.triggers ≡ U.triggers
  pub calendars : T.calendars ≡ U.calendars
  pub zones : T.zones ≡ U.zones
  pub groups : T.paused_groups ≡ U.paused_groups
  pub members : T.members ≡ U.members
  pub fired : T.fired ≡ U.fired
  pub job_groups : T.paused_job_groups ≡ U.paused_job_groups

same_rows : (rows : List RowBytes) (T U : SchedulerTables) → AreRowsOf rows T → AreRowsOf rows U → SameRows T U
same_rows rows T U a b =
    let s0 = parts_once Job a.jobs b.jobs (from1 a) (from1 b) (other_from Job 1 (from1 a) (omega arith) (is1 a)) (other_from Job 1 (from1 b) (omega arith) (is1 b)) (sym a.parts ∙ b.parts) in
    let s1 = parts_once Trigger a.triggers b.triggers (from2 a) (from2 b) (other_from Trigger 2 (from2 a) (omega arith) (is2 a)) (other_from Trigger 2 (from2 b) (omega arith) (is2 b)) s0.1 in
    let s2 = parts_once Calendar a.calendars b.calendars (from3 a) (from3 b) (other_from Calendar 3 (from3 a) (omega arith) (is3 a)) (other_from Calendar 3 (from3 b) (omega arith) (is3 b)) s1.1 in
    let s3 = parts_once Zone a.zones b.zones (from4 a) (from4 b) (other_from Zone 4 (from4 a) (omega arith) (is4 a)) (other_from Zone 4 (from4 b) (omega arith) (is4 b)) s2.1 in
    let s4 = parts_once Group a.groups b.groups (from5 a) (from5 b) (other_from Group 5 (from5 a) (omega arith) (is5 a)) (other_from Group 5 (from5 b) (omega arith) (is5 b)) s3.1 in
    let s5 = parts_once Member a.members b.members (from6 a) (from6 b) (other_from Member 6 (from6 a) (omega arith) (is6 a)) (other_from Member 6 (from6 b) (omega arith) (is6 b)) s4.1 in
    let s6 = parts_once Fired a.fired_rows b.fired_rows (from7 a) (from7 b) (other_from Fired 7 (from7 a) (omega arith) (is7 a)) (other_from Fired 7 (from7 b) (omega arith) (is7 b)) s5.1 in
    record {
      jobs = also_once (λ version. job_format) a.jobs b.jobs T.jobs U.jobs s0.0 a.are_jobs b.are_jobs;
      triggers = also_once trigger_format a.triggers b.triggers T.triggers U.triggers s1.0 a.are_triggers b.are_triggers;
      calendars = also_once calendar_row_format a.calendars b.calendars T.calendars U.calendars s2.0 a.are_calendars b.are_calendars;
      zones = also_once zone_row_format a.zones b.zones T.zones U.zones s3.0 a.are_zones b.are_zones;
      groups = also_once (λ version. name_format) a.groups b.groups T.paused_groups U.paused_groups s4.0 a.are_groups b.are_groups;
      members = also_once (λ version. member_format) a.members b.members T.members U.members s5.0 a.are_members b.are_members;
      fired = also_once (λ version. fired_format) a.fired_rows b.fired_rows T.fired U.fired s6.0 a.are_fired b.are_fired;
      job_groups = also_once (λ version. name_format) a.job_groups b.job_groups T.paused_job_groups U.paused_job_groups (last_once JobGroup a.job_groups b.job_groups s6.1) a.are_job_groups b.are_job_groups;
    }

-- a head and its pieces
record SameBegin (h k : Head) (rows others : List RowBytes) (more after : List (List ℕ)) : Type 0 where
  pub head : h ≡ k
  pub rows_same : rows ≡ others
  pub more_same : more ≡ after

same_begin : (payloads : List (List ℕ)) (h k : Head) (rows others : List RowBytes) (more after : List (List ℕ)) → BeginsPieces payloads h rows more → BeginsPieces payloads k others after → SameBegin h k rows others more after
same_begin payloads h k rows others more after a b =
    let whole : head_bytes h ∷ (a.pieces ++ more) ≡ head_bytes k ∷ (b.pieces ++ after) = sym a.parts ∙ b.parts in
    let head : h ≡ k = heads_once h k a.widths b.widths (ap (λ (l : List (List ℕ)). get_or l 0 []) whole) in
    let rest : a.pieces ++ more ≡ b.pieces ++ after = ap (λ (l : List (List ℕ)). drop 1 l) whole in
    let count : length b.pieces ≡ length a.pieces = sym b.pieces_is ∙ ap (λ (x : Head). x.pieces) (sym head) ∙ a.pieces_is in
    let pieces : a.pieces ≡ b.pieces = sym (take_at a.pieces more (length a.pieces) refl) ∙ ap (λ (l : List (List ℕ)). take (length a.pieces) l) rest ∙ take_at b.pieces after (length a.pieces) count in
    record {
      head = head;
      rows_same = pieces_one b.pieces rows others (subst (λ (l : List (List ℕ)). ArePiecesOf l rows) pieces a.cut) b.cut;
      more_same = sym (drop_at a.pieces more (length a.pieces) refl) ∙ ap (λ (l : List (List ℕ)). drop (length a.pieces) l) rest ∙ drop_at b.pieces after (length a.pieces) count;
    }

pub rows_once : (payloads : List (List ℕ)) (h k : Head) (rows others : List RowBytes) (more after : List (List ℕ)) → BeginsPieces payloads h rows more → BeginsPieces payloads k others after → rows ≡ others
rows_once payloads h k rows others more after a b = (same_begin payloads h k rows others more after a b).rows_same

pub snapshot_once : (payloads more after : List (List ℕ)) (T U : SchedulerTables) (before other entries others : ℕ) → BeginSnapshot payloads T before entries more → BeginSnapshot payloads U other others after
    → (T ≡ U) × (before ≡ other) × (entries ≡ others) × (more ≡ after)
snapshot_once payloads more after T U before other entries others a b =
    let s = same_begin payloads a.head b.head a.rows b.rows more after a.begins b.begins in
    let rows = same_rows b.rows T U (subst (λ (l : List RowBytes). AreRowsOf l T) s.rows_same a.rows_are) b.rows_are in
    let numbers = sym a.numbers_are ∙ ap (λ (x : Head). x.numbers) s.head ∙ b.numbers_are in
    let tables : T ≡ U = λ i. record {
      jobs = rows.jobs i;
      triggers = rows.triggers i;
      calendars = rows.calendars i;
      zones = rows.zones i;
      paused_groups = rows.groups i;
      paused_job_groups = rows.job_groups i;
      members = rows.members i;
      fired = rows.fired i;
      next_entry = (numbers i).next_entry;
      next_epoch = (numbers i).next_epoch;
      threshold = (numbers i).threshold;
      last_moment = (numbers i).last_moment;
      horizon = (numbers i).horizon;
    } in
    (tables, sym a.before_is ∙ ap (λ (x : Head). x.payloads) s.head ∙ b.before_is, sym a.entries_is ∙ ap (λ (x : Head). x.entries) s.head ∙ b.entries_is, s.more_same)
