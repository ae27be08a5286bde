-- Rows of each kind by their ids: look-ups, and edits as insertions, maps and filters. Proofs see these words closed,
-- except where they name them.
use Rattle.std.specs.Prelude.{ℕ, List, Bool, not, ◌==◌, Option, is_some, map, filter, if◌then◌else◌}
use Rattle.std.specs.Ordering.{nat_cmp, ordering_then, is_eq}
use Rattle.std.specs.Cmp.Lexicographic.{slice_cmp}
use Rattle.std.specs.declared.cmp.Ordering.{Ordering}
use Rattle.qz_types.specs.Sorted.{row_of, put}
use Rattle.qz_types.specs.Rows.{JobData, TriggerData, CalendarData, ZoneData, MemberData, FiredData}
use Rattle.qz_types.specs.declared.keys.Key.{Key}

-- by bytes, as POSIX orders texts in the C locale
abbrev pub text_cmp : List ℕ → List ℕ → Ordering
text_cmp = slice_cmp nat_cmp

-- by the bytes of the group, then of the name
abbrev pub key_cmp : Key → Key → Ordering
key_cmp a b = ordering_then (text_cmp a.group b.group) (text_cmp a.name b.name)

-- texts and keys that the order doesn't tell apart
unfoldable pub same_text : List ℕ → List ℕ → Bool
same_text a b = is_eq (text_cmp a b)

unfoldable pub same_key : Key → Key → Bool
same_key a b = is_eq (key_cmp a b)

-- Of each kind: the row of an id, the rows with one more, the rows where that of an id is changed, and those without it.

-- jobs
unfoldable pub job_of : Key → List JobData → Option JobData
job_of k rows = row_of key_cmp (λ r. r.key) k rows

unfoldable pub put_job : JobData → List JobData → List JobData
put_job row rows = put key_cmp (λ r. r.key) row rows

unfoldable pub with_job : Key → (JobData → JobData) → List JobData → List JobData
with_job k change rows = map (λ r. if same_key k r.key then change r else r) rows

unfoldable pub without_job : Key → List JobData → List JobData
without_job k rows = filter (λ r. not (same_key k r.key)) rows

-- triggers
unfoldable pub trigger_of : Key → List TriggerData → Option TriggerData
trigger_of k rows = row_of key_cmp (λ r. r.spec.key) k rows

unfoldable pub put_trigger : TriggerData → List TriggerData → List TriggerData
put_trigger row rows = put key_cmp (λ r. r.spec.key) row rows

unfoldable pub with_trigger : Key → (TriggerData → TriggerData) → List TriggerData → List TriggerData
with_trigger k change rows = map (λ r. if same_key k r.spec.key then change r else r) rows

unfoldable pub without_trigger : Key → List TriggerData → List TriggerData
without_trigger k rows = filter (λ r. not (same_key k r.spec.key)) rows

-- calendars
unfoldable pub calendar_of : List ℕ → List CalendarData → Option CalendarData
calendar_of name rows = row_of text_cmp (λ r. r.name) name rows

unfoldable pub put_calendar : CalendarData → List CalendarData → List CalendarData
put_calendar row rows = put text_cmp (λ r. r.name) row rows

unfoldable pub with_calendar : List ℕ → (CalendarData → CalendarData) → List CalendarData → List CalendarData
with_calendar name change rows = map (λ r. if same_text name r.name then change r else r) rows

unfoldable pub without_calendar : List ℕ → List CalendarData → List CalendarData
without_calendar name rows = filter (λ r. not (same_text name r.name)) rows

-- zones
unfoldable pub zone_of : List ℕ → List ZoneData → Option ZoneData
zone_of name rows = row_of text_cmp (λ r. r.name) name rows

unfoldable pub put_zone : ZoneData → List ZoneData → List ZoneData
put_zone row rows = put text_cmp (λ r. r.name) row rows

unfoldable pub with_zone : List ℕ → (ZoneData → ZoneData) → List ZoneData → List ZoneData
with_zone name change rows = map (λ r. if same_text name r.name then change r else r) rows

unfoldable pub without_zone : List ℕ → List ZoneData → List ZoneData
without_zone name rows = filter (λ r. not (same_text name r.name)) rows

-- paused groups, which are their own ids
unfoldable pub group_of : List ℕ → List (List ℕ) → Option (List ℕ)
group_of group rows = row_of text_cmp (λ r. r) group rows

abbrev pub is_paused : List ℕ → List (List ℕ) → Bool
is_paused group rows = is_some (group_of group rows)

unfoldable pub put_group : List ℕ → List (List ℕ) → List (List ℕ)
put_group row rows = put text_cmp (λ r. r) row rows

unfoldable pub without_group : List ℕ → List (List ℕ) → List (List ℕ)
without_group group rows = filter (λ r. not (same_text group r)) rows

-- members
unfoldable pub member_of : List ℕ → List MemberData → Option MemberData
member_of node rows = row_of text_cmp (λ r. r.node) node rows

unfoldable pub put_member : MemberData → List MemberData → List MemberData
put_member row rows = put text_cmp (λ r. r.node) row rows

unfoldable pub with_member : List ℕ → (MemberData → MemberData) → List MemberData → List MemberData
with_member node change rows = map (λ r. if same_text node r.node then change r else r) rows

unfoldable pub without_member : List ℕ → List MemberData → List MemberData
without_member node rows = filter (λ r. not (same_text node r.node)) rows

-- fired rows
unfoldable pub fired_of : ℕ → List FiredData → Option FiredData
fired_of entry rows = row_of nat_cmp (λ r. r.entry) entry rows

unfoldable pub put_fired : FiredData → List FiredData → List FiredData
put_fired row rows = put nat_cmp (λ r. r.entry) row rows

unfoldable pub with_fired : ℕ → (FiredData → FiredData) → List FiredData → List FiredData
with_fired entry change rows = map (λ r. if entry == r.entry then change r else r) rows

unfoldable pub without_fired : ℕ → List FiredData → List FiredData
without_fired entry rows = filter (λ r. not (entry == r.entry)) rows
