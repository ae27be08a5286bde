-- Look-ups of calendars and zones, which are named by texts.
use Rattle.std.proofs.Common.{◌≡◌, ℕ, ◌+◌, ◌≤◌, true, false, not, ◌||◌, cond, List, length, Option, Some, None, is_some, refl, sym, ap, ◌∙◌, if◌then◌else◌}
use Rattle.std.specs.List.{AllByRecursion}
use Rattle.std.specs.Cmp.{IsEquivalence}
use Rattle.std.proofs.lemmas.Cmp.{nat_list_cmp_total, eq_by_cmp_equiv}
use Rattle.qz_types.proofs.Ascending.{IsAscending-put}
use Rattle.qz_types.specs.Sorted.{IsAscending}
use Rattle.qz_types.specs.Rows.{CalendarData, ZoneData}
use Rattle.qz_types.specs.Words.{text_cmp, same_text, calendar_of, put_calendar, without_calendar, zone_of, put_zone, without_zone, group_of, without_group}
use Rattle.qz_model.specs.Calendars.{with_new_calendar}
use Rattle.qz_model.specs.Plan.{is_utc, is_known_zone}
use Rattle.qz_model.proofs.LookUps.{All-row_of, equal_from, row_of-alike, row_of-put_new, row_of-filter, IsAscending-filter}
use Rattle.qz_model.proofs.Replaced.{row_of-without, row_of-put_replaced, ordered-replaced, length-replaced}
use Rattle.qz_model.proofs.RowPoints.{All-from, All-put, All-left, length-put, length-filter_le}

pub same_text_laws : IsEquivalence same_text
unfolding same_text
same_text_laws = eq_by_cmp_equiv nat_list_cmp_total

-- a text that is one of two that differ isn't the other
pub other_text : (a b c : List ℕ) → same_text a b ≡ false → same_text b c ≡ true → same_text a c ≡ false
other_text a b c differ same = sym (same_text_laws.congr b c a same ∙ same_text_laws.symm c a) ∙ (same_text_laws.symm b a ∙ differ)

-- zones
pub ordered-put_zone : (row : ZoneData) (rows : List ZoneData) → IsAscending text_cmp (λ r. r.name) rows → zone_of row.name rows ≡ None → IsAscending text_cmp (λ r. r.name) (put_zone row rows)
unfolding zone_of put_zone
ordered-put_zone row rows ordered absent = IsAscending-put text_cmp (λ r. r.name) nat_list_cmp_total row rows ordered absent

pub ordered-without_zone : (name : List ℕ) (rows : List ZoneData) → IsAscending text_cmp (λ r. r.name) rows → IsAscending text_cmp (λ r. r.name) (without_zone name rows)
unfolding without_zone
ordered-without_zone name rows ordered = IsAscending-filter text_cmp (λ r. r.name) nat_list_cmp_total _ rows ordered

pub length-put_zone : (row : ZoneData) (rows : List ZoneData) → length (put_zone row rows) ≡ length rows + 1
unfolding put_zone
length-put_zone row rows = length-put text_cmp (λ r. r.name) row rows

pub length-without_zone : (name : List ℕ) (rows : List ZoneData) → length (without_zone name rows) ≤ length rows
unfolding without_zone
length-without_zone name rows = length-filter_le _ rows

still_stored : {R : Type 0} (o p : Option R) → ((r : R) → o ≡ Some r → p ≡ Some r) → is_some o ≡ true → is_some p ≡ true
still_stored None p keeps is = absurd (cc)
still_stored (Some r) p keeps is = ap is_some (keeps r refl)

zone_of-put_zone : (name : List ℕ) (row : ZoneData) (rows : List ZoneData) → zone_of row.name rows ≡ None → is_some (zone_of name rows) ≡ true → is_some (zone_of name (put_zone row rows)) ≡ true
unfolding zone_of put_zone
zone_of-put_zone name row rows absent is = still_stored _ _ (λ r found. row_of-put_new text_cmp (λ x. x.name) nat_list_cmp_total name row r rows absent found) is

zone_of-without_zone : (gone name : List ℕ) (rows : List ZoneData) → same_text gone name ≡ false → zone_of name (without_zone gone rows) ≡ zone_of name rows
unfolding zone_of without_zone same_text
zone_of-without_zone gone name rows differ =
    row_of-filter text_cmp (λ r. r.name) name (λ r. not (same_text gone r.name)) rows
    (All-from (λ r. same_text name r.name ≡ true → not (same_text gone r.name) ≡ true) rows (λ r same. ap not (other_text gone name r.name differ same)))

-- a zone that is known stays known where one is added, or another goes
pub known-put_zone : (name : List ℕ) (row : ZoneData) (rows : List ZoneData) → zone_of row.name rows ≡ None → is_known_zone rows name ≡ true → is_known_zone (put_zone row rows) name ≡ true
unfolding is_known_zone
known-put_zone name row rows absent is = elim (is_utc name) as (λ b. (b || is_some (zone_of name rows)) ≡ true → (b || is_some (zone_of name (put_zone row rows))) ≡ true) [
  | true ↦ λ e. refl
  | false ↦ λ e. zone_of-put_zone name row rows absent e
] is

pub known-without_zone : (gone name : List ℕ) (rows : List ZoneData) → same_text gone name ≡ false → is_known_zone rows name ≡ true → is_known_zone (without_zone gone rows) name ≡ true
unfolding is_known_zone
known-without_zone gone name rows differ is = ap (λ o. is_utc name || is_some o) (zone_of-without_zone gone name rows differ) ∙ is

-- calendars
pub ordered-without_calendar : (name : List ℕ) (rows : List CalendarData) → IsAscending text_cmp (λ r. r.name) rows → IsAscending text_cmp (λ r. r.name) (without_calendar name rows)
unfolding without_calendar
ordered-without_calendar name rows ordered = IsAscending-filter text_cmp (λ r. r.name) nat_list_cmp_total _ rows ordered

pub length-without_calendar : (name : List ℕ) (rows : List CalendarData) → length (without_calendar name rows) ≤ length rows
unfolding without_calendar
length-without_calendar name rows = length-filter_le _ rows

pub All-without_calendar : (P Q : CalendarData → Type 0) (name : List ℕ) (rows : List CalendarData) → AllByRecursion P rows
    → ((c : CalendarData) → same_text name c.name ≡ false → P c → Q c) → AllByRecursion Q (without_calendar name rows)
unfolding without_calendar
All-without_calendar P Q name rows all left = All-left P Q (λ c. same_text name c.name) rows all left

pub All-calendar_of : (P : CalendarData → Type 0) (name : List ℕ) (c : CalendarData) (rows : List CalendarData) → AllByRecursion P rows → calendar_of name rows ≡ Some c → P c
unfolding calendar_of
All-calendar_of P name c rows all found = All-row_of text_cmp (λ r. r.name) P name c rows all found

pub calendar_of-alike : (a b : List ℕ) (rows : List CalendarData) → same_text a b ≡ true → calendar_of a rows ≡ calendar_of b rows
unfolding calendar_of same_text
calendar_of-alike a b rows same = row_of-alike text_cmp (λ r. r.name) nat_list_cmp_total a b rows (equal_from (text_cmp a b) same)

pub calendar_of-without_calendar : (gone name : List ℕ) (rows : List CalendarData) → same_text gone name ≡ false → calendar_of name (without_calendar gone rows) ≡ calendar_of name rows
unfolding calendar_of without_calendar same_text
calendar_of-without_calendar gone name rows differ =
    row_of-filter text_cmp (λ r. r.name) name (λ r. not (same_text gone r.name)) rows
    (All-from (λ r. same_text name r.name ≡ true → not (same_text gone r.name) ≡ true) rows (λ r same. ap not (other_text gone name r.name differ same)))

-- a calendar that is stored, in place of one of its name
pub ordered-with_new_calendar : (c : CalendarData) (rows : List CalendarData) → IsAscending text_cmp (λ r. r.name) rows → IsAscending text_cmp (λ r. r.name) (with_new_calendar c rows)
unfolding with_new_calendar put_calendar without_calendar same_text
ordered-with_new_calendar c rows ordered = ordered-replaced text_cmp (λ r. r.name) nat_list_cmp_total c rows ordered

pub length-with_new_calendar : (c : CalendarData) (rows : List CalendarData) → length (with_new_calendar c rows) ≤ length rows + cond (is_some (calendar_of c.name rows)) 0 1
unfolding with_new_calendar calendar_of put_calendar without_calendar same_text
length-with_new_calendar c rows = length-replaced text_cmp (λ r. r.name) c rows

pub All-put_calendar : (P : CalendarData → Type 0) (c : CalendarData) (rows : List CalendarData) → P c → AllByRecursion P (without_calendar c.name rows) → AllByRecursion P (with_new_calendar c rows)
unfolding with_new_calendar put_calendar
All-put_calendar P c rows new all = All-put text_cmp (λ r. r.name) P c (without_calendar c.name rows) new all

pub All-with_new_calendar : (P Q : CalendarData → Type 0) (c : CalendarData) (rows : List CalendarData) → Q c → AllByRecursion P rows
    → ((d : CalendarData) → same_text c.name d.name ≡ false → P d → Q d) → AllByRecursion Q (with_new_calendar c rows)
unfolding with_new_calendar put_calendar
All-with_new_calendar P Q c rows new all left = All-put text_cmp (λ r. r.name) Q c (without_calendar c.name rows) new (All-without_calendar P Q c.name rows all left)

-- it is found under its name, and each other as before
pub calendar_of_with_new : (name : List ℕ) (c : CalendarData) (rows : List CalendarData)
    → calendar_of name (with_new_calendar c rows) ≡ (if same_text c.name name then Some c else calendar_of name rows)
unfolding with_new_calendar calendar_of put_calendar without_calendar same_text
calendar_of_with_new name c rows = row_of-put_replaced text_cmp (λ r. r.name) nat_list_cmp_total name c rows

-- paused groups
pub group_of_without : (group : List ℕ) (groups : List (List ℕ)) → group_of group (without_group group groups) ≡ None
unfolding group_of without_group same_text
group_of_without group groups = row_of-without text_cmp (λ r. r) group groups

-- no row is left of the id of one that goes
pub calendar_of_without : (name : List ℕ) (rows : List CalendarData) → calendar_of name (without_calendar name rows) ≡ None
unfolding calendar_of without_calendar same_text
calendar_of_without name rows = row_of-without text_cmp (λ r. r.name) name rows
