-- Rows whose years are widened: they keep their names, keys and zones, and stay valid.
use Rattle.std.proofs.Common.{◌≡◌, ℕ, ℤ, true, false, not, ◌&&◌, List, map, option_map, refl, ◌∙◌, if◌then◌else◌}
use Rattle.std.proofs.lemmas.Bool.{and_parts, and_from}
use Rattle.std.proofs.lemmas.Cmp.{nat_list_cmp_total}
use Rattle.qz_civil.specs.declared.calendars.CalendarKind.{CalendarKind}
use Rattle.qz_civil.specs.declared.calendars.CalendarKind.TheVariants as calendar
use Rattle.qz_civil.specs.declared.fields.CronFields.{CronFields}
use Rattle.qz_civil.specs.declared.timings.Kind.{Kind}
use Rattle.qz_civil.specs.declared.timings.Kind.TheVariants.{Simple, Cron, Interval, Daily}
use Rattle.qz_civil.specs.declared.timings.Timing.{Timing}
use Rattle.qz_civil.specs.Calendars.{is_calendar_kind}
use Rattle.qz_civil.specs.Fields.{size, is_year_set, is_day_field, is_week_field, is_set, is_time_fields, is_date_fields, is_cron_fields, is_any_day, is_any_week}
use Rattle.qz_civil.specs.declared.fields.Field.TheVariants.{Month}
use Rattle.qz_civil.specs.Timings.{is_name, is_kind, is_misfire, is_span, is_end, is_timing}
use Rattle.qz_types.specs.Rows.{TriggerData, CalendarData, is_key, is_calendar, is_trigger_spec, is_trigger, is_calendar_row}
use Rattle.qz_types.specs.Sorted.{IsAscending}
use Rattle.qz_types.specs.declared.keys.Key.{Key}
use Rattle.qz_types.specs.declared.triggers.TriggerSpec.{TriggerSpec}
use Rattle.qz_types.specs.Words.{key_cmp, text_cmp, same_text, trigger_of, calendar_of}
use Rattle.qz_model.specs.Plan.{zone_named_by}
use Rattle.qz_model.specs.Upgrading.{all_years_to_2099, all_years_to_2199, widened, widened_kind, widened_calendar_kind, widened_timing, widened_spec, widened_trigger, widened_calendar}
use Rattle.qz_model.proofs.LookUps.{row_of-map, IsAscending-map}
use Rattle.qz_model.proofs.RowLaws.{key_total}

-- Look-ups.

pub trigger_of-widened : (k : Key) (rows : List TriggerData) → trigger_of k (map widened_trigger rows) ≡ option_map widened_trigger (trigger_of k rows)
unfolding trigger_of
trigger_of-widened k rows = row_of-map key_cmp (λ r. r.spec.key) k widened_trigger rows (λ t. refl)

pub calendar_of-widened : (name : List ℕ) (rows : List CalendarData) → calendar_of name (map widened_calendar rows) ≡ option_map widened_calendar (calendar_of name rows)
unfolding calendar_of
calendar_of-widened name rows = row_of-map text_cmp (λ r. r.name) name widened_calendar rows (λ c. refl)

pub ordered-widened_triggers : (rows : List TriggerData) → IsAscending key_cmp (λ r. r.spec.key) rows → IsAscending key_cmp (λ r. r.spec.key) (map widened_trigger rows)
ordered-widened_triggers rows ordered = IsAscending-map key_cmp (λ r. r.spec.key) key_total widened_trigger rows (λ t. refl) ordered

pub ordered-widened_calendars : (rows : List CalendarData) → IsAscending text_cmp (λ r. r.name) rows → IsAscending text_cmp (λ r. r.name) (map widened_calendar rows)
ordered-widened_calendars rows ordered = IsAscending-map text_cmp (λ r. r.name) nat_list_cmp_total widened_calendar rows (λ c. refl) ordered

-- the kind keeps its zone
pub widened_zone : (kind : Kind) → zone_named_by (widened_kind kind) ≡ zone_named_by kind
widened_zone (Simple interval count) = refl
widened_zone (Cron fields zone) = refl
widened_zone (Interval unit every zone preserve skip) = refl
widened_zone (Daily unit every from to days zone) = refl

-- Valid fields stay valid.

years_to_2199 : is_year_set all_years_to_2199 ≡ true
unfolding is_year_set size
years_to_2199 = refl

with_all_years : (f : CronFields) → is_cron_fields f ≡ true → is_cron_fields (record f { years = all_years_to_2199 }) ≡ true
unfolding is_time_fields is_date_fields
with_all_years f good =
    let parts = and_parts (is_time_fields f) (is_date_fields f) good in
    let date = and_parts (is_day_field f.day && is_set Month f.months && is_week_field f.week && is_year_set f.years) (if is_any_day f.day then not (is_any_week f.week) else is_any_week f.week) parts.1 in
    let sets = and_parts (is_day_field f.day && is_set Month f.months && is_week_field f.week) (is_year_set f.years) date.0 in
    and_from (is_time_fields f) _ parts.0 (and_from (is_day_field f.day && is_set Month f.months && is_week_field f.week && is_year_set all_years_to_2199) _
    (and_from (is_day_field f.day && is_set Month f.months && is_week_field f.week) (is_year_set all_years_to_2199) sets.0 years_to_2199) date.1)

pub valid-widened : (f : CronFields) → is_cron_fields f ≡ true → is_cron_fields (widened f) ≡ true
unfolding widened
valid-widened f good = elim (same_text f.years all_years_to_2099) as (λ b. is_cron_fields (if b then record f { years = all_years_to_2199 } else f) ≡ true) [
  | true ↦ with_all_years f good
  | false ↦ good
]

pub valid-widened_kind : (kind : Kind) → is_kind kind ≡ true → is_kind (widened_kind kind) ≡ true
valid-widened_kind (Simple interval count) good = good
valid-widened_kind (Cron fields zone) good =
    let parts = and_parts (is_cron_fields fields) (is_name zone) good in
    and_from (is_cron_fields (widened fields)) (is_name zone) (valid-widened fields parts.0) parts.1
valid-widened_kind (Interval unit every zone preserve skip) good = good
valid-widened_kind (Daily unit every from to days zone) good = good

same_misfire : (kind : Kind) (code : ℤ) → is_misfire (widened_kind kind) code ≡ is_misfire kind code
same_misfire (Simple interval count) code = refl
same_misfire (Cron fields zone) code = refl
same_misfire (Interval unit every zone preserve skip) code = refl
same_misfire (Daily unit every from to days zone) code = refl

pub valid-widened_timing : (timing : Timing) → is_timing timing ≡ true → is_timing (widened_timing timing) ≡ true
valid-widened_timing timing good =
    let span = and_parts (is_kind timing.kind && is_misfire timing.kind timing.misfire && is_span timing.start) (is_end timing.end) good in
    let first = and_parts (is_kind timing.kind && is_misfire timing.kind timing.misfire) (is_span timing.start) span.0 in
    let kinds = and_parts (is_kind timing.kind) (is_misfire timing.kind timing.misfire) first.0 in
    and_from (is_kind (widened_kind timing.kind) && is_misfire (widened_kind timing.kind) timing.misfire && is_span timing.start) (is_end timing.end)
    (and_from (is_kind (widened_kind timing.kind) && is_misfire (widened_kind timing.kind) timing.misfire) (is_span timing.start)
    (and_from (is_kind (widened_kind timing.kind)) (is_misfire (widened_kind timing.kind) timing.misfire) (valid-widened_kind timing.kind kinds.0) (same_misfire timing.kind timing.misfire ∙ kinds.1)) first.1) span.1

pub valid-widened_spec : (s : TriggerSpec) → is_trigger_spec s ≡ true → is_trigger_spec (widened_spec s) ≡ true
valid-widened_spec s good =
    let parts = and_parts (is_key s.key && is_key s.job && is_calendar s.calendar) (is_timing s.timing) good in
    and_from (is_key s.key && is_key s.job && is_calendar s.calendar) (is_timing (widened_timing s.timing)) parts.0 (valid-widened_timing s.timing parts.1)

pub valid-widened_trigger : (t : TriggerData) → is_trigger t ≡ true → is_trigger (widened_trigger t) ≡ true
valid-widened_trigger t good =
    let parts = and_parts (is_trigger_spec t.spec) _ good in
    and_from (is_trigger_spec (widened_spec t.spec)) _ (valid-widened_spec t.spec parts.0) parts.1

pub valid-widened_calendar_kind : (kind : CalendarKind) → is_calendar_kind kind ≡ true → is_calendar_kind (widened_calendar_kind kind) ≡ true
valid-widened_calendar_kind (calendar.Annual days) good = good
valid-widened_calendar_kind (calendar.Holiday dates) good = good
valid-widened_calendar_kind (calendar.Weekly days) good = good
valid-widened_calendar_kind (calendar.Monthly days) good = good
valid-widened_calendar_kind (calendar.Daily from to inverted) good = good
valid-widened_calendar_kind (calendar.Cron fields) good = valid-widened fields good

pub valid-widened_calendar : (c : CalendarData) → is_calendar_row c ≡ true → is_calendar_row (widened_calendar c) ≡ true
valid-widened_calendar c good =
    let parts = and_parts (is_name c.name && is_calendar c.base && is_name c.zone) (is_calendar_kind c.kind) good in
    and_from (is_name c.name && is_calendar c.base && is_name c.zone) (is_calendar_kind (widened_calendar_kind c.kind)) parts.0 (valid-widened_calendar_kind c.kind parts.1)
