-- Rows whose years change stay valid.
use Rattle.std.proofs.Common.{◌≡◌, ℤ, true, false, not, ◌&&◌, List, ℕ, refl, if◌then◌else◌}
use Rattle.std.specs.Prelude.{IsTrue, nat_le}
use Rattle.std.proofs.lemmas.Bool.{and_parts, and_from}
use Rattle.qz_civil.specs.declared.calendars.CalendarKind.{CalendarKind}
use Rattle.qz_civil.specs.declared.calendars.CalendarKind.TheVariants as calendar
use Rattle.qz_civil.specs.declared.fields.CronFields.{CronFields}
use Rattle.qz_civil.specs.declared.fields.Field.TheVariants.{Month}
use Rattle.qz_civil.specs.declared.timings.Kind.{Kind}
use Rattle.qz_civil.specs.declared.timings.Kind.TheVariants.{Simple, Cron, Interval, Daily}
use Rattle.qz_civil.specs.declared.timings.Timing.{Timing}
use Rattle.qz_civil.specs.Calendars.{is_calendar_kind}
use Rattle.qz_civil.specs.Fields.{is_year_set, is_day_field, is_week_field, is_set, is_time_fields, is_date_fields, is_cron_fields, is_any_day, is_any_week}
use Rattle.qz_civil.specs.Timings.{is_name, is_kind, is_misfire, is_span, is_end, is_timing}
use Rattle.qz_types.specs.Rows.{TriggerData, CalendarData, is_key, is_calendar, is_trigger_spec, is_trigger, is_calendar_row}
use Rattle.qz_types.specs.Words.{same_text}
use Rattle.qz_types.specs.declared.limits.TheConstants.{TIMES_LIMIT}
use Rattle.qz_tables.specs.Years.{with_years, kind_with_years, calendar_kind_with_years}
use Rattle.qz_tables.specs.declared.edits.YearChange.{YearChange}

with_these : (f : CronFields) (years : List ℕ) → is_year_set years ≡ true → is_cron_fields f ≡ true → is_cron_fields (record f { years = years }) ≡ true
unfolding is_time_fields is_date_fields
with_these f years some good =
    let parts = and_parts (is_time_fields f) (is_date_fields f) good in
    let date = and_parts (is_day_field f.day && is_set Month f.months && is_week_field f.week && is_year_set f.years) (if is_any_day f.day then not (is_any_week f.week) else is_any_week f.week) parts.1 in
    let sets = and_parts (is_day_field f.day && is_set Month f.months && is_week_field f.week) (is_year_set f.years) date.0 in
    and_from (is_time_fields f) _ parts.0 (and_from (is_day_field f.day && is_set Month f.months && is_week_field f.week && is_year_set years) _
    (and_from (is_day_field f.day && is_set Month f.months && is_week_field f.week) (is_year_set years) sets.0 some) date.1)

module _ (change : YearChange) (some : is_year_set change.new ≡ true) where
  fields_again : (f : CronFields) → is_cron_fields f ≡ true → is_cron_fields (with_years change f) ≡ true
  unfolding with_years
  fields_again f good = elim (same_text f.years change.old) as (λ b. is_cron_fields (if b then record f { years = change.new } else f) ≡ true) [
    | true ↦ with_these f change.new some good
    | false ↦ good
  ]

  kind_again : (kind : Kind) → is_kind kind ≡ true → is_kind (kind_with_years change kind) ≡ true
  kind_again (Simple interval count) good = good
  kind_again (Cron fields zone) good =
      let parts = and_parts (is_cron_fields fields) (is_name zone) good in
      and_from (is_cron_fields (with_years change fields)) (is_name zone) (fields_again fields parts.0) parts.1
  kind_again (Interval unit every zone preserve skip) good = good
  kind_again (Daily unit every from to days zone) good = good

  same_misfire : (kind : Kind) (code : ℤ) → is_misfire (kind_with_years change kind) code ≡ is_misfire kind code
  same_misfire (Simple interval count) code = refl
  same_misfire (Cron fields zone) code = refl
  same_misfire (Interval unit every zone preserve skip) code = refl
  same_misfire (Daily unit every from to days zone) code = refl

  calendar_kind_again : (kind : CalendarKind) → is_calendar_kind kind ≡ true → is_calendar_kind (calendar_kind_with_years change kind) ≡ true
  calendar_kind_again (calendar.Annual days) good = good
  calendar_kind_again (calendar.Holiday dates) good = good
  calendar_kind_again (calendar.Weekly days) good = good
  calendar_kind_again (calendar.Monthly days) good = good
  calendar_kind_again (calendar.Daily from to inverted) good = good
  calendar_kind_again (calendar.Cron fields) good = fields_again fields good

  timing_again : (timing : Timing) → is_timing timing ≡ true → is_timing (record timing { kind = kind_with_years change timing.kind }) ≡ true
  timing_again timing good =
      let end = and_parts (is_kind timing.kind && is_misfire timing.kind timing.misfire && is_span timing.start) (is_end timing.end) good in
      let start = and_parts (is_kind timing.kind && is_misfire timing.kind timing.misfire) (is_span timing.start) end.0 in
      let both = and_parts (is_kind timing.kind) (is_misfire timing.kind timing.misfire) start.0 in
      rw (kind_again timing.kind both.0, same_misfire timing.kind timing.misfire, both.1, start.1, end.1) refl

  pub trigger_again : (t : TriggerData) (kind : Kind) → kind ≡ kind_with_years change t.spec.timing.kind → IsTrue (is_trigger t) → IsTrue (is_trigger (record t { spec = record t.spec { timing = record t.spec.timing { kind = kind } } }))
  trigger_again t kind is good =
      let whole = and_parts (is_trigger_spec t.spec) (nat_le t.times TIMES_LIMIT) good in
      let spec = and_parts (is_key t.spec.key && is_key t.spec.job && is_calendar t.spec.calendar) (is_timing t.spec.timing) whole.0 in
      rw (is, spec.0, timing_again t.spec.timing spec.1, whole.1) refl

  pub calendar_again : (c : CalendarData) (kind : CalendarKind) → kind ≡ calendar_kind_with_years change c.kind → IsTrue (is_calendar_row c) → IsTrue (is_calendar_row (record c { kind = kind }))
  calendar_again c kind is good =
      let parts = and_parts (is_name c.name && is_calendar c.base && is_name c.zone) (is_calendar_kind c.kind) good in
      rw (is, parts.0, calendar_kind_again c.kind parts.1) refl
