-- The years of cron fields, changed in those that have just the old ones.
use Rattle.std.specs.Prelude.{if◌then◌else◌}
use Rattle.qz_civil.specs.declared.calendars.CalendarKind.{CalendarKind}
use Rattle.qz_civil.specs.declared.calendars.CalendarKind.TheVariants as calendar
use Rattle.qz_civil.specs.declared.fields.CronFields.{CronFields}
use Rattle.qz_civil.specs.declared.timings.Kind.{Kind}
use Rattle.qz_civil.specs.declared.timings.Kind.TheVariants.{Simple, Cron, Interval, Daily}
use Rattle.qz_types.specs.Rows.{TriggerData, CalendarData}
use Rattle.qz_types.specs.Words.{same_text}
use Rattle.qz_tables.specs.declared.edits.YearChange.{YearChange}

unfoldable pub with_years : YearChange → CronFields → CronFields
with_years change f = if same_text f.years change.old then record f { years = change.new } else f

-- of a trigger's kind
abbrev pub kind_with_years : YearChange → Kind → Kind
kind_with_years change (Simple interval count) = Simple interval count
kind_with_years change (Cron fields zone) = Cron (with_years change fields) zone
kind_with_years change (Interval unit every zone preserve skip) = Interval unit every zone preserve skip
kind_with_years change (Daily unit every from to days zone) = Daily unit every from to days zone

-- of a calendar's kind
abbrev pub calendar_kind_with_years : YearChange → CalendarKind → CalendarKind
calendar_kind_with_years change (calendar.Annual days) = calendar.Annual days
calendar_kind_with_years change (calendar.Holiday dates) = calendar.Holiday dates
calendar_kind_with_years change (calendar.Weekly days) = calendar.Weekly days
calendar_kind_with_years change (calendar.Monthly days) = calendar.Monthly days
calendar_kind_with_years change (calendar.Daily from to inverted) = calendar.Daily from to inverted
calendar_kind_with_years change (calendar.Cron fields) = calendar.Cron (with_years change fields)

abbrev pub trigger_with_years : YearChange → TriggerData → TriggerData
trigger_with_years change t = record t { spec = record t.spec { timing = record t.spec.timing { kind = kind_with_years change t.spec.timing.kind } } }

abbrev pub calendar_with_years : YearChange → CalendarData → CalendarData
calendar_with_years change c = record c { kind = calendar_kind_with_years change c.kind }
