-- The transaction of a client that takes a store of format version 1 to version 2.
use Rattle.std.specs.Prelude.{ℕ, ◌-◌, ◌^◌, ℤ, List, [], ◌∷◌, map, Bool, true, false, not, ◌&&◌, Option, None, if◌then◌else◌}
use Rattle.std.specs.Ordering.{int_eq}
use Rattle.qz_civil.specs.declared.calendars.CalendarKind.{CalendarKind}
use Rattle.qz_civil.specs.declared.calendars.CalendarKind.TheVariants as calendar
use Rattle.qz_civil.specs.declared.fields.CronFields.{CronFields}
use Rattle.qz_civil.specs.declared.limits.TheConstants.{LAST, VERSION_ONE_LAST}
use Rattle.qz_civil.specs.declared.timings.Kind.{Kind}
use Rattle.qz_civil.specs.declared.timings.Kind.TheVariants.{Simple, Cron, Interval, Daily}
use Rattle.qz_civil.specs.declared.timings.Timing.{Timing}
use Rattle.qz_types.specs.Rows.{TriggerData, CalendarData}
use Rattle.qz_types.specs.declared.commands.Command.{Command}
use Rattle.qz_types.specs.declared.commands.Command.TheVariants.{Upgrade}
use Rattle.qz_types.specs.declared.replies.Reply.TheVariants.{Done}
use Rattle.qz_types.specs.declared.replies.Refusal.{Refusal}
use Rattle.qz_types.specs.declared.replies.Refusal.TheVariants.{Current, OldStore}
use Rattle.qz_types.specs.declared.triggers.TriggerSpec.{TriggerSpec}
use Rattle.qz_types.specs.Tables.{SchedulerTables}
use Rattle.qz_types.specs.Outcomes.{Outcome, accepted, unless}
use Rattle.qz_types.specs.Words.{same_text}
use Rattle.qz_model.specs.Tests.{refuse_if}

-- The years of a cron text, as words of 64 years from 1970 on: all up to 2099, which are all that version 1 knows, and all up to
-- 2199.
abbrev pub all_years_to_2099 : List ℕ
all_years_to_2099 = (2 ^ 64 - 1) ∷ (2 ^ 64 - 1) ∷ (2 ^ 2 - 1) ∷ 0 ∷ []

abbrev pub all_years_to_2199 : List ℕ
all_years_to_2199 = (2 ^ 64 - 1) ∷ (2 ^ 64 - 1) ∷ (2 ^ 64 - 1) ∷ (2 ^ 38 - 1) ∷ []

-- the fields, every year taken for every year still
unfoldable pub widened : CronFields → CronFields
widened f = if same_text f.years all_years_to_2099 then record f { years = all_years_to_2199 } else f

-- the same of what a trigger or a calendar has, if that is cron fields
abbrev pub widened_kind : Kind → Kind
widened_kind (Simple interval count) = Simple interval count
widened_kind (Cron fields zone) = Cron (widened fields) zone
widened_kind (Interval unit every zone preserve skip) = Interval unit every zone preserve skip
widened_kind (Daily unit every from to days zone) = Daily unit every from to days zone

abbrev pub widened_calendar_kind : CalendarKind → CalendarKind
widened_calendar_kind (calendar.Annual days) = calendar.Annual days
widened_calendar_kind (calendar.Holiday dates) = calendar.Holiday dates
widened_calendar_kind (calendar.Weekly days) = calendar.Weekly days
widened_calendar_kind (calendar.Monthly days) = calendar.Monthly days
widened_calendar_kind (calendar.Daily from to inverted) = calendar.Daily from to inverted
widened_calendar_kind (calendar.Cron fields) = calendar.Cron (widened fields)

abbrev pub widened_timing : Timing → Timing
widened_timing timing = record timing { kind = widened_kind timing.kind }

abbrev pub widened_spec : TriggerSpec → TriggerSpec
widened_spec s = record s { timing = widened_timing s.timing }

abbrev pub widened_trigger : TriggerData → TriggerData
widened_trigger t = record t { spec = widened_spec t.spec }

abbrev pub widened_calendar : CalendarData → CalendarData
widened_calendar c = record c { kind = widened_calendar_kind c.kind }

-- the tables are those of version 2 already
unfoldable pub upgrade_refusal : SchedulerTables → Option Refusal
upgrade_refusal T = refuse_if (int_eq T.horizon LAST) Current None

-- fire times may go on to LAST from now on; next times and states stay as they are
abbrev pub upgrade : SchedulerTables → ℤ → Outcome
upgrade T m = unless (upgrade_refusal T)
    (accepted (record T {
      triggers = map widened_trigger T.triggers;
      calendars = map widened_calendar T.calendars;
      horizon = LAST;
      last_moment = m;
    }) Done)

-- What a store refuses before the transaction says anything: a store of version 1 takes an Upgrade alone. This is no part of the
-- transaction, so that the histories of such stores are replayed.
abbrev pub is_upgrade : Command → Bool
is_upgrade Upgrade = true
is_upgrade command = false

unfoldable pub version_refusal : SchedulerTables → Command → Option Refusal
version_refusal T command = refuse_if (int_eq T.horizon VERSION_ONE_LAST && not (is_upgrade command)) OldStore None
