-- Triggers as JSON, as a client gives them.
use Rattle.std.specs.Prelude.{ℕ, ℤ, pos, List, [], ◌∷◌, ◌++◌, Bool, Option, codes}
use Rattle.std.specs.Fmt.{decimal, signed_decimal}
use Rattle.qz_civil.specs.declared.fields.CronFields.{CronFields}
use Rattle.qz_civil.specs.declared.timings.Kind.{Kind}
use Rattle.qz_civil.specs.declared.timings.Kind.TheVariants.{Simple, Cron, Interval, Daily}
use Rattle.qz_civil.specs.declared.timings.Timing.{Timing}
use Rattle.qz_civil.specs.declared.timings.Unit.{Unit}
use Rattle.qz_civil.specs.declared.timings.Unit.TheVariants.{Second, Minute, Hour, Day, Week, Month, Year}
use Rattle.qz_cron_text.specs.Printing.{canonical_text}
use Rattle.qz_types.specs.declared.keys.Key.{Key}
use Rattle.qz_types.specs.declared.triggers.TriggerSpec.{TriggerSpec}
use Rattle.qz_json_rows.specs.Json.{more, more_named, more_number, more_text, more_timed, more_unset, plain, quoted}
use Rattle.qz_json_rows.specs.Jobs.{key_members}
use Rattle.qz_json_rows.specs.Numbers.{more_clock, more_days}

abbrev pub unit_word : Unit → List ℕ
unit_word Second = codes "SECOND"
unit_word Minute = codes "MINUTE"
unit_word Hour = codes "HOUR"
unit_word Day = codes "DAY"
unit_word Week = codes "WEEK"
unit_word Month = codes "MONTH"
unit_word Year = codes "YEAR"

abbrev pub kind_word : Kind → List ℕ
kind_word (Simple interval count) = codes "simple"
kind_word (Cron fields zone) = codes "cron"
kind_word (Interval unit every zone preserve skip) = codes "interval"
kind_word (Daily unit every from to days zone) = codes "daily"

-- The members of each kind.

unfoldable pub zone_member : List ℕ → List ℕ
zone_member zone = more_text (codes "zone") (codes "UTC") zone

unfoldable pub simple_members : ℤ → ℤ → List ℕ
simple_members interval count = more_number (codes "interval") (pos 0) interval ++ more_number (codes "count") (pos 0) count

unfoldable pub cron_members : CronFields → List ℕ → List ℕ
cron_members fields zone = more (codes "cron") (quoted (canonical_text fields)) ++ zone_member zone

unfoldable pub step_members : Unit → ℕ → List ℕ
step_members unit every = more (codes "unit") (plain (unit_word unit)) ++ more (codes "every") (decimal every)

unfoldable pub flag_members : Bool → Bool → List ℕ
flag_members preserve skip = more_unset (codes "preserveHourOfDay") preserve ++ more_unset (codes "skipDayIfHourDoesNotExist") skip

unfoldable pub interval_members : List ℕ → Bool → Bool → List ℕ
interval_members zone preserve skip = zone_member zone ++ flag_members preserve skip

unfoldable pub daily_members : ℕ → ℕ → ℕ → List ℕ → List ℕ
daily_members from to days zone =
    more_clock (codes "from") 0 from ++ more_clock (codes "to") 86399 to ++ more_days 7 127 (codes "days") days ++ zone_member zone

abbrev pub kind_members : Kind → List ℕ
kind_members (Simple interval count) = simple_members interval count
kind_members (Cron fields zone) = cron_members fields zone
kind_members (Interval unit every zone preserve skip) = step_members unit every ++ interval_members zone preserve skip
kind_members (Daily unit every from to days zone) = step_members unit every ++ daily_members from to days zone

-- The members of every trigger.

-- the trigger's key, and its job's
unfoldable pub keys_members : Key → Key → List ℕ
keys_members key job = key_members key ++ more (codes "job") (quoted job.name) ++ more_text (codes "job_group") (codes "DEFAULT") job.group

unfoldable pub choice_members : ℤ → Option (List ℕ) → ℤ → List ℕ
choice_members priority calendar misfire =
    more_number (codes "priority") (pos 5) priority ++ more_named (codes "calendar") calendar
    ++ more_number (codes "misfire") (pos 0) misfire

unfoldable pub timing_members : Timing → List ℕ
timing_members t =
    more (codes "start") (signed_decimal t.start) ++ more_timed (codes "end") t.end
    ++ more (codes "kind") (plain (kind_word t.kind)) ++ kind_members t.kind

unfoldable pub trigger_members : TriggerSpec → List ℕ
trigger_members s = keys_members s.key s.job ++ choice_members s.priority s.calendar s.timing.misfire ++ timing_members s.timing

abbrev pub trigger_text : TriggerSpec → List ℕ
trigger_text s = 123 ∷ trigger_members s ++ 125 ∷ []
