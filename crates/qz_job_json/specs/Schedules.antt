-- The triggers in lines. The members are read in this order up to the first fault, and the cron text last.
use Rattle.std.specs.Prelude.{ℕ, ℤ, pos, negsuc, true, List, if◌then◌else◌, Option, Some, None, Result, Ok, Err, option_and_then, codes}
use Rattle.serde_json.specs.Data.{Data}
use Rattle.qz_civil.specs.declared.fields.CronFields.{CronFields}
use Rattle.qz_civil.specs.declared.timings.Unit.{Unit}
use Rattle.qz_civil.specs.declared.timings.Unit.TheVariants.{Second, Minute, Hour, Day, Week, Month, Year}
use Rattle.qz_civil.specs.declared.timings.Kind.{Kind}
use Rattle.qz_civil.specs.declared.timings.Kind.TheVariants as kind
use Rattle.qz_civil.specs.declared.timings.Timing.{Timing}
use Rattle.qz_civil.specs.declared.limits.TheConstants.{LONGEST}
use Rattle.qz_civil.specs.Timings.{is_every, is_kind}
use Rattle.qz_types.specs.declared.triggers.TriggerSpec.{TriggerSpec}
use Rattle.qz_cron_text.specs.declared.errors.CronError.{CronError}
use Rattle.qz_cron_text.specs.Reading.{reading}
use Rattle.qz_job_json.specs.declared.forms.KindWord.{KindWord}
use Rattle.qz_job_json.specs.declared.forms.KindWord.TheVariants.{Simple, Cron, Interval, Daily}
use Rattle.qz_job_json.specs.declared.forms.Form.TheVariants.{TriggerOf}
use Rattle.qz_job_json.specs.declared.faults.LineFault.{LineFault}
use Rattle.qz_job_json.specs.declared.faults.LineFault.TheVariants as fault
use Rattle.qz_job_json.specs.Clocks.{second_or, days_at}
use Rattle.qz_job_json.specs.Faults.{◌>>=◌, or_shape}
use Rattle.qz_job_json.specs.Forms.{members_of, kind_word_of}
use Rattle.qz_job_json.specs.Members.{is_text, has_only, kept, text_at, number_at, span_at, name_or, integer_or, optional_span_at, optional_name_at, flag_or}
use Rattle.qz_job_json.specs.Objects.{trigger_key, job_key}

-- a cron text with a fault has that fault
abbrev pub or_cron : Result CronFields CronError → Result CronFields LineFault
or_cron (Ok fields) = Ok fields
or_cron (Err e) = Err (fault.Cron e)

-- the unit of this name
unfoldable pub unit_of : List ℕ → Option Unit
unit_of text =
    if is_text text (codes "SECOND") then Some Second
    else if is_text text (codes "MINUTE") then Some Minute
    else if is_text text (codes "HOUR") then Some Hour
    else if is_text text (codes "DAY") then Some Day
    else if is_text text (codes "WEEK") then Some Week
    else if is_text text (codes "MONTH") then Some Month
    else if is_text text (codes "YEAR") then Some Year
    else None

-- each member, within its limits; what may be absent has its default
abbrev pub unit_at : Data → Option Unit
unit_at d = option_and_then unit_of (text_at (codes "unit") d)

abbrev pub every_at : Data → Option ℕ
every_at d = kept is_every (number_at (codes "every") d)

-- the name of a zone, UTC only where there is no such member
abbrev pub zone_at : Data → Option (List ℕ)
zone_at d = name_or (codes "UTC") (codes "zone") d

abbrev pub interval_at : Data → Option ℤ
interval_at d = integer_or (pos 0) LONGEST (pos 0) (codes "interval") d

abbrev pub count_at : Data → Option ℤ
count_at d = integer_or (negsuc 0) (pos 2147483647) (pos 0) (codes "count") d

-- the kind, where its members go together
abbrev pub valid : Kind → Result Kind LineFault
valid k = if is_kind k then Ok k else Err fault.Shape

-- The kinds, each by its members.
unfoldable pub simple_of : Data → Result Kind LineFault
simple_of d =
    or_shape (interval_at d) >>= λ interval.
    or_shape (count_at d) >>= λ count.
    valid (kind.Simple interval count)

unfoldable pub cron_of : Data → Result Kind LineFault
cron_of d =
    or_shape (text_at (codes "cron") d) >>= λ text.
    or_shape (zone_at d) >>= λ zone.
    or_cron (reading text) >>= λ fields.
    Ok (kind.Cron fields zone)

unfoldable pub interval_of : Data → Result Kind LineFault
interval_of d =
    or_shape (unit_at d) >>= λ unit.
    or_shape (every_at d) >>= λ every.
    or_shape (zone_at d) >>= λ zone.
    or_shape (flag_or true (codes "preserveHourOfDay") d) >>= λ preserve.
    or_shape (flag_or true (codes "skipDayIfHourDoesNotExist") d) >>= λ skip.
    Ok (kind.Interval unit every zone preserve skip)

unfoldable pub daily_of : Data → Result Kind LineFault
daily_of d =
    or_shape (unit_at d) >>= λ unit.
    or_shape (every_at d) >>= λ every.
    or_shape (second_or 0 (codes "from") d) >>= λ from.
    or_shape (second_or 86399 (codes "to") d) >>= λ to.
    or_shape (days_at d) >>= λ days.
    or_shape (zone_at d) >>= λ zone.
    valid (kind.Daily unit every from to days zone)

-- the kind that the word names
abbrev pub kind_of : KindWord → Data → Result Kind LineFault
kind_of Simple d = simple_of d
kind_of Cron d = cron_of d
kind_of Interval d = interval_of d
kind_of Daily d = daily_of d

-- the greatest misfire instruction; the least is -1
abbrev pub last_misfire : KindWord → ℤ
last_misfire Simple = pos 5
last_misfire Cron = pos 2
last_misfire Interval = pos 2
last_misfire Daily = pos 2

-- the same by the kind itself
abbrev pub last_of : Kind → ℤ
last_of (kind.Simple interval count) = pos 5
last_of (kind.Cron fields zone) = pos 2
last_of (kind.Interval unit every zone preserve skip) = pos 2
last_of (kind.Daily unit every from to days zone) = pos 2

abbrev pub misfire_at : KindWord → Data → Option ℤ
misfire_at word d = integer_or (negsuc 0) (last_misfire word) (pos 0) (codes "misfire") d

-- when a trigger of that kind fires
unfoldable pub timing_of : KindWord → Data → Result Timing LineFault
timing_of word d =
    or_shape (misfire_at word d) >>= λ misfire.
    or_shape (span_at (codes "start") d) >>= λ start.
    or_shape (optional_span_at (codes "end") d) >>= λ end.
    kind_of word d >>= λ k.
    Ok (record { kind = k; misfire = misfire; start = start; end = end })

abbrev pub priority_at : Data → Option ℤ
priority_at d = integer_or (negsuc 2147483647) (pos 2147483647) (pos 5) (codes "priority") d

abbrev pub calendar_at : Data → Option (Option (List ℕ))
calendar_at d = optional_name_at (codes "calendar") d

-- a trigger of that kind
unfoldable pub timed_trigger_of : KindWord → Data → Result TriggerSpec LineFault
timed_trigger_of word d =
    or_shape (trigger_key d) >>= λ key.
    or_shape (job_key d) >>= λ job.
    or_shape (priority_at d) >>= λ priority.
    or_shape (calendar_at d) >>= λ calendar.
    timing_of word d >>= λ timing.
    Ok (record { key = key; job = job; priority = priority; calendar = calendar; timing = timing })

-- the word under `kind`
abbrev pub kind_word_at : Data → Option KindWord
kind_word_at d = option_and_then kind_word_of (text_at (codes "kind") d)

-- a trigger of its kind, which has only members of that kind
abbrev pub only_timed_trigger_of : KindWord → Data → Result TriggerSpec LineFault
only_timed_trigger_of word d =
    if has_only (members_of (TriggerOf word)) d then timed_trigger_of word d else Err fault.Shape

-- a trigger of the kind that it says
abbrev pub trigger_by_kind : Data → Result TriggerSpec LineFault
trigger_by_kind d = or_shape (kind_word_at d) >>= λ word. only_timed_trigger_of word d
