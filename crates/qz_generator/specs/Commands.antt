-- The commands that a seed gives: all jobs, and then a trigger for each.
use Rattle.std.specs.Prelude.{ℕ, zero, suc, ◌*◌, ◌^◌, ◌-◌, pos, negsuc, List, [], ◌∷◌, ◌++◌, true, false, None, codes}
use Rattle.std.specs.Fmt.{decimal}
use Rattle.qz_civil.specs.declared.fields.CronFields.{CronFields}
use Rattle.qz_civil.specs.declared.fields.DayField.TheVariants as days
use Rattle.qz_civil.specs.declared.fields.WeekField.TheVariants as weeks
use Rattle.qz_civil.specs.declared.timings.Kind.{Kind}
use Rattle.qz_civil.specs.declared.timings.Kind.TheVariants as kind
use Rattle.qz_civil.specs.declared.timings.Unit.TheVariants.{Hour, Minute}
use Rattle.qz_types.specs.Rows.{JobData}
use Rattle.qz_types.specs.declared.commands.Command.{Command}
use Rattle.qz_types.specs.declared.commands.Command.TheVariants.{AddJob, AddTrigger}
use Rattle.qz_types.specs.declared.keys.Key.{Key}
use Rattle.qz_types.specs.declared.triggers.TriggerSpec.{TriggerSpec}
use Rattle.qz_generator.specs.declared.choices.Choice.{Choice}
use Rattle.qz_generator.specs.declared.choices.Schedule.{Schedule}
use Rattle.qz_generator.specs.declared.choices.Schedule.TheVariants.{Simple, Cron, Interval, Daily}
use Rattle.qz_generator.specs.declared.limits.TheConstants.{FIRST_MOMENT}
use Rattle.qz_generator.specs.Choices.{choice_at, after_choice}

-- the key of this letter and this number
abbrev pub numbered : ℕ → ℕ → Key
numbered letter number = record { group = codes "DEFAULT"; name = letter ∷ decimal number }

-- j0, j1, ..
abbrev pub job_key : ℕ → Key
job_key number = numbered 106 number

-- t0, t1, ..
abbrev pub trigger_key : ℕ → Key
trigger_key number = numbered 116 number

-- the fields of a cron text that fires each day at this minute of this hour
unfoldable pub daily_fields : ℕ → ℕ → CronFields
daily_fields minute hour = record {
  seconds = 1;
  minutes = 2 ^ minute;
  hours = 2 ^ hour;
  day = days.Set (2 ^ 31 - 1);
  months = 2 ^ 12 - 1;
  week = weeks.Any;
  years = (2 ^ 64 - 1) ∷ (2 ^ 64 - 1) ∷ (2 ^ 64 - 1) ∷ (2 ^ 38 - 1) ∷ [];
}

-- the kind of a trigger with this schedule: without end, in the zone UTC, and a daily one on all days from 00:00:00 to 23:59:59
abbrev pub kind_of : Schedule → Kind
kind_of (Simple minutes) = kind.Simple (pos (60000 * minutes)) (negsuc 0)
kind_of (Cron minute hour) = kind.Cron (daily_fields minute hour) (codes "UTC")
kind_of (Interval hours) = kind.Interval Hour hours (codes "UTC") true true
kind_of (Daily minutes) = kind.Daily Minute minutes 0 86399 127 (codes "UTC")

-- the job of this number
unfoldable pub job_of : ℕ → Choice → JobData
job_of number choice = record {
  key = job_key number;
  class = codes "ok";
  durable = false;
  no_concurrent = choice.no_concurrent;
  requests_recovery = choice.requests_recovery;
  payload = [];
}

-- the trigger of this number, with what a line's trigger has where it doesn't say
unfoldable pub trigger_of : ℕ → Choice → TriggerSpec
trigger_of number choice = record {
  key = trigger_key number;
  job = job_key number;
  priority = pos choice.priority;
  calendar = None;
  timing = record { kind = kind_of choice.schedule; misfire = pos 0; start = FIRST_MOMENT; end = None };
}

-- the state before the draws for the job of this number
abbrev pub state_before : ℕ → ℕ → ℕ
state_before zero seed = seed
state_before (suc number) seed = after_choice (state_before number seed)

-- what is drawn for the job of this number and for its trigger
abbrev pub choice_of : ℕ → ℕ → Choice
choice_of number seed = choice_at (state_before number seed)

-- the first so many jobs
abbrev pub first_jobs : ℕ → ℕ → List Command
first_jobs zero seed = []
first_jobs (suc number) seed = first_jobs number seed ++ AddJob (job_of number (choice_of number seed)) false ∷ []

-- the first so many triggers
abbrev pub first_triggers : ℕ → ℕ → List Command
first_triggers zero seed = []
first_triggers (suc number) seed = first_triggers number seed ++ AddTrigger (trigger_of number (choice_of number seed)) false ∷ []

-- so many jobs, and then their triggers
abbrev pub generated : ℕ → ℕ → List Command
generated seed jobs = first_jobs jobs seed ++ first_triggers jobs seed
