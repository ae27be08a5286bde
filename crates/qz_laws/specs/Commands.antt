-- Examples of commands: groups of jobs that are paused, triggers that are reset, and a store that is upgraded.
use Rattle.std.specs.Prelude.{ℕ, ℤ, pos, List, [], ◌∷◌, true, false, codes, length, Option, Some, None}
use Rattle.qz_civil.specs.declared.fields.CronFields.{CronFields}
use Rattle.qz_civil.specs.declared.fields.DayField.TheVariants as days
use Rattle.qz_civil.specs.declared.fields.WeekField.TheVariants as weeks
use Rattle.qz_civil.specs.declared.timings.Kind.{Kind}
use Rattle.qz_civil.specs.declared.timings.Kind.TheVariants.{Simple, Cron}
use Rattle.qz_types.specs.Rows.{JobData, TriggerData, MemberData}
use Rattle.qz_types.specs.Entries.{EntryData}
use Rattle.qz_types.specs.Tables.{SchedulerTables, empty}
use Rattle.qz_types.specs.declared.keys.Key.{Key}
use Rattle.qz_types.specs.declared.commands.Actor.TheVariants.{Client, Node}
use Rattle.qz_types.specs.declared.commands.Command.{Command}
use Rattle.qz_types.specs.declared.commands.Command.TheVariants.{TriggerNow, Acquire, PauseGroup, PauseJobGroup, ResumeGroup, ResumeJobGroup, ResetTrigger, Upgrade}
use Rattle.qz_types.specs.declared.replies.Reply.{Reply}
use Rattle.qz_types.specs.declared.replies.Reply.TheVariants.{Acquired}
use Rattle.qz_types.specs.declared.triggers.TriggerState.TheVariants.{Waiting, Error}

abbrev pub node_a : MemberData
node_a = record { node = codes "a"; epoch = 1 }

abbrev pub one_job : JobData
one_job = record { key = record { group = codes "G"; name = codes "job" }; class = codes "C"; durable = true; no_concurrent = false; requests_recovery = false; payload = [] }

-- a client's command, and an Acquire of the node, both at 5 ms
abbrev pub by_client : Command → EntryData
by_client command = record { at = pos 5; actor = Client; seat = 0; command = command }

abbrev pub acquire_one : EntryData
acquire_one = record { at = pos 5; actor = Node node_a; seat = 0; command = Acquire (pos 5) (pos 0) 1 }

-- A paused group of jobs.

abbrev pub holding_tables : SchedulerTables
holding_tables = record (empty 2) { jobs = one_job ∷ []; members = node_a ∷ []; next_epoch = 2 }

-- The job's group is paused, and the job gets a trigger that is due at once. The trigger's own group is resumed; then it is paused, the
-- job's group is resumed, and it is resumed again. The node tries in between.
abbrev pub holding : List EntryData
holding =
    by_client (PauseJobGroup (codes "G"))
    ∷ by_client (TriggerNow one_job.key)
    ∷ acquire_one
    ∷ by_client (ResumeGroup (codes "MANUAL_TRIGGERS"))
    ∷ acquire_one
    ∷ by_client (PauseGroup (codes "MANUAL_TRIGGERS"))
    ∷ by_client (ResumeJobGroup (codes "G"))
    ∷ acquire_one
    ∷ by_client (ResumeGroup (codes "MANUAL_TRIGGERS"))
    ∷ acquire_one
    ∷ []

-- how many triggers each Acquire took
abbrev pub onto_takings : Reply → List ℕ → List ℕ
onto_takings (Acquired taken) counts = length taken ∷ counts
onto_takings reply counts = counts

abbrev pub takings : List Reply → List ℕ
takings [] = []
takings (reply ∷ replies) = onto_takings reply (takings replies)

-- Triggers in the state ERROR: one that has fired for the last time, and one that goes on.

abbrev pub key_of : List ℕ → Key
key_of name = record { group = codes "G"; name = name }

abbrev pub failed : List ℕ → Option ℤ → TriggerData
failed name next = record {
  spec = record { key = key_of name; job = one_job.key; priority = pos 5; calendar = None; timing = record { kind = Simple (pos 2) (pos 1); misfire = pos 0; start = pos 0; end = None } };
  next = next;
  prev = Some (pos 0);
  times = 1;
  state = Error;
}

abbrev pub failed_tables : SchedulerTables
failed_tables = record (empty 2) { jobs = one_job ∷ []; triggers = failed (codes "ended") None ∷ failed (codes "goes") (Some (pos 2)) ∷ [] }

abbrev pub resets : List EntryData
resets = by_client (ResetTrigger (key_of (codes "ended"))) ∷ by_client (ResetTrigger (key_of (codes "goes"))) ∷ []

-- Cron triggers of a store of format version 1: one in all years that the version knows, and one in 1970 alone.

abbrev pub every_second_in : List ℕ → CronFields
every_second_in years = record {
  seconds = 1152921504606846975;
  minutes = 1152921504606846975;
  hours = 16777215;
  day = days.Set 2147483647;
  months = 4095;
  week = weeks.Any;
  years = years;
}

abbrev pub in_years : List ℕ → List ℕ → TriggerData
in_years name years = record {
  spec = record { key = key_of name; job = one_job.key; priority = pos 5; calendar = None; timing = record { kind = Cron (every_second_in years) (codes "UTC"); misfire = pos 0; start = pos 0; end = None } };
  next = Some (pos 1000);
  prev = None;
  times = 0;
  state = Waiting;
}

abbrev pub old_tables : SchedulerTables
old_tables = record (empty 1) {
  jobs = one_job ∷ [];
  triggers =
      in_years (codes "always") (18446744073709551615 ∷ 18446744073709551615 ∷ 3 ∷ 0 ∷ [])
      ∷ in_years (codes "early") (1 ∷ 0 ∷ 0 ∷ 0 ∷ [])
      ∷ [];
}

abbrev pub upgrading : EntryData
upgrading = by_client Upgrade

-- the years of a cron trigger
abbrev pub years_of : Kind → List ℕ
years_of (Cron fields zone) = fields.years
years_of kind = []
