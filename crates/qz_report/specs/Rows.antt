-- Stored rows as they are printed, in lists and in replies. No line feed is in them.
use Rattle.std.specs.Prelude.{ℕ, ℤ, List, ◌∷◌, ◌++◌, Bool, if◌then◌else◌, Option, codes}
use Rattle.std.specs.Fmt.{decimal, signed_decimal}
use Rattle.qz_civil.specs.declared.timings.Kind.{Kind}
use Rattle.qz_civil.specs.declared.timings.Kind.TheVariants.{Simple, Cron, Interval, Daily}
use Rattle.qz_types.specs.Rows.{JobData, TriggerData, FiredData}
use Rattle.qz_types.specs.declared.fired.FiredState.{FiredState}
use Rattle.qz_types.specs.declared.fired.FiredState.TheVariants as row
use Rattle.qz_types.specs.declared.keys.Key.{Key}
use Rattle.qz_types.specs.declared.triggers.TriggerSpec.{TriggerSpec}
use Rattle.qz_types.specs.declared.triggers.TriggerState.{TriggerState}
use Rattle.qz_types.specs.declared.triggers.TriggerState.TheVariants.{Waiting, Acquired, Complete, Blocked, Paused, PausedBlocked, Error}
use Rattle.qz_report.specs.Names.{escaped, key_text}
use Rattle.qz_report.specs.Optional.{next_text}

-- Jobs.

abbrev pub flag_text : Bool → List ℕ
flag_text is = if is then codes "1" else codes "0"

-- a job's key and class
unfoldable pub job_names : Key → List ℕ → List ℕ
job_names key class = codes "job " ++ key_text key ++ 32 ∷ escaped class

unfoldable pub job_flags : Bool → Bool → List ℕ
job_flags durable no_concurrent = codes " durable " ++ flag_text durable ++ codes " no_concurrent " ++ flag_text no_concurrent

unfoldable pub recovery_flag : Bool → List ℕ
recovery_flag requests_recovery = codes " requests_recovery " ++ flag_text requests_recovery

unfoldable pub job_text : JobData → List ℕ
job_text j = job_names j.key j.class ++ job_flags j.durable j.no_concurrent ++ recovery_flag j.requests_recovery

-- Triggers.

abbrev pub state_word : TriggerState → List ℕ
state_word Waiting = codes "WAITING"
state_word Acquired = codes "ACQUIRED"
state_word Complete = codes "COMPLETE"
state_word Blocked = codes "BLOCKED"
state_word Paused = codes "PAUSED"
state_word PausedBlocked = codes "PAUSED_BLOCKED"
state_word Error = codes "ERROR"

-- the word of the kind, and the count of a simple trigger
abbrev pub kind_text : Kind → List ℕ
kind_text (Simple interval count) = codes "simple " ++ signed_decimal count
kind_text (Cron fields zone) = codes "cron"
kind_text (Interval unit every zone preserve skip) = codes "interval"
kind_text (Daily unit every from to days zone) = codes "daily"

-- the trigger, its job and its state
unfoldable pub trigger_names : TriggerSpec → TriggerState → List ℕ
trigger_names spec state = codes "trigger " ++ key_text spec.key ++ codes " job " ++ key_text spec.job ++ 32 ∷ state_word state

-- when it fires next, when it fired last, and how often
unfoldable pub trigger_times : Option ℤ → Option ℤ → ℕ → List ℕ
trigger_times next prev times = codes " next " ++ next_text next ++ codes " prev " ++ next_text prev ++ codes " times " ++ decimal times

-- its priority, its start and its kind
unfoldable pub trigger_timing : TriggerSpec → List ℕ
trigger_timing spec =
    codes " priority " ++ signed_decimal spec.priority ++ codes " start " ++ signed_decimal spec.timing.start
    ++ 32 ∷ kind_text spec.timing.kind

unfoldable pub trigger_text : TriggerData → List ℕ
trigger_text t = trigger_names t.spec t.state ++ trigger_times t.next t.prev t.times ++ trigger_timing t.spec

-- What members have in their hands.

abbrev pub fired_word : FiredState → List ℕ
fired_word row.Acquired = codes "ACQUIRED"
fired_word row.Executing = codes "EXECUTING"

-- the entry number, and the member that has it
unfoldable pub fired_holder : ℕ → List ℕ → ℕ → List ℕ
fired_holder entry node epoch = decimal entry ++ 32 ∷ escaped node ++ 32 ∷ decimal epoch

-- the trigger, and whether its execution has begun
unfoldable pub fired_trigger : Key → FiredState → List ℕ
fired_trigger trigger state = 32 ∷ key_text trigger ++ 32 ∷ fired_word state

-- for when it was acquired, and when its execution began
unfoldable pub fired_moments : ℤ → Option ℤ → List ℕ
fired_moments scheduled fired = codes " scheduled " ++ signed_decimal scheduled ++ codes " at " ++ next_text fired

unfoldable pub fired_row_text : FiredData → List ℕ
fired_row_text f = fired_holder f.entry f.node f.epoch ++ fired_trigger f.trigger f.state ++ fired_moments f.scheduled f.fired
