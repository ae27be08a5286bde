-- What a question about the stored rows is answered: the row as a list has it, and then what a list leaves out.
use Rattle.std.specs.Prelude.{ℕ, List, [], ◌∷◌, ◌++◌, Option, Some, None, codes}
use Rattle.std.specs.Fmt.{signed_decimal}
use Rattle.qz_civil.specs.declared.timings.Kind.{Kind}
use Rattle.qz_civil.specs.declared.timings.Kind.TheVariants.{Simple, Cron, Interval, Daily}
use Rattle.qz_types.specs.Rows.{JobData, TriggerData}
use Rattle.qz_types.specs.declared.keys.Key.{Key}
use Rattle.qz_types.specs.declared.triggers.TriggerSpec.{TriggerSpec}
use Rattle.qz_steps.specs.declared.questions.Shown.{Shown}
use Rattle.qz_steps.specs.declared.questions.Shown.TheVariants.{Job, Trigger, Entry, Next}
use Rattle.qz_steps.specs.declared.questions.ShownEntry.{ShownEntry}
use Rattle.qz_report.specs.Names.{escaped, key_text}
use Rattle.qz_report.specs.Optional.{next_text, optional_name_text}
use Rattle.qz_report.specs.Rows.{job_text, trigger_text, fired_row_text}

-- the data of a job. Empty ones are a `%` alone, which stands for no other data.
abbrev pub data_text : List ℕ → List ℕ
data_text [] = codes "%"
data_text (byte ∷ bytes) = escaped (byte ∷ bytes)

unfoldable pub job_data : List ℕ → List ℕ
job_data payload = codes " data " ++ data_text payload

abbrev pub shown_job : Option JobData → List ℕ
shown_job None = codes "job none"
shown_job (Some j) = job_text j ++ job_data j.payload

-- the zone of the kind's local times, where it has one
abbrev pub zone_text : Kind → List ℕ
zone_text (Simple interval count) = codes "none"
zone_text (Cron fields zone) = escaped zone
zone_text (Interval unit every zone preserve skip) = escaped zone
zone_text (Daily unit every from to days zone) = escaped zone

-- its misfire instruction, its calendar and its zone
unfoldable pub trigger_plan : TriggerSpec → List ℕ
trigger_plan spec =
    codes " misfire " ++ signed_decimal spec.timing.misfire ++ codes " calendar " ++ optional_name_text spec.calendar
    ++ codes " zone " ++ zone_text spec.timing.kind

abbrev pub shown_trigger : Option TriggerData → List ℕ
shown_trigger None = codes "trigger none"
shown_trigger (Some t) = trigger_text t ++ trigger_plan t.spec

-- a job's class and data, if it is stored
abbrev pub work_text : Option JobData → List ℕ
work_text None = codes " none"
work_text (Some j) = 32 ∷ escaped j.class ++ job_data j.payload

-- the job of an execution
unfoldable pub entry_job : Key → Option JobData → List ℕ
entry_job key job = codes " job " ++ key_text key ++ work_text job

abbrev pub shown_entry : Option ShownEntry → List ℕ
shown_entry None = codes "entry none"
shown_entry (Some e) = codes "entry " ++ fired_row_text e.row ++ entry_job e.row.job e.job

abbrev pub shown_text : Shown → List ℕ
shown_text (Job job) = shown_job job
shown_text (Trigger trigger) = shown_trigger trigger
shown_text (Entry entry) = shown_entry entry
shown_text (Next next) = codes "next " ++ next_text next
