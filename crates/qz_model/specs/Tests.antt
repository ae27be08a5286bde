-- Tests of rows, and refusals one after the other.
use Rattle.std.specs.Prelude.{List, [], Bool, true, false, ◌&&◌, ◌==◌, Option, Some, None, unwrap_or}
use Rattle.qz_types.specs.Rows.{JobData, TriggerData, MemberData, FiredData}
use Rattle.qz_types.specs.declared.keys.Key.{Key}
use Rattle.qz_types.specs.declared.replies.Refusal.{Refusal}
use Rattle.qz_types.specs.Words.{same_text, same_key, job_of}

-- the refusal, if the test passes, or else the next
abbrev pub refuse_if : Bool → Refusal → Option Refusal → Option Refusal
refuse_if true refusal next = Some refusal
refuse_if false refusal next = next

-- the first refusal, or else the next
abbrev pub or_refusal : Option Refusal → Option Refusal → Option Refusal
or_refusal (Some refusal) next = Some refusal
or_refusal None next = next

-- the trigger is one of this job
abbrev pub is_trigger_of : Key → TriggerData → Bool
is_trigger_of job t = same_key job t.spec.job

-- the row is one of this job
abbrev pub is_row_of_job : Key → FiredData → Bool
is_row_of_job job f = same_key job f.job

-- the row is one of this trigger
abbrev pub is_row_of_trigger : Key → FiredData → Bool
is_row_of_trigger trigger f = same_key trigger f.trigger

-- the row is this member's
unfoldable pub is_of : MemberData → FiredData → Bool
is_of me f = same_text me.node f.node && (me.epoch == f.epoch)

-- the job of this key, which valid tables have for each trigger and each acquired row
unfoldable pub stored_job : Key → List JobData → JobData
stored_job key jobs = unwrap_or (job_of key jobs)
    (record { key = key; class = []; durable = false; no_concurrent = false; requests_recovery = false; payload = [] })
