-- The transactions of clients on jobs, and the rule on jobs without a trigger.
use Rattle.std.specs.Prelude.{ℤ, List, Bool, true, false, not, ◌&&◌, filter, find, length, nat_le, if◌then◌else◌, Option, Some, None, is_some, is_none}
use Rattle.std.specs.List.{list_any}
use Rattle.qz_types.specs.Rows.{JobData, TriggerData, FiredData}
use Rattle.qz_types.specs.declared.keys.Key.{Key}
use Rattle.qz_types.specs.declared.limits.TheConstants.{JOB_LIMIT}
use Rattle.qz_types.specs.declared.replies.Reply.TheVariants.{Done, Deleted}
use Rattle.qz_types.specs.declared.replies.Refusal.{Refusal}
use Rattle.qz_types.specs.declared.replies.Refusal.TheVariants.{UnknownJob, JobExists, FlagInUse, TooMany}
use Rattle.qz_types.specs.Changes.{without_acquired}
use Rattle.qz_types.specs.States.{is_acquired}
use Rattle.qz_types.specs.Tables.{SchedulerTables}
use Rattle.qz_types.specs.Outcomes.{Outcome, accepted, unless}
use Rattle.qz_types.specs.Words.{same_key, job_of, put_job, without_job}
use Rattle.qz_model.specs.Tests.{refuse_if, or_refusal, is_trigger_of, is_row_of_job}

-- AddJob.

abbrev pub differ : Bool → Bool → Bool
differ true b = not b
differ false b = b

-- an execution of this job key goes on under another flag
unfoldable pub has_other_flag : JobData → FiredData → Bool
has_other_flag job f = not (is_acquired f.state) && same_key job.key f.job && differ job.no_concurrent f.no_concurrent

-- the first of them refuses the job
abbrev pub flag_refusal : Option FiredData → Option Refusal
flag_refusal None = None
flag_refusal (Some f) = Some (FlagInUse f.entry)

unfoldable pub add_job_refusal : SchedulerTables → JobData → Bool → Option Refusal
add_job_refusal T job replace =
    refuse_if (is_some (job_of job.key T.jobs) && not replace) JobExists
    (or_refusal (flag_refusal (find (has_other_flag job) T.fired))
    (refuse_if (is_none (job_of job.key T.jobs) && nat_le JOB_LIMIT (length T.jobs)) (TooMany JOB_LIMIT) None))

-- the job is stored, in place of one of its key
abbrev pub add_job : SchedulerTables → ℤ → JobData → Bool → Outcome
add_job T m job replace = unless (add_job_refusal T job replace)
    (accepted (record T { jobs = put_job job (without_job job.key T.jobs); last_moment = m }) Done)

-- DeleteJob.

abbrev pub unknown_job : Option JobData → Option Refusal
unknown_job None = Some UnknownJob
unknown_job (Some job) = None

-- the job goes with its triggers, and with the acquired rows of these; executions go on
abbrev pub delete_job : SchedulerTables → ℤ → Key → Outcome
delete_job T m key = unless (unknown_job (job_of key T.jobs))
    (accepted (record T {
      jobs = without_job key T.jobs;
      triggers = filter (λ t. not (is_trigger_of key t)) T.triggers;
      fired = without_acquired (is_row_of_job key) T.fired;
      last_moment = m;
    }) (Deleted (length (filter (is_trigger_of key) T.triggers))))

-- Jobs that go with their last trigger.

-- a job that isn't durable and has no triggers left
unfoldable pub is_orphan : List TriggerData → JobData → Bool
is_orphan triggers job = not job.durable && not (list_any (is_trigger_of job.key) triggers)

-- the jobs, without this one if it is an orphan
abbrev pub without_orphan : List TriggerData → Option JobData → List JobData → List JobData
without_orphan triggers None jobs = jobs
without_orphan triggers (Some job) jobs = if is_orphan triggers job then without_job job.key jobs else jobs

-- the same, for the job of this key, which has lost a trigger
unfoldable pub without_orphan_of : Key → List TriggerData → List JobData → List JobData
without_orphan_of key triggers jobs = without_orphan triggers (job_of key jobs) jobs
