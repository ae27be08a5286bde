-- The commands on jobs keep the tables valid.
use Rattle.std.proofs.Common.{◌≡◌, ◌+◌, ◌≤◌, ℤ, Bool, true, false, not, ◌&&◌, List, [], ◌∷◌, cond, length, filter, find, nat_le, Option, Some, None, is_some, is_none, refl, subst}
use Rattle.std.specs.Prelude.{⊤}
use Rattle.std.specs.List.{AllByRecursion}
use Rattle.qz_types.specs.Rows.{JobData, FiredData}
use Rattle.qz_types.specs.declared.keys.Key.{Key}
use Rattle.qz_types.specs.declared.limits.TheConstants.{JOB_LIMIT}
use Rattle.qz_types.specs.declared.replies.Reply.{Reply}
use Rattle.qz_types.specs.Changes.{without_acquired}
use Rattle.qz_types.specs.Tables.{SchedulerTables, IsMoment}
use Rattle.qz_types.specs.Outcomes.{accepted}
use Rattle.qz_types.specs.Words.{job_of, put_job, without_job}
use Rattle.qz_model.specs.Jobs.{differ, has_other_flag, flag_refusal, add_job_refusal, add_job, unknown_job, delete_job}
use Rattle.qz_model.specs.Tests.{is_trigger_of, is_row_of_job}
use Rattle.qz_model.specs.Invariant.{HasFlag, TablesValid}
use Rattle.qz_model.proofs.RowPoints.{All-from, All-weaker, All-left}
use Rattle.qz_model.proofs.RowLaws.{length-without_job, length-without_stored}
use Rattle.qz_model.proofs.Changes.{AgreesWithJob, passes, valid-moment}
use Rattle.qz_model.proofs.Refusals.{not_refused, no_first, both_room}
use Rattle.qz_model.proofs.Dropping.{valid-without_job_triggers, valid-without_job}
use Rattle.qz_model.proofs.Putting.{valid-set_job}

-- a test that finds no row is passed by none
none_found : {R : Type 0} (p : R → Bool) (xs : List R) → find p xs ≡ None → AllByRecursion (λ x. p x ≡ false) xs
none_found p [] none = tt
none_found p (x ∷ xs) none = elim (p x) as (λ b. cond b (Some x) (find p xs) ≡ None → (b ≡ false) × AllByRecursion (λ y. p y ≡ false) xs) [
  | true ↦ λ e. absurd (cc)
  | false ↦ λ e. (refl, none_found p xs e)
] none

no_flag : (o : Option FiredData) → flag_refusal o ≡ None → o ≡ None
no_flag None none = refl
no_flag (Some f) none = absurd (cc)

same_flag : (a b : Bool) → differ a b ≡ false → b ≡ a
same_flag true true e = refl
same_flag true false e = absurd (cc)
same_flag false true e = absurd (cc)
same_flag false false e = refl

-- a row that has no other flag has the job's
has_flag : (job : JobData) (f : FiredData) → has_other_flag job f ≡ false → HasFlag job.key job.no_concurrent f
unfolding has_other_flag
has_flag job f none begun same = same_flag job.no_concurrent f.no_concurrent (rw (begun, same) at none)

pub kept-add_job : (T T' : SchedulerTables) (m : ℤ) (job : JobData) (replace : Bool) (r : Reply) → TablesValid T → IsMoment T.horizon m → add_job T m job replace ≡ accepted T' r → TablesValid T'
unfolding add_job_refusal
kept-add_job T T' m job replace r valid is e =
    let way = passes (add_job_refusal T job replace) _ T' r e in
    let second = not_refused (is_some (job_of job.key T.jobs) && not replace) _ _ way.clear in
    let flags = no_first (flag_refusal (find (has_other_flag job) T.fired)) _ second.1 in
    let full = not_refused (is_none (job_of job.key T.jobs) && nat_le JOB_LIMIT (length T.jobs)) _ _ flags.1 in
    let agrees : AgreesWithJob T.fired job = All-weaker (λ f. has_other_flag job f ≡ false) (HasFlag job.key job.no_concurrent) T.fired (has_flag job)
    (none_found (has_other_flag job) T.fired (no_flag (find (has_other_flag job) T.fired) flags.0)) in
    let room : length (without_job job.key T.jobs) + 1 ≤ JOB_LIMIT = both_room (job_of job.key T.jobs) JOB_LIMIT (length T.jobs) (length (without_job job.key T.jobs)) full.0
    valid.references_and_limits.limits.jobs (length-without_job job.key T.jobs) (length-without_stored job.key T.jobs) in
    let same : accepted (record T { jobs = put_job job (without_job job.key T.jobs); last_moment = m }) _ ≡ accepted T' r = way.outcome in
    subst TablesValid (cc) (valid-set_job (record T { last_moment = m }) job (valid-moment T m valid is) agrees room)

-- no trigger of the job is left
none_left : (k : Key) (T : SchedulerTables) → AllByRecursion (λ t. is_trigger_of k t ≡ false) (filter (λ t. not (is_trigger_of k t)) T.triggers)
none_left k T = All-left (λ t. ⊤) (λ t. is_trigger_of k t ≡ false) (is_trigger_of k) T.triggers (All-from (λ t. ⊤) T.triggers (λ t. tt)) (λ t stays x. stays)

pub kept-delete_job : (T T' : SchedulerTables) (m : ℤ) (key : Key) (r : Reply) → TablesValid T → IsMoment T.horizon m → delete_job T m key ≡ accepted T' r → TablesValid T'
kept-delete_job T T' m key r valid is e =
    let way = passes (unknown_job (job_of key T.jobs)) _ T' r e in
    let left : SchedulerTables = record T { triggers = filter (λ t. not (is_trigger_of key t)) T.triggers; fired = without_acquired (is_row_of_job key) T.fired; last_moment = m } in
    let same : accepted (record left { jobs = without_job key T.jobs }) _ ≡ accepted T' r = way.outcome in
    subst TablesValid (cc) (valid-without_job left key (valid-without_job_triggers (record T { last_moment = m }) key (valid-moment T m valid is)) (none_left key T))
