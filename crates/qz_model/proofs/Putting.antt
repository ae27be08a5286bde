-- Triggers, jobs and numbers that come, and what keeps the tables valid then.
use Rattle.std.proofs.Common.{◌≡◌, ℕ, ◌+◌, ◌<◌, ◌≤◌, ◌^◌, ℤ, true, false, List, length, Option, Some, None, IsSome, IsSomeAnd, IsTrue, is_some, refl, sym, subst, ap, ◌∙◌, arith}
use Rattle.std.specs.List.{AllByRecursion}
use Rattle.qz_types.specs.Rows.{JobData, TriggerData, FiredData, is_interval}
use Rattle.qz_types.specs.declared.keys.Key.{Key}
use Rattle.qz_types.specs.declared.limits.TheConstants.{JOB_LIMIT, TRIGGER_LIMIT, NUMBER_LIMIT}
use Rattle.qz_types.specs.declared.triggers.TriggerState.TheVariants as state
use Rattle.qz_types.specs.Tables.{SchedulerTables}
use Rattle.qz_types.specs.Words.{same_key, job_of, put_job, without_job, trigger_of, put_trigger, fired_of}
use Rattle.qz_model.specs.Triggers.{is_reserved}
use Rattle.qz_model.specs.Invariant.{IsRowOf, EndsIn, IsNumbered, ReferencesAndLimits, TablesValid}
use Rattle.qz_model.proofs.RowPoints.{All-weaker, All-both}
use Rattle.qz_model.proofs.References.{references-jobs, references-triggers, references-fired, references-threshold}
use Rattle.qz_model.proofs.RowLaws.{same_key_laws, ordered-put_job, ordered-without_job, All-put_job, All-without_job, job_of-put_job, job_of-without_job, length-put_job, fired_of-above, job_of-alike, job_of-put_own, job_of-without_own, ordered-put_trigger, trigger_of-put_trigger, All-put_trigger, length-put_trigger}
use Rattle.qz_model.proofs.Changes.{HasOneRow, HasItsTrigger, HasNextTime, HasJob, HasCalendar, HasZone, AgreesWithJob, StaysBlocked, IsBlockedBy, HasNumber, SharesNone, HasNumber-kept, each_next, have_next}
use Rattle.qz_model.proofs.Numbers.{one_number}

-- A trigger comes.

-- the trigger fits the tables, and its key is new
pub record IsNew (T : SchedulerTables) (t : TriggerData) : Type 0 where
  pub absent : trigger_of t.spec.key T.triggers ≡ None
  pub job : HasJob T.jobs t
  pub calendar : HasCalendar T.calendars t
  pub zone : HasZone T.zones t
  pub free : t.state ≡ state.Acquired → ⊥
  pub stays : StaysBlocked T.fired t
  pub blocked : IsBlockedBy T.fired t
  pub next : HasNextTime T.horizon t

-- the name ends in a number that was given, and that nothing has
pub record IsFreeNumber (T : SchedulerTables) (name : List ℕ) (number : ℕ) : Type 0 where
  pub named : EndsIn name number
  pub below : number < T.next_entry
  pub no_row : fired_of number T.fired ≡ None
  pub unused : AllByRecursion (λ u. is_reserved u.spec.key.group ≡ true → EndsIn u.spec.key.name number → ⊥) T.triggers

-- a trigger of a reserved group has such a number
abbrev pub HasFreeNumber : SchedulerTables → TriggerData → Type 0
HasFreeNumber T t = is_reserved t.spec.key.group ≡ true → (number : ℕ) × IsFreeNumber T t.spec.key.name number

-- a trigger of a client's group has none
pub unnumbered : (T : SchedulerTables) (t : TriggerData) → is_reserved t.spec.key.group ≡ false → HasFreeNumber T t
unnumbered T t client reserved = absurd (cc)

-- the trigger of a row is still found
found_put : (f : FiredData) (t : TriggerData) (rows : List TriggerData) (o : Option TriggerData) → trigger_of f.trigger rows ≡ o → trigger_of t.spec.key rows ≡ None
    → IsSomeAnd o (IsRowOf f) → IsSomeAnd (trigger_of f.trigger (put_trigger t rows)) (IsRowOf f)
found_put f t rows None is absent row = absurd row
found_put f t rows (Some u) is absent row = subst (λ o. IsSomeAnd o (IsRowOf f)) (sym (trigger_of-put_trigger f.trigger t u rows absent is)) row

module _ (T : SchedulerTables) (t : TriggerData) (valid : TablesValid T) (new : IsNew T t) (number : HasFreeNumber T t) (room : length T.triggers + 1 ≤ TRIGGER_LIMIT) where
  abbrev with_it : SchedulerTables
  with_it = record T { triggers = put_trigger t T.triggers }

  references_put : ReferencesAndLimits with_it
  references_put = let was = valid.references_and_limits in
      references-triggers T was (put_trigger t T.triggers) (ordered-put_trigger t T.triggers was.ordered.triggers new.absent)
      (record {
        trigger_jobs = All-put_trigger (HasJob T.jobs) t T.triggers new.job was.stored.trigger_jobs;
        trigger_calendars = All-put_trigger (HasCalendar T.calendars) t T.triggers new.calendar was.stored.trigger_calendars;
        trigger_zones = All-put_trigger (HasZone T.zones) t T.triggers new.zone was.stored.trigger_zones;
        bases = was.stored.bases;
        calendar_zones = was.stored.calendar_zones;
        chains = was.stored.chains;
      })
      (omega (arith, length-put_trigger t T.triggers))

  small : (n : ℕ) → n < T.next_entry → n < 2 ^ 64
  small n below = omega (arith, valid.references_and_limits.limits.next_entry)

  -- the number of the new trigger is its own
  own_number : (n : ℕ) → IsFreeNumber T t.spec.key.name n → HasNumber with_it t
  own_number n free reserved = (
    n,
    record {
      named = free.named;
      below = free.below;
      no_row = free.no_row;
      alone = All-put_trigger (SharesNone t.spec.key n) t T.triggers (λ r e. refl)
          (All-weaker (λ u. is_reserved u.spec.key.group ≡ true → EndsIn u.spec.key.name n → ⊥) (SharesNone t.spec.key n) T.triggers (λ u none r e. absurd (none r e)) free.unused);
    },
  )

  -- the number of another stays its own
  other_number : (n : ℕ) → IsFreeNumber T t.spec.key.name n → (u : TriggerData) → HasNumber T u → (is_reserved u.spec.key.group ≡ true → EndsIn u.spec.key.name n → ⊥) → HasNumber with_it u
  other_number n free u has unused reserved =
      let own = has reserved in
      let was : IsNumbered T u own.0 = own.1 in (
        own.0,
        record {
          named = was.named;
          below = was.below;
          no_row = was.no_row;
          alone = All-put_trigger (SharesNone u.spec.key own.0) t T.triggers
              (λ r e. absurd (unused reserved (subst (EndsIn u.spec.key.name) (one_number t.spec.key.name own.0 n (small own.0 was.below) (small n free.below) e free.named) was.named))) was.alone;
        },
      )

  numbers_put : AllByRecursion (HasNumber with_it) (put_trigger t T.triggers)
  numbers_put = elim (is_reserved t.spec.key.group) as (λ b. is_reserved t.spec.key.group ≡ b → AllByRecursion (HasNumber with_it) (put_trigger t T.triggers)) [
    | true ↦ λ reserved.
        let n : ℕ = (number reserved).0 in
        let free : IsFreeNumber T t.spec.key.name n = (number reserved).1 in
        All-put_trigger (HasNumber with_it) t T.triggers (own_number n free)
        (All-both (HasNumber T) (λ u. is_reserved u.spec.key.group ≡ true → EndsIn u.spec.key.name n → ⊥) (HasNumber with_it) T.triggers (other_number n free) valid.fresh.added free.unused)
    | false ↦ λ client.
        All-put_trigger (HasNumber with_it) t T.triggers (λ reserved. absurd (cc))
        (All-weaker (HasNumber T) (HasNumber with_it) T.triggers
        (λ u has. HasNumber-kept T with_it u (omega arith) (λ n below none. none) (λ n all. All-put_trigger (SharesNone u.spec.key n) t T.triggers (λ reserved. absurd (cc)) all) has) valid.fresh.added)
  ] refl

  pub valid-put_trigger : TablesValid with_it
  valid-put_trigger = record {
    references_and_limits = references_put;
    acquired_match = record {
      one_row = All-put_trigger (HasOneRow T.fired) t T.triggers (λ taken. absurd (new.free taken)) valid.acquired_match.one_row;
      a_trigger = All-weaker (HasItsTrigger T.triggers) (HasItsTrigger (put_trigger t T.triggers)) T.fired
          (λ f has taken. found_put f t T.triggers _ refl new.absent (has taken)) valid.acquired_match.a_trigger;
    };
    concurrency_agrees = valid.concurrency_agrees;
    one_exclusive = record { one = valid.one_exclusive.one; blocked = All-put_trigger (StaysBlocked T.fired) t T.triggers new.stays valid.one_exclusive.blocked };
    blocked_are_busy = record { busy = All-put_trigger (IsBlockedBy T.fired) t T.triggers new.blocked valid.blocked_are_busy.busy };
    rows_of_members = valid.rows_of_members;
    next_times = have_next T.horizon T.last_moment (put_trigger t T.triggers) (All-put_trigger (HasNextTime T.horizon) t T.triggers new.next (each_next T valid)) valid.next_times.moment;
    fresh = record {
      fired = valid.fresh.fired;
      added = numbers_put;
    };
    row_times = valid.row_times;
  }

-- Numbers.

pub valid-next_entry : (T : SchedulerTables) (n : ℕ) → TablesValid T → T.next_entry ≤ n → n ≤ NUMBER_LIMIT → TablesValid (record T { next_entry = n })
valid-next_entry T n valid more small = let was = valid.references_and_limits in record {
  references_and_limits = references-fired T was T.fired n was.ordered.fired was.limits.fired small;
  acquired_match = valid.acquired_match;
  concurrency_agrees = valid.concurrency_agrees;
  one_exclusive = valid.one_exclusive;
  blocked_are_busy = valid.blocked_are_busy;
  rows_of_members = valid.rows_of_members;
  next_times = valid.next_times;
  fresh = record {
    fired = All-weaker (λ f. f.entry < T.next_entry) (λ f. f.entry < n) T.fired (λ f below. omega arith) valid.fresh.fired;
    added = All-weaker (HasNumber T) (HasNumber (record T { next_entry = n })) T.triggers
        (λ t has. HasNumber-kept T (record T { next_entry = n }) t more (λ n below none. none) (λ n all. all) has) valid.fresh.added;
  };
  row_times = valid.row_times;
}

-- the next entry number is free, once it is given
pub free-next_entry : (T : SchedulerTables) (name : List ℕ) → TablesValid T → EndsIn name T.next_entry → T.next_entry + 1 ≤ NUMBER_LIMIT → IsFreeNumber (record T { next_entry = T.next_entry + 1 }) name T.next_entry
free-next_entry T name valid named room = record {
  named = named;
  below = omega arith;
  no_row = fired_of-above T.next_entry T.fired valid.fresh.fired;
  unused = All-weaker (HasNumber T) (λ u. is_reserved u.spec.key.group ≡ true → EndsIn u.spec.key.name T.next_entry → ⊥) T.triggers
      (λ u has reserved ends.
      let own = has reserved in
      let was : IsNumbered T u own.0 = own.1 in
      let same : own.0 ≡ T.next_entry = one_number u.spec.key.name own.0 T.next_entry (omega (arith, was.below)) (omega arith) was.named ends in
      omega (arith, was.below)) valid.fresh.added;
}

pub valid-threshold : (T : SchedulerTables) (ms : ℤ) → TablesValid T → IsTrue (is_interval ms) → TablesValid (record T { threshold = ms })
valid-threshold T ms valid is = record {
  references_and_limits = references-threshold T valid.references_and_limits ms is;
  acquired_match = valid.acquired_match;
  concurrency_agrees = valid.concurrency_agrees;
  one_exclusive = valid.one_exclusive;
  blocked_are_busy = valid.blocked_are_busy;
  rows_of_members = valid.rows_of_members;
  next_times = valid.next_times;
  fresh = record {
    fired = valid.fresh.fired;
    added = All-weaker (HasNumber T) (HasNumber (record T { threshold = ms })) T.triggers
        (λ t has. HasNumber-kept T (record T { threshold = ms }) t (omega arith) (λ n below none. none) (λ n all. all) has) valid.fresh.added;
  };
  row_times = valid.row_times;
}

-- A job is stored, in place of one of its key.

-- a stored job is still stored
job_of-set_job : (k : Key) (job : JobData) (jobs : List JobData) → IsSome (job_of k jobs) → IsSome (job_of k (put_job job (without_job job.key jobs)))
job_of-set_job k job jobs stored = elim (same_key job.key k) as (λ b. same_key job.key k ≡ b → IsSome (job_of k (put_job job (without_job job.key jobs)))) [
  | true ↦ λ same. ap is_some (job_of-alike k job.key (put_job job (without_job job.key jobs)) (same_key_laws.symm k job.key ∙ same) ∙ job_of-put_own job (without_job job.key jobs) (job_of-without_own job.key jobs))
  | false ↦ λ differ. job_of-put_job k job (without_job job.key jobs) (job_of-without_own job.key jobs) (subst IsSome (sym (job_of-without_job job.key k jobs differ)) stored)
] refl

module _ (T : SchedulerTables) (job : JobData) (valid : TablesValid T) (agrees : AgreesWithJob T.fired job) (room : length (without_job job.key T.jobs) + 1 ≤ JOB_LIMIT) where
  abbrev jobs_set : List JobData
  jobs_set = put_job job (without_job job.key T.jobs)

  abbrev with_job_set : SchedulerTables
  with_job_set = record T { jobs = jobs_set }

  pub valid-set_job : TablesValid with_job_set
  valid-set_job = let was = valid.references_and_limits in record {
    references_and_limits = references-jobs T was jobs_set
        (ordered-put_job job (without_job job.key T.jobs) (ordered-without_job job.key T.jobs was.ordered.jobs) (job_of-without_own job.key T.jobs))
        (record {
          trigger_jobs = All-weaker (HasJob T.jobs) (HasJob jobs_set) T.triggers (λ t stored. job_of-set_job t.spec.job job T.jobs stored) was.stored.trigger_jobs;
          trigger_calendars = was.stored.trigger_calendars;
          trigger_zones = was.stored.trigger_zones;
          bases = was.stored.bases;
          calendar_zones = was.stored.calendar_zones;
          chains = was.stored.chains;
        })
        (omega (arith, length-put_job job (without_job job.key T.jobs)));
    acquired_match = valid.acquired_match;
    concurrency_agrees = record {
      with_rows = valid.concurrency_agrees.with_rows;
      with_jobs = All-put_job (AgreesWithJob T.fired) job (without_job job.key T.jobs) agrees
          (All-without_job (AgreesWithJob T.fired) (AgreesWithJob T.fired) job.key T.jobs valid.concurrency_agrees.with_jobs (λ j differ is. is));
    };
    one_exclusive = valid.one_exclusive;
    blocked_are_busy = valid.blocked_are_busy;
    rows_of_members = valid.rows_of_members;
    next_times = valid.next_times;
    fresh = record {
      fired = valid.fresh.fired;
      added = All-weaker (HasNumber T) (HasNumber with_job_set) T.triggers
          (λ t has. HasNumber-kept T with_job_set t (omega arith) (λ n below none. none) (λ n all. all) has) valid.fresh.added;
    };
    row_times = valid.row_times;
  }
