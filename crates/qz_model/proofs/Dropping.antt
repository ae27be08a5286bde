-- Triggers and jobs that go, and what keeps the tables valid then.
use Rattle.std.proofs.Common.{◌≡◌, ℕ, ◌<◌, ◌≤◌, Bool, true, false, not, ◌&&◌, List, [], ◌∷◌, length, filter, count_by, Option, Some, None, IsSome, IsSomeAnd, refl, sym, subst, ap, ◌∙◌, arith, if◌then◌else◌}
use Rattle.std.specs.List.{AllByRecursion, list_any}
use Rattle.std.specs.Ordering.{nat_cmp}
use Rattle.std.proofs.lemmas.Bool.{and_parts, not-true}
use Rattle.std.proofs.lemmas.Cmp.{nat_cmp_total}
use Rattle.qz_types.specs.Sorted.{IsAscending}
use Rattle.qz_types.specs.Rows.{JobData, TriggerData, FiredData}
use Rattle.qz_types.specs.declared.keys.Key.{Key}
use Rattle.qz_types.specs.Changes.{without_acquired}
use Rattle.qz_types.specs.States.{is_acquired, is_acquired_for}
use Rattle.qz_types.specs.Tables.{SchedulerTables}
use Rattle.qz_types.specs.Words.{key_cmp, same_key, job_of, without_job, trigger_of, without_trigger, fired_of}
use Rattle.qz_model.specs.Executions.{is_exclusive_of, is_busy}
use Rattle.qz_model.specs.Invariant.{AreStored, IsRowOf, TablesValid}
use Rattle.qz_model.specs.Jobs.{is_orphan, without_orphan, without_orphan_of}
use Rattle.qz_model.specs.Tests.{is_trigger_of, is_row_of_job, is_row_of_trigger}
use Rattle.qz_model.specs.Triggers.{without_trigger_and_orphan}
use Rattle.qz_model.proofs.RowPoints.{All-from, All-weaker, All-both, All-none, All-left, count_by-left, length-filter_le}
use Rattle.qz_model.proofs.LookUps.{row_of-filter, row_of-filter_none, IsAscending-filter}
use Rattle.qz_model.proofs.References.{references-jobs, references-triggers, references-fired}
use Rattle.qz_model.proofs.RowLaws.{key_total, same_key_laws, same_key-exact, All-without_job, ordered-without_job, job_of-without_job, length-without_job, each_trigger, only_trigger, trigger_of-key, trigger_of-alike}
use Rattle.qz_model.proofs.Changes.{HasOneRow, HasItsTrigger, HasNextTime, HasJob, HasCalendar, HasZone, AgreesWithRows, AgreesWithJob, StaysBlocked, IsBlockedBy, HasMember, HasRowTimes, busy-same, HasNumber, SharesNone, HasNumber-kept, each_next, have_next}

-- Filters of triggers.

pub ordered-triggers_left : (p : TriggerData → Bool) (rows : List TriggerData) → IsAscending key_cmp (λ r. r.spec.key) rows → IsAscending key_cmp (λ r. r.spec.key) (filter (λ t. not (p t)) rows)
ordered-triggers_left p rows ordered = IsAscending-filter key_cmp (λ r. r.spec.key) key_total (λ t. not (p t)) rows ordered

-- a trigger that doesn't go is still found
pub trigger_of-left : (k : Key) (p : TriggerData → Bool) (t : TriggerData) (rows : List TriggerData) → IsAscending key_cmp (λ r. r.spec.key) rows
    → trigger_of k rows ≡ Some t → p t ≡ false → trigger_of k (filter (λ u. not (p u)) rows) ≡ Some t
unfolding trigger_of same_key
trigger_of-left k p t rows ordered found stays =
    row_of-filter key_cmp (λ r. r.spec.key) k (λ u. not (p u)) rows
    (All-weaker (λ u. same_key k u.spec.key ≡ true → u ≡ t) (λ u. same_key k u.spec.key ≡ true → not (p u) ≡ true) rows
    (λ u only same. ap (λ x. not (p x)) (only same) ∙ ap not stays) (only_trigger k t rows ordered found)) ∙ found

-- Fired rows without those of acquired triggers that pass.

pub ordered-without_acquired : (q : FiredData → Bool) (rows : List FiredData) → IsAscending nat_cmp (λ r. r.entry) rows → IsAscending nat_cmp (λ r. r.entry) (without_acquired q rows)
unfolding without_acquired
ordered-without_acquired q rows ordered = IsAscending-filter nat_cmp (λ r. r.entry) nat_cmp_total (λ f. not (is_acquired f.state && q f)) rows ordered

pub All-without_acquired : (P Q : FiredData → Type 0) (q : FiredData → Bool) (rows : List FiredData) → AllByRecursion P rows
    → ((f : FiredData) → (is_acquired f.state && q f) ≡ false → P f → Q f) → AllByRecursion Q (without_acquired q rows)
unfolding without_acquired
All-without_acquired P Q q rows all left = All-left P Q (λ f. is_acquired f.state && q f) rows all left

pub length-without_acquired : (q : FiredData → Bool) (rows : List FiredData) → length (without_acquired q rows) ≤ length rows
unfolding without_acquired
length-without_acquired q rows = length-filter_le (λ f. not (is_acquired f.state && q f)) rows

pub fired_of-without_acquired : (n : ℕ) (q : FiredData → Bool) (rows : List FiredData) → fired_of n rows ≡ None → fired_of n (without_acquired q rows) ≡ None
unfolding fired_of without_acquired
fired_of-without_acquired n q rows absent = row_of-filter_none nat_cmp (λ r. r.entry) n (λ f. not (is_acquired f.state && q f)) rows absent

pub count_by-without_acquired : (p q : FiredData → Bool) (rows : List FiredData) → AllByRecursion (λ f. (is_acquired f.state && q f) ≡ true → p f ≡ false) rows → count_by p (without_acquired q rows) ≡ count_by p rows
unfolding without_acquired
count_by-without_acquired p q rows outside = count_by-left p (λ f. is_acquired f.state && q f) rows outside

not_exclusive : (key : Key) (q : FiredData → Bool) (f : FiredData) → (is_acquired f.state && q f) ≡ true → is_exclusive_of key f ≡ false
unfolding is_exclusive_of
not_exclusive key q f goes = rw (and_parts (is_acquired f.state) (q f) goes).0 refl

-- executions that exclude others stay
pub exclusive-without_acquired : (key : Key) (q : FiredData → Bool) (rows : List FiredData) → count_by (is_exclusive_of key) (without_acquired q rows) ≡ count_by (is_exclusive_of key) rows
exclusive-without_acquired key q rows =
    count_by-without_acquired (is_exclusive_of key) q rows (All-from (λ f. (is_acquired f.state && q f) ≡ true → is_exclusive_of key f ≡ false) rows (not_exclusive key q))

pub busy-without_acquired : (key : Key) (q : FiredData → Bool) (rows : List FiredData) → is_busy key (without_acquired q rows) ≡ is_busy key rows
busy-without_acquired key q rows = busy-same key rows (without_acquired q rows) (exclusive-without_acquired key q rows)

-- the acquired row is that of this stored trigger
pub record IsHeldBy (triggers : List TriggerData) (f : FiredData) (t : TriggerData) : Type 0 where
  pub key : f.trigger ≡ t.spec.key
  pub stored : trigger_of t.spec.key triggers ≡ Some t
  pub row : IsRowOf f t

-- an acquired row has its trigger
pub held : (f : FiredData) (triggers : List TriggerData) {G : Type 0} → IsSomeAnd (trigger_of f.trigger triggers) (IsRowOf f)
    → ((t : TriggerData) → trigger_of f.trigger triggers ≡ Some t → IsHeldBy triggers f t → G) → G
held f triggers {G} has goal = elim (trigger_of f.trigger triggers) as (λ o. trigger_of f.trigger triggers ≡ o → IsSomeAnd o (IsRowOf f) → G) [
  | None ↦ λ is row. absurd row
  | Some t ↦ λ is row.
      let key : f.trigger ≡ t.spec.key = same_key-exact f.trigger t.spec.key (trigger_of-key f.trigger t triggers is) in
      goal t is (record { key = key; stored = subst (λ k. trigger_of k triggers ≡ Some t) key is; row = row })
] refl has

-- Triggers go, and with those that are acquired their rows.
module _ (T : SchedulerTables) (p : TriggerData → Bool) (q : FiredData → Bool) (valid : TablesValid T)
    (together : (t : TriggerData) (f : FiredData) → IsHeldBy T.triggers f t → q f ≡ p t) where
  abbrev triggers_left : List TriggerData
  triggers_left = filter (λ t. not (p t)) T.triggers

  abbrev rows_left : List FiredData
  rows_left = without_acquired q T.fired

  abbrev without_triggers : SchedulerTables
  without_triggers = record T { triggers = triggers_left; fired = rows_left }

  kept_triggers : (P : TriggerData → Type 0) → AllByRecursion P T.triggers → AllByRecursion P triggers_left
  kept_triggers P all = All-left P P p T.triggers all (λ t stays is. is)

  kept_rows : (P : FiredData → Type 0) → AllByRecursion P T.fired → AllByRecursion P rows_left
  kept_rows P all = All-without_acquired P P q T.fired all (λ f stays is. is)

  stored_left : AreStored T.jobs triggers_left T.calendars T.zones
  stored_left = let was = valid.references_and_limits.stored in record {
    trigger_jobs = kept_triggers (HasJob T.jobs) was.trigger_jobs;
    trigger_calendars = kept_triggers (HasCalendar T.calendars) was.trigger_calendars;
    trigger_zones = kept_triggers (HasZone T.zones) was.trigger_zones;
    bases = was.bases;
    calendar_zones = was.calendar_zones;
    chains = was.chains;
  }

  -- a row that goes is of no trigger that stays
  of_another : (t : TriggerData) → p t ≡ false → trigger_of t.spec.key T.triggers ≡ Some t → (f : FiredData) → HasItsTrigger T.triggers f → (is_acquired f.state && q f) ≡ true → is_acquired_for t.spec.key f ≡ false
  unfolding is_acquired_for
  of_another t stays stored f has goes =
      let parts = and_parts (is_acquired f.state) (q f) goes in
      elim (same_key t.spec.key f.trigger) as (λ b. same_key t.spec.key f.trigger ≡ b → (is_acquired f.state && b) ≡ false) [
        | true ↦ λ same. held f T.triggers (has parts.0) (λ u found holds.
            let one : u ≡ t = let alike = trigger_of-alike t.spec.key f.trigger T.triggers same in cc in
            let wrong : q f ≡ false = together u f holds ∙ ap p one ∙ stays in
            absurd (cc))
        | false ↦ λ other. rw parts.0 refl
      ] refl

  one_row_left : (t : TriggerData) → p t ≡ false → HasOneRow T.fired t → trigger_of t.spec.key T.triggers ≡ Some t → HasOneRow rows_left t
  one_row_left t stays has stored taken =
      count_by-without_acquired (is_acquired_for t.spec.key) q T.fired
      (All-weaker (HasItsTrigger T.triggers) (λ f. (is_acquired f.state && q f) ≡ true → is_acquired_for t.spec.key f ≡ false) T.fired (of_another t stays stored) valid.acquired_match.a_trigger) ∙ has taken

  -- a row that stays has its trigger still
  trigger_left : (f : FiredData) → (is_acquired f.state && q f) ≡ false → HasItsTrigger T.triggers f → HasItsTrigger triggers_left f
  trigger_left f stays has taken = held f T.triggers (has taken) (λ t found holds.
      let out : q f ≡ false = rw taken at stays in
      subst (λ o. IsSomeAnd o (IsRowOf f)) (sym (trigger_of-left f.trigger p t T.triggers valid.references_and_limits.ordered.triggers found (sym (together t f holds) ∙ out))) holds.row)

  pub valid-without_triggers : TablesValid without_triggers
  valid-without_triggers = let was = valid.references_and_limits in let order = was.ordered in record {
    references_and_limits = references-fired (record T { triggers = triggers_left })
        (references-triggers T was triggers_left (ordered-triggers_left p T.triggers order.triggers) stored_left (omega (arith, length-filter_le (λ t. not (p t)) T.triggers, was.limits.triggers)))
        rows_left T.next_entry (ordered-without_acquired q T.fired order.fired) (omega (arith, length-without_acquired q T.fired, was.limits.fired)) was.limits.next_entry;
    acquired_match = record {
      one_row = All-left (λ t. HasOneRow T.fired t × (trigger_of t.spec.key T.triggers ≡ Some t)) (HasOneRow rows_left) p T.triggers
          (All-both (HasOneRow T.fired) (λ t. trigger_of t.spec.key T.triggers ≡ Some t) (λ t. HasOneRow T.fired t × (trigger_of t.spec.key T.triggers ≡ Some t)) T.triggers (λ t has stored. (has, stored))
          valid.acquired_match.one_row (each_trigger T.triggers order.triggers))
          (λ t stays both. one_row_left t stays both.0 both.1);
      a_trigger = All-without_acquired (HasItsTrigger T.triggers) (HasItsTrigger triggers_left) q T.fired valid.acquired_match.a_trigger trigger_left;
    };
    concurrency_agrees = record {
      with_rows = All-without_acquired (AgreesWithRows T.fired) (AgreesWithRows rows_left) q T.fired valid.concurrency_agrees.with_rows
          (λ f stays agrees begun. kept_rows _ (agrees begun));
      with_jobs = All-weaker (AgreesWithJob T.fired) (AgreesWithJob rows_left) T.jobs (λ j agrees. kept_rows _ agrees) valid.concurrency_agrees.with_jobs;
    };
    one_exclusive = record {
      one = λ key. omega (arith, exclusive-without_acquired key q T.fired, valid.one_exclusive.one key);
      blocked = All-left (StaysBlocked T.fired) (StaysBlocked rows_left) p T.triggers valid.one_exclusive.blocked
          (λ t stays is busy. is (sym (busy-without_acquired t.spec.job q T.fired) ∙ busy));
    };
    blocked_are_busy = record {
      busy = All-left (IsBlockedBy T.fired) (IsBlockedBy rows_left) p T.triggers valid.blocked_are_busy.busy
          (λ t stays is blocked. busy-without_acquired t.spec.job q T.fired ∙ is blocked);
    };
    rows_of_members = record {
      given = valid.rows_of_members.given;
      distinct = valid.rows_of_members.distinct;
      rows = kept_rows (HasMember T.members) valid.rows_of_members.rows;
    };
    next_times = have_next T.horizon T.last_moment triggers_left (kept_triggers (HasNextTime T.horizon) (each_next T valid)) valid.next_times.moment;
    fresh = record {
      fired = kept_rows (λ f. f.entry < T.next_entry) valid.fresh.fired;
      added = All-left (HasNumber T) (HasNumber without_triggers) p T.triggers valid.fresh.added
          (λ t stays has. HasNumber-kept T without_triggers t (omega arith) (λ n below none. fired_of-without_acquired n q T.fired none)
          (λ n all. kept_triggers (SharesNone t.spec.key n) all) has);
    };
    row_times = record { rows = kept_rows (HasRowTimes T.horizon) valid.row_times.rows };
  }

-- A trigger goes, and its row if it is acquired.
pub valid-without_trigger : (T : SchedulerTables) (k : Key) → TablesValid T → TablesValid (record T { triggers = without_trigger k T.triggers; fired = without_acquired (is_row_of_trigger k) T.fired })
unfolding without_trigger
valid-without_trigger T k valid = valid-without_triggers T (λ t. same_key k t.spec.key) (is_row_of_trigger k) valid (λ t f holds. ap (same_key k) holds.key)

-- All triggers of a job go, and the rows of those that are acquired.
pub valid-without_job_triggers : (T : SchedulerTables) (k : Key) → TablesValid T → TablesValid (record T { triggers = filter (λ t. not (is_trigger_of k t)) T.triggers; fired = without_acquired (is_row_of_job k) T.fired })
valid-without_job_triggers T k valid = valid-without_triggers T (is_trigger_of k) (is_row_of_job k) valid (λ t f holds. ap (same_key k) (sym holds.row.job))

-- A job that no trigger has goes; executions of its key may go on.
module _ (T : SchedulerTables) (k : Key) (valid : TablesValid T) (unused : AllByRecursion (λ t. is_trigger_of k t ≡ false) T.triggers) where
  abbrev without_its_job : SchedulerTables
  without_its_job = record T { jobs = without_job k T.jobs }

  pub valid-without_job : TablesValid without_its_job
  valid-without_job = let was = valid.references_and_limits in record {
    references_and_limits = references-jobs T was (without_job k T.jobs) (ordered-without_job k T.jobs was.ordered.jobs)
        (record {
          trigger_jobs = All-both (λ t. same_key k t.spec.job ≡ false) (HasJob T.jobs) (HasJob (without_job k T.jobs)) T.triggers
              (λ t differ stored. subst IsSome (sym (job_of-without_job k t.spec.job T.jobs differ)) stored) unused was.stored.trigger_jobs;
          trigger_calendars = was.stored.trigger_calendars;
          trigger_zones = was.stored.trigger_zones;
          bases = was.stored.bases;
          calendar_zones = was.stored.calendar_zones;
          chains = was.stored.chains;
        })
        (omega (arith, length-without_job k T.jobs, was.limits.jobs));
    acquired_match = valid.acquired_match;
    concurrency_agrees = record {
      with_rows = valid.concurrency_agrees.with_rows;
      with_jobs = All-without_job (AgreesWithJob T.fired) (AgreesWithJob T.fired) k T.jobs valid.concurrency_agrees.with_jobs (λ j differ is. is);
    };
    one_exclusive = valid.one_exclusive;
    blocked_are_busy = valid.blocked_are_busy;
    rows_of_members = valid.rows_of_members;
    next_times = valid.next_times;
    fresh = record {
      fired = valid.fresh.fired;
      added = All-weaker (HasNumber T) (HasNumber without_its_job) T.triggers
          (λ t has. HasNumber-kept T without_its_job t (omega arith) (λ n below none. none) (λ n all. all) has) valid.fresh.added;
    };
    row_times = valid.row_times;
  }

-- Jobs that no trigger has go, all that pass at once.
module _ (T : SchedulerTables) (p : JobData → Bool) (valid : TablesValid T) (unused : (j : JobData) → p j ≡ true → AllByRecursion (λ t. is_trigger_of j.key t ≡ false) T.triggers) where
  abbrev jobs_left : List JobData
  jobs_left = filter (λ j. not (p j)) T.jobs

  abbrev without_those_jobs : SchedulerTables
  without_those_jobs = record T { jobs = jobs_left }

  of_each : (ts : List TriggerData) → ((j : JobData) → p j ≡ true → AllByRecursion (λ t. is_trigger_of j.key t ≡ false) ts) → AllByRecursion (λ t. (j : JobData) → p j ≡ true → is_trigger_of j.key t ≡ false) ts
  of_each [] each = tt
  of_each (t ∷ ts) each = (λ j goes. (each j goes).0, of_each ts (λ j goes. (each j goes).1))

  still_stored : (t : TriggerData) → ((j : JobData) → p j ≡ true → is_trigger_of j.key t ≡ false) → HasJob T.jobs t → HasJob jobs_left t
  unfolding job_of same_key
  still_stored t none stored =
      subst IsSome
      (sym (row_of-filter key_cmp (λ r. r.key) t.spec.job (λ j. not (p j)) T.jobs
      (All-from (λ j. same_key t.spec.job j.key ≡ true → not (p j) ≡ true) T.jobs (λ j same. elim (p j) as (λ b. p j ≡ b → not b ≡ true) [
        | true ↦ λ goes. let other : same_key j.key t.spec.job ≡ false = none j goes in let own = same_key_laws.symm j.key t.spec.job in absurd (cc)
        | false ↦ λ stays. refl
      ] refl)))) stored

  pub valid-without_jobs : TablesValid without_those_jobs
  valid-without_jobs = let was = valid.references_and_limits in record {
    references_and_limits = references-jobs T was jobs_left (IsAscending-filter key_cmp (λ r. r.key) key_total (λ j. not (p j)) T.jobs was.ordered.jobs)
        (record {
          trigger_jobs = All-both (λ t. (j : JobData) → p j ≡ true → is_trigger_of j.key t ≡ false) (HasJob T.jobs) (HasJob jobs_left) T.triggers still_stored (of_each T.triggers unused) was.stored.trigger_jobs;
          trigger_calendars = was.stored.trigger_calendars;
          trigger_zones = was.stored.trigger_zones;
          bases = was.stored.bases;
          calendar_zones = was.stored.calendar_zones;
          chains = was.stored.chains;
        })
        (omega (arith, length-filter_le (λ j. not (p j)) T.jobs, was.limits.jobs));
    acquired_match = valid.acquired_match;
    concurrency_agrees = record {
      with_rows = valid.concurrency_agrees.with_rows;
      with_jobs = All-left (AgreesWithJob T.fired) (AgreesWithJob T.fired) p T.jobs valid.concurrency_agrees.with_jobs (λ j stays is. is);
    };
    one_exclusive = valid.one_exclusive;
    blocked_are_busy = valid.blocked_are_busy;
    rows_of_members = valid.rows_of_members;
    next_times = valid.next_times;
    fresh = record {
      fired = valid.fresh.fired;
      added = All-weaker (HasNumber T) (HasNumber without_those_jobs) T.triggers
          (λ t has. HasNumber-kept T without_those_jobs t (omega arith) (λ n below none. none) (λ n all. all) has) valid.fresh.added;
    };
    row_times = valid.row_times;
  }

-- Jobs that go with their last trigger.

pub orphan_unused : (triggers : List TriggerData) (job : JobData) → is_orphan triggers job ≡ true → AllByRecursion (λ t. is_trigger_of job.key t ≡ false) triggers
unfolding is_orphan
orphan_unused triggers job is =
    All-none (is_trigger_of job.key) triggers (not-true (list_any (is_trigger_of job.key) triggers) (and_parts (not job.durable) (not (list_any (is_trigger_of job.key) triggers)) is).1)

valid-without_orphan : (T : SchedulerTables) (job : Option JobData) → TablesValid T → TablesValid (record T { jobs = without_orphan T.triggers job T.jobs })
valid-without_orphan T None valid = valid
valid-without_orphan T (Some job) valid =
    elim (is_orphan T.triggers job) as (λ b. is_orphan T.triggers job ≡ b → TablesValid (record T { jobs = if b then without_job job.key T.jobs else T.jobs })) [
      | true ↦ λ is. valid-without_job T job.key valid (orphan_unused T.triggers job is)
      | false ↦ λ is. valid
    ] refl

pub valid-without_orphan_of : (T : SchedulerTables) (k : Key) → TablesValid T → TablesValid (record T { jobs = without_orphan_of k T.triggers T.jobs })
unfolding without_orphan_of
valid-without_orphan_of T k valid = valid-without_orphan T (job_of k T.jobs) valid

-- A trigger goes, if there is one, its row if it is acquired, and its job if that is an orphan then.
pub valid-without_trigger_and_orphan : (T : SchedulerTables) (t : Option TriggerData) → TablesValid T → TablesValid (without_trigger_and_orphan T t)
unfolding without_trigger_and_orphan
valid-without_trigger_and_orphan T None valid = valid
valid-without_trigger_and_orphan T (Some t) valid =
    valid-without_orphan_of (record T { triggers = without_trigger t.spec.key T.triggers; fired = without_acquired (is_row_of_trigger t.spec.key) T.fired }) t.spec.job (valid-without_trigger T t.spec.key valid)
