-- An execution begins, and keeps the tables valid. If it excludes others of its job, the other triggers of the job are blocked with it,
-- and the acquired ones among them lose their rows.
use Rattle.std.proofs.Common.{◌≡◌, ℕ, ◌<◌, ◌≤◌, ◌==◌, ℤ, ◌≤ℤ◌, Bool, true, false, not, ◌&&◌, List, length, count_by, nat_lt, Option, Some, None, IsSome, IfSome, IsSomeAnd, refl, sym, ap, ◌∙◌, subst, arith}
use Rattle.std.specs.List.{AllByRecursion}
use Rattle.std.specs.Ordering.{nat_cmp}
use Rattle.std.proofs.lemmas.Bool.{and_parts, and_from, and_right, false_from_ne_true}
use Rattle.std.proofs.lemmas.Bool.Decides.{nat_tests}
use Rattle.qz_types.specs.Rows.{JobData, TriggerData, FiredData}
use Rattle.qz_types.specs.Sorted.{IsAscending}
use Rattle.qz_types.specs.declared.keys.Key.{Key}
use Rattle.qz_types.specs.declared.limits.TheConstants.{TRIGGER_LIMIT}
use Rattle.qz_types.specs.declared.triggers.TriggerState.{TriggerState}
use Rattle.qz_types.specs.declared.triggers.TriggerState.TheVariants as state
use Rattle.qz_types.specs.Tables.{SchedulerTables, IsMoment}
use Rattle.qz_types.specs.Changes.{with_state, after_fire, begun}
use Rattle.qz_types.specs.States.{is_acquired, is_acquired_for, blocked}
use Rattle.qz_types.specs.Words.{key_cmp, same_key, job_of, trigger_of, with_trigger, fired_of, with_fired}
use Rattle.qz_model.specs.Executions.{is_exclusive_of, is_busy}
use Rattle.qz_model.specs.Firing.{fired_state, with_blocked, without_siblings}
use Rattle.qz_model.specs.Invariant.{AreStored, ReferencesAndLimits, IsRowOf, HasFlag, ConcurrencyAgrees, is_blocked_or_done, is_blocked, OneExclusive, BlockedAreBusy, RowsOfMembers, is_live_state, TablesValid}
use Rattle.qz_model.specs.Tests.{is_trigger_of, is_row_of_job}
use Rattle.qz_model.proofs.RowPoints.{All-weaker, All-both, any_is_count, none_from_count}
use Rattle.qz_model.proofs.RowLaws.{same_key_laws, same_key-exact, All-job_of, job_of-key, only_job, ordered-with_trigger, All-trigger_of, trigger_of-key, trigger_of-alike, each_trigger, only_trigger, All-with_trigger, trigger_of-with_other, length-with_trigger, ordered-with_fired, All-fired_of, only_fired, one_fired, fired_of-with_fired, All-with_fired, count_by-with_fired, length-with_fired}
use Rattle.qz_model.proofs.StateLaws.{ordered-with_states, length-with_states, All-with_states, ordered-without_acquired, length-without_acquired, All-without_acquired, count_by-without_acquired, fired_of-without_acquired}
use Rattle.qz_model.proofs.RowChanges.{trigger_of-unchanged, one-with_fired, counted-with_fired}
use Rattle.qz_model.proofs.References.{references-triggers, references-fired}
use Rattle.qz_model.proofs.Changes.{HasOneRow, HasItsTrigger, HasNextTime, HasJob, HasCalendar, HasZone, AgreesWithRows, AgreesWithJob, StaysBlocked, IsBlockedBy, HasMember, HasRowTimes, busy-same, HasNumber, SharesNone, HasNumber-kept, HasNumber-alike, each_next, have_next, live_next}

-- The triggers of a job, blocked or not.
pub All-with_blocked : (b : Bool) (job : Key) (P Q : TriggerData → Type 0) (rows : List TriggerData) → AllByRecursion P rows
    → ((t : TriggerData) → b ≡ true → same_key job t.spec.job ≡ true → P t → Q (with_state blocked t)) → ((t : TriggerData) → (b ≡ true → same_key job t.spec.job ≡ false) → P t → Q t)
    → AllByRecursion Q (with_blocked b job rows)
All-with_blocked true job P Q rows all changed left = All-with_states blocked (is_trigger_of job) P Q rows all (λ t is has. changed t refl is has) (λ t is has. left t (λ yes. is) has)
All-with_blocked false job P Q rows all changed left = All-weaker P Q rows (λ t has. left t (λ yes. absurd (cc)) has) all

ordered-with_blocked : (b : Bool) (job : Key) (rows : List TriggerData) → IsAscending key_cmp (λ r. r.spec.key) rows → IsAscending key_cmp (λ r. r.spec.key) (with_blocked b job rows)
ordered-with_blocked true job rows ordered = ordered-with_states blocked (is_trigger_of job) rows ordered
ordered-with_blocked false job rows ordered = ordered

pub length-with_blocked : (b : Bool) (job : Key) (rows : List TriggerData) → length (with_blocked b job rows) ≡ length rows
length-with_blocked true job rows = length-with_states blocked (is_trigger_of job) rows
length-with_blocked false job rows = refl

trigger_of-with_blocked : (b : Bool) (job k : Key) (t : TriggerData) (rows : List TriggerData) → trigger_of k rows ≡ Some t → (b ≡ true → same_key job t.spec.job ≡ false) → trigger_of k (with_blocked b job rows) ≡ Some t
trigger_of-with_blocked true job k t rows found other = trigger_of-unchanged blocked (is_trigger_of job) k t rows found (other refl)
trigger_of-with_blocked false job k t rows found other = found

-- The fired rows, with the acquired ones of a job or without.
All-without_siblings : (b : Bool) (job : Key) (P Q : FiredData → Type 0) (rows : List FiredData) → AllByRecursion P rows
    → ((f : FiredData) → (b ≡ true → is_acquired f.state ≡ true → same_key job f.job ≡ false) → P f → Q f) → AllByRecursion Q (without_siblings b job rows)
All-without_siblings true job P Q rows all left =
    All-without_acquired (is_row_of_job job) P Q rows all
    (λ f stays has. left f (λ yes taken. false_from_ne_true (same_key job f.job) (λ same. let both : (is_acquired f.state && same_key job f.job) ≡ true = and_from (is_acquired f.state) (same_key job f.job) taken same in absurd (cc))) has)
All-without_siblings false job P Q rows all left = All-weaker P Q rows (λ f has. left f (λ yes. absurd (cc)) has) all

ordered-without_siblings : (b : Bool) (job : Key) (rows : List FiredData) → IsAscending nat_cmp (λ r. r.entry) rows → IsAscending nat_cmp (λ r. r.entry) (without_siblings b job rows)
ordered-without_siblings true job rows ordered = ordered-without_acquired (is_row_of_job job) rows ordered
ordered-without_siblings false job rows ordered = ordered

pub length-without_siblings : (b : Bool) (job : Key) (rows : List FiredData) → length (without_siblings b job rows) ≤ length rows
length-without_siblings true job rows = length-without_acquired (is_row_of_job job) rows
length-without_siblings false job rows = omega arith

fired_of-without_siblings : (b : Bool) (job : Key) (n : ℕ) (rows : List FiredData) → fired_of n rows ≡ None → fired_of n (without_siblings b job rows) ≡ None
fired_of-without_siblings true job n rows absent = fired_of-without_acquired (is_row_of_job job) n rows absent
fired_of-without_siblings false job n rows absent = absent

count_by-without_siblings : (b : Bool) (job : Key) (p : FiredData → Bool) (rows : List FiredData)
    → AllByRecursion (λ f. b ≡ true → is_acquired f.state ≡ true → same_key job f.job ≡ true → p f ≡ false) rows → count_by p (without_siblings b job rows) ≡ count_by p rows
count_by-without_siblings true job p rows outside =
    count_by-without_acquired (is_row_of_job job) p rows
    (All-weaker (λ f. true ≡ true → is_acquired f.state ≡ true → same_key job f.job ≡ true → p f ≡ false) (λ f. (is_acquired f.state && same_key job f.job) ≡ true → p f ≡ false) rows
    (λ f is both. let parts = and_parts (is_acquired f.state) (same_key job f.job) both in is refl parts.0 parts.1) outside)
count_by-without_siblings false job p rows outside = refl

-- States after a trigger fired, or was blocked.
not_acquired : (s : TriggerState) → blocked s ≡ state.Acquired → ⊥
not_acquired state.Waiting e = cc
not_acquired state.Acquired e = cc
not_acquired state.Complete e = cc
not_acquired state.Blocked e = cc
not_acquired state.Paused e = cc
not_acquired state.PausedBlocked e = cc
not_acquired state.Error e = cc

blocked_now : (s : TriggerState) → is_blocked_or_done (blocked s) ≡ true
blocked_now state.Waiting = refl
blocked_now state.Acquired = refl
blocked_now state.Complete = refl
blocked_now state.Blocked = refl
blocked_now state.Paused = refl
blocked_now state.PausedBlocked = refl
blocked_now state.Error = refl

same_live : (s : TriggerState) → is_live_state (blocked s) ≡ is_live_state s
same_live state.Waiting = refl
same_live state.Acquired = refl
same_live state.Complete = refl
same_live state.Blocked = refl
same_live state.Paused = refl
same_live state.PausedBlocked = refl
same_live state.Error = refl

fired_not_acquired : (next : Option ℤ) (b : Bool) → fired_state next b ≡ state.Acquired → ⊥
fired_not_acquired None b e = cc
fired_not_acquired (Some n) true e = cc
fired_not_acquired (Some n) false e = cc

fired_blocked : (next : Option ℤ) (b : Bool) → b ≡ true → is_blocked_or_done (fired_state next b) ≡ true
fired_blocked None b is = refl
fired_blocked (Some n) b is = rw is refl

fired_shared : (next : Option ℤ) (b : Bool) → is_blocked (fired_state next b) ≡ true → b ≡ true
fired_shared None b is = absurd (cc)
fired_shared (Some n) true is = refl
fired_shared (Some n) false is = absurd (cc)

fired_next : (next : Option ℤ) (b : Bool) → is_live_state (fired_state next b) ≡ true → IsSome next
fired_next None b live = absurd (cc)
fired_next (Some n) b live = refl

-- a row that goes isn't that of a trigger of another job
trigger_stays : (b : Bool) (job k : Key) (g : FiredData) (o : Option TriggerData) (rows : List TriggerData) → trigger_of k rows ≡ o → (b ≡ true → same_key job g.job ≡ false)
    → IsSomeAnd o (IsRowOf g) → IsSomeAnd (trigger_of k (with_blocked b job rows)) (IsRowOf g)
trigger_stays b job k g None rows found other is = absurd is
trigger_stays b job k g (Some t) rows found other is =
    subst (λ o. IsSomeAnd o (IsRowOf g)) (sym (trigger_of-with_blocked b job k t rows found (λ yes. ap (same_key job) is.job ∙ other yes))) is

same_job : (g : FiredData) (u : TriggerData) (o : Option TriggerData) → o ≡ Some u → IsSomeAnd o (IsRowOf g) → u.spec.job ≡ g.job
same_job g u None found is = absurd is
same_job g u (Some t) found is = let same : t ≡ u = cc in subst (λ x. x.spec.job ≡ g.job) same is.job

-- what is known of the row, the trigger and the job of an execution that begins
pub record Begins (T : SchedulerTables) (m : ℤ) (f : FiredData) (t : TriggerData) (job : JobData) (next : Option ℤ) : Type 0 where
  pub row : fired_of f.entry T.fired ≡ Some f
  pub taken : is_acquired f.state ≡ true
  pub trigger : trigger_of f.trigger T.triggers ≡ Some t
  pub in_time : f.scheduled ≤ℤ m
  pub stored : job_of f.job T.jobs ≡ Some job
  pub within : IfSome next (IsMoment T.horizon)

module _ (T : SchedulerTables) (m : ℤ) (f : FiredData) (t : TriggerData) (job : JobData) (next : Option ℤ) (valid : TablesValid T) (begins : Begins T m f t job next) where
  abbrev exclusive : Bool
  exclusive = job.no_concurrent

  abbrev fires : TriggerData → TriggerData
  fires = after_fire next (fired_state next exclusive)

  abbrev starts : FiredData → FiredData
  starts = begun m exclusive job.requests_recovery

  abbrev triggers_then : List TriggerData
  triggers_then = with_trigger f.trigger fires (with_blocked exclusive f.job T.triggers)

  abbrev fired_then : List FiredData
  fired_then = without_siblings exclusive f.job (with_fired f.entry starts T.fired)

  abbrev after_begin : SchedulerTables
  after_begin = record T { triggers = triggers_then; fired = fired_then }

  row_of_trigger : IsRowOf f t
  row_of_trigger =
      subst (λ o. IsSomeAnd o (IsRowOf f)) begins.trigger
      (All-fired_of (HasItsTrigger T.triggers) f.entry f T.fired valid.acquired_match.a_trigger begins.row begins.taken)

  -- the trigger has no other acquired row
  only_row : AllByRecursion (λ g. is_acquired_for t.spec.key g ≡ true → (f.entry == g.entry) ≡ true) T.fired
  unfolding is_acquired_for
  only_row =
      one_fired (is_acquired_for t.spec.key) f.entry f T.fired begins.row (and_from (is_acquired f.state) (same_key t.spec.key f.trigger) begins.taken (same_key_laws.symm t.spec.key f.trigger ∙ trigger_of-key f.trigger t T.triggers begins.trigger))
      (All-trigger_of (HasOneRow T.fired) f.trigger t T.triggers valid.acquired_match.one_row begins.trigger row_of_trigger.state)

  same_row : AllByRecursion (λ g. (f.entry == g.entry) ≡ true → g ≡ f) T.fired
  same_row = only_fired f.entry f T.fired valid.references_and_limits.ordered.fired begins.row

  same_trigger : AllByRecursion (λ u. same_key f.trigger u.spec.key ≡ true → u ≡ t) T.triggers
  same_trigger = only_trigger f.trigger t T.triggers valid.references_and_limits.ordered.triggers begins.trigger

  -- What holds of each trigger then: of the one that fires, of those that are blocked, and of all others.
  All-triggers_then : (P Q : TriggerData → Type 0) → AllByRecursion P T.triggers
      → ((s : TriggerState) → P t → Q (fires (record t { state = s })))
      → ((u : TriggerData) → exclusive ≡ true → same_key f.job u.spec.job ≡ true → P u → Q (with_state blocked u))
      → ((u : TriggerData) → (exclusive ≡ true → same_key f.job u.spec.job ≡ false) → same_key f.trigger u.spec.key ≡ false → P u → Q u)
      → AllByRecursion Q triggers_then
  All-triggers_then P Q all fired shut left =
      All-with_trigger (λ u. (same_key f.trigger u.spec.key ≡ true → Q (fires u)) × (same_key f.trigger u.spec.key ≡ false → Q u)) Q f.trigger fires (with_blocked exclusive f.job T.triggers)
      (All-with_blocked exclusive f.job (λ u. P u × (same_key f.trigger u.spec.key ≡ true → u ≡ t)) (λ u. (same_key f.trigger u.spec.key ≡ true → Q (fires u)) × (same_key f.trigger u.spec.key ≡ false → Q u)) T.triggers
      (All-both P (λ u. same_key f.trigger u.spec.key ≡ true → u ≡ t) (λ u. P u × (same_key f.trigger u.spec.key ≡ true → u ≡ t)) T.triggers (λ u has is. (has, is)) all same_trigger)
      (λ u yes same has. (λ at. subst (λ x. P x → Q (fires (with_state blocked x))) (sym (has.1 at)) (λ p. fired (blocked t.state) p) has.0, λ away. shut u yes same has.0))
      (λ u other has. (λ at. subst (λ x. P x → Q (fires x)) (sym (has.1 at)) (λ p. fired t.state p) has.0, λ away. left u other away has.0)))
      (λ u at has. has.0 at) (λ u away has. has.1 away)

  -- What holds of each fired row then: of the one whose execution begins, and of all others.
  All-fired_then : (P Q : FiredData → Type 0) → AllByRecursion P T.fired → (P f → Q (starts f))
      → ((g : FiredData) → (exclusive ≡ true → is_acquired g.state ≡ true → same_key f.job g.job ≡ false) → (f.entry == g.entry) ≡ false → P g → Q g)
      → AllByRecursion Q fired_then
  All-fired_then P Q all begin left =
      All-without_siblings exclusive f.job (λ g. (exclusive ≡ true → is_acquired g.state ≡ true → same_key f.job g.job ≡ false) → Q g) Q (with_fired f.entry starts T.fired)
      (All-with_fired (λ g. P g × ((f.entry == g.entry) ≡ true → g ≡ f)) (λ g. (exclusive ≡ true → is_acquired g.state ≡ true → same_key f.job g.job ≡ false) → Q g) f.entry starts T.fired
      (All-both P (λ g. (f.entry == g.entry) ≡ true → g ≡ f) (λ g. P g × ((f.entry == g.entry) ≡ true → g ≡ f)) T.fired (λ g has is. (has, is)) all same_row)
      (λ g at has stays. subst (λ x. P x → Q (starts x)) (sym (has.1 at)) begin has.0)
      (λ g away has stays. left g stays away has.0))
      (λ g stays has. has stays)

  -- Counts of what the begin doesn't change, where the rows that go aren't counted.
  same_count : (p : FiredData → Bool) → p (starts f) ≡ p f → AllByRecursion (λ g. exclusive ≡ true → is_acquired g.state ≡ true → same_key f.job g.job ≡ true → p g ≡ false) T.fired
      → count_by p fired_then ≡ count_by p T.fired
  same_count p same outside =
      count_by-without_siblings exclusive f.job p (with_fired f.entry starts T.fired)
      (All-with_fired (λ g. exclusive ≡ true → is_acquired g.state ≡ true → same_key f.job g.job ≡ true → p g ≡ false) (λ g. exclusive ≡ true → is_acquired g.state ≡ true → same_key f.job g.job ≡ true → p g ≡ false) f.entry starts T.fired outside
      (λ g at has yes taken. absurd (cc)) (λ g away has. has))
      ∙ count_by-with_fired p f.entry starts T.fired
      (All-weaker (λ g. (f.entry == g.entry) ≡ true → g ≡ f) (λ g. (f.entry == g.entry) ≡ true → p (starts g) ≡ p g) T.fired
      (λ g is at. ap (λ x. p (starts x)) (is at) ∙ same ∙ sym (ap p (is at))) same_row)

  -- Acquired triggers match acquired rows.
  not_counted : (u : TriggerData) → trigger_of u.spec.key T.triggers ≡ Some u → (exclusive ≡ true → same_key f.job u.spec.job ≡ false)
      → AllByRecursion (λ g. exclusive ≡ true → is_acquired g.state ≡ true → same_key f.job g.job ≡ true → is_acquired_for u.spec.key g ≡ false) T.fired
  unfolding is_acquired_for
  not_counted u found other =
      All-weaker (HasItsTrigger T.triggers) (λ g. exclusive ≡ true → is_acquired g.state ≡ true → same_key f.job g.job ≡ true → is_acquired_for u.spec.key g ≡ false) T.fired
      (λ g has yes taken same. false_from_ne_true (is_acquired_for u.spec.key g) (λ is.
      let key = (and_parts (is_acquired g.state) (same_key u.spec.key g.trigger) is).1 in
      let own : u.spec.job ≡ g.job = same_job g u (trigger_of g.trigger T.triggers) (sym (trigger_of-alike u.spec.key g.trigger T.triggers key) ∙ found) (has taken) in
      let differ : same_key f.job g.job ≡ false = sym (ap (same_key f.job) own) ∙ other yes in
      absurd (cc))) valid.acquired_match.a_trigger

  one_row_begun : AllByRecursion (HasOneRow fired_then) triggers_then
  unfolding is_acquired_for
  one_row_begun =
      All-triggers_then (λ u. HasOneRow T.fired u × (trigger_of u.spec.key T.triggers ≡ Some u)) (HasOneRow fired_then)
      (All-both (HasOneRow T.fired) (λ u. trigger_of u.spec.key T.triggers ≡ Some u) (λ u. HasOneRow T.fired u × (trigger_of u.spec.key T.triggers ≡ Some u)) T.triggers (λ u one found. (one, found))
      valid.acquired_match.one_row (each_trigger T.triggers valid.references_and_limits.ordered.triggers))
      (λ s has taken. absurd (fired_not_acquired next exclusive taken))
      (λ u yes same has taken. absurd (not_acquired u.state taken))
      (λ u other away has taken.
      same_count (is_acquired_for u.spec.key) (sym (and_right (is_acquired f.state) (same_key u.spec.key f.trigger) (same_key_laws.symm u.spec.key f.trigger ∙ away))) (not_counted u has.1 other)
      ∙ has.0 taken)

  a_trigger_begun : AllByRecursion (HasItsTrigger triggers_then) fired_then
  unfolding is_acquired_for
  a_trigger_begun =
      All-fired_then (λ g. HasItsTrigger T.triggers g × (is_acquired_for t.spec.key g ≡ true → (f.entry == g.entry) ≡ true)) (HasItsTrigger triggers_then)
      (All-both (HasItsTrigger T.triggers) (λ g. is_acquired_for t.spec.key g ≡ true → (f.entry == g.entry) ≡ true) (λ g. HasItsTrigger T.triggers g × (is_acquired_for t.spec.key g ≡ true → (f.entry == g.entry) ≡ true)) T.fired
      (λ g has only. (has, only)) valid.acquired_match.a_trigger only_row)
      (λ has taken. absurd (cc))
      (λ g stays away has taken.
      let own : f.trigger ≡ t.spec.key = same_key-exact f.trigger t.spec.key (trigger_of-key f.trigger t T.triggers begins.trigger) in
      let other : same_key f.trigger g.trigger ≡ false =
      ap (λ k. same_key k g.trigger) own ∙ false_from_ne_true (same_key t.spec.key g.trigger) (λ same. let at = has.1 (and_from (is_acquired g.state) (same_key t.spec.key g.trigger) taken same) in cc) in
      subst (λ o. IsSomeAnd o (IsRowOf g)) (sym (trigger_of-with_other g.trigger f.trigger fires (with_blocked exclusive f.job T.triggers) (λ u. refl) other))
      (trigger_stays exclusive f.job g.trigger g (trigger_of g.trigger T.triggers) T.triggers refl (λ yes. stays yes taken) (has.0 taken)))

  -- All executions of the job have its flag.
  row_flags : AllByRecursion (HasFlag f.job exclusive) T.fired
  row_flags =
      All-weaker (HasFlag job.key exclusive) (HasFlag f.job exclusive) T.fired
      (λ g has started same. has started (sym (same_key_laws.congr f.job job.key g.job (job_of-key f.job job T.jobs begins.stored)) ∙ same))
      (All-job_of (AgreesWithJob T.fired) f.job job T.jobs valid.concurrency_agrees.with_jobs begins.stored)

  flags_then : (key : Key) (flag : Bool) → (same_key key f.job ≡ true → exclusive ≡ flag) → AllByRecursion (HasFlag key flag) T.fired → AllByRecursion (HasFlag key flag) fired_then
  flags_then key flag own all = All-fired_then (HasFlag key flag) (HasFlag key flag) all (λ has started same. own same) (λ g stays away has. has)

  concurrency_begun : ConcurrencyAgrees T.jobs fired_then
  concurrency_begun = record {
    with_rows = All-fired_then (λ g. AgreesWithRows T.fired g × HasFlag f.job exclusive g) (AgreesWithRows fired_then)
        (All-both (AgreesWithRows T.fired) (HasFlag f.job exclusive) (λ g. AgreesWithRows T.fired g × HasFlag f.job exclusive g) T.fired (λ g agrees has. (agrees, has)) valid.concurrency_agrees.with_rows row_flags)
        (λ has started. flags_then f.job exclusive (λ same. refl) row_flags)
        (λ g stays away has started. flags_then g.job g.no_concurrent (λ same. sym (has.1 started (same_key_laws.symm f.job g.job ∙ same))) (has.0 started));
    with_jobs = All-both (AgreesWithJob T.fired) (λ j. same_key f.job j.key ≡ true → j ≡ job) (AgreesWithJob fired_then) T.jobs
        (λ j agrees is. flags_then j.key j.no_concurrent (λ same. sym (ap (λ x. x.no_concurrent) (is (same_key_laws.symm f.job j.key ∙ same)))) agrees)
        valid.concurrency_agrees.with_jobs (only_job f.job job T.jobs valid.references_and_limits.ordered.jobs begins.stored);
  }

  -- No execution that excludes others goes on: the trigger is acquired.
  idle : (key : Key) → same_key key f.job ≡ true → is_busy key T.fired ≡ false
  idle key same = false_from_ne_true (is_busy key T.fired) (λ busy.
      let own : t.spec.job ≡ key = row_of_trigger.job ∙ sym (same_key-exact key f.job same) in
      let done = All-trigger_of (StaysBlocked T.fired) f.trigger t T.triggers valid.one_exclusive.blocked begins.trigger (ap (λ k. is_busy k T.fired) own ∙ busy) in
      let free : is_blocked_or_done t.state ≡ false = ap is_blocked_or_done row_of_trigger.state in
      absurd (cc))

  none_counted : (key : Key) → AllByRecursion (λ g. exclusive ≡ true → is_acquired g.state ≡ true → same_key f.job g.job ≡ true → is_exclusive_of key g ≡ false) T.fired
  unfolding is_exclusive_of
  none_counted key = All-weaker (λ g. (f.entry == g.entry) ≡ true → g ≡ f) (λ g. exclusive ≡ true → is_acquired g.state ≡ true → same_key f.job g.job ≡ true → is_exclusive_of key g ≡ false) T.fired
      (λ g is yes taken same. ap (λ a. not a && g.no_concurrent && same_key key g.job) taken) same_row

  same_elsewhere : (key : Key) → (exclusive ≡ true → same_key key f.job ≡ false) → count_by (is_exclusive_of key) fired_then ≡ count_by (is_exclusive_of key) T.fired
  unfolding is_exclusive_of
  same_elsewhere key other =
      same_count (is_exclusive_of key)
      (false_from_ne_true (exclusive && same_key key f.job) (λ both. let parts = and_parts exclusive (same_key key f.job) both in let no = other parts.0 in absurd (cc))
      ∙ sym (ap (λ a. not a && f.no_concurrent && same_key key f.job) begins.taken))
      (none_counted key)

  busy_elsewhere : (key : Key) → (exclusive ≡ true → same_key key f.job ≡ false) → is_busy key fired_then ≡ is_busy key T.fired
  busy_elsewhere key other = busy-same key T.fired fired_then (same_elsewhere key other)

  -- the rows that go count for no execution
  without_them : (key : Key) → count_by (is_exclusive_of key) fired_then ≡ count_by (is_exclusive_of key) (with_fired f.entry starts T.fired)
  unfolding is_exclusive_of
  without_them key =
      count_by-without_siblings exclusive f.job (is_exclusive_of key) (with_fired f.entry starts T.fired)
      (All-with_fired (λ g. exclusive ≡ true → is_acquired g.state ≡ true → same_key f.job g.job ≡ true → is_exclusive_of key g ≡ false) (λ g. exclusive ≡ true → is_acquired g.state ≡ true → same_key f.job g.job ≡ true → is_exclusive_of key g ≡ false) f.entry starts T.fired
      (none_counted key) (λ g at has yes taken. absurd (cc)) (λ g away has. has))

  busy_here : (key : Key) → exclusive ≡ true → same_key key f.job ≡ true → is_busy key fired_then ≡ true
  unfolding is_exclusive_of is_busy
  busy_here key excludes same =
      let counted : 1 ≤ count_by (is_exclusive_of key) (with_fired f.entry starts T.fired) =
      counted-with_fired (is_exclusive_of key) f.entry starts f T.fired (λ g. refl) begins.row (grind (arith, nat_tests)) (and_from exclusive (same_key key f.job) excludes same) in
      let least : 1 ≤ count_by (is_exclusive_of key) fired_then = omega (arith, without_them key) in
      any_is_count (is_exclusive_of key) fired_then ∙ grind (arith, nat_tests)

  one_here : (key : Key) → same_key key f.job ≡ true → count_by (is_exclusive_of key) fired_then ≤ 1
  unfolding is_busy
  one_here key same =
      subst (λ n. n ≤ 1) (sym (without_them key))
      (one-with_fired (is_exclusive_of key) f.entry starts T.fired valid.references_and_limits.ordered.fired
      (none_from_count (is_exclusive_of key) T.fired (let none : nat_lt 0 (count_by (is_exclusive_of key) T.fired) ≡ false = sym (any_is_count (is_exclusive_of key) T.fired) ∙ idle key same in grind (arith, nat_tests))))

  exclusive_begun : OneExclusive triggers_then fired_then
  exclusive_begun = record {
    one = λ key. elim (same_key key f.job) as (λ b. same_key key f.job ≡ b → count_by (is_exclusive_of key) fired_then ≤ 1) [
      | true ↦ λ same. one_here key same
      | false ↦ λ other. subst (λ n. n ≤ 1) (sym (same_elsewhere key (λ yes. other))) (valid.one_exclusive.one key)
    ] refl;
    blocked = All-triggers_then (StaysBlocked T.fired) (StaysBlocked fired_then) valid.one_exclusive.blocked
        (λ s has busy. elim exclusive as (λ b. exclusive ≡ b → is_blocked_or_done (fired_state next exclusive) ≡ true) [
          | true ↦ λ yes. fired_blocked next exclusive yes
          | false ↦ λ no.
              let own : same_key t.spec.job f.job ≡ true = subst (λ k. same_key k f.job ≡ true) (sym row_of_trigger.job) (same_key_laws.refl f.job) in
              let not_busy : is_busy t.spec.job fired_then ≡ false = busy_elsewhere t.spec.job (λ yes. absurd (cc)) ∙ idle t.spec.job own in
              absurd (cc)
        ] refl)
        (λ u yes same has busy. blocked_now u.state)
        (λ u other away has busy. has (sym (busy_elsewhere u.spec.job (λ yes. same_key_laws.symm u.spec.job f.job ∙ other yes)) ∙ busy));
  }

  blocked_begun : BlockedAreBusy triggers_then fired_then
  blocked_begun = record {
    busy = All-triggers_then (IsBlockedBy T.fired) (IsBlockedBy fired_then) valid.blocked_are_busy.busy
        (λ s has shut. busy_here t.spec.job (fired_shared next exclusive shut) (subst (λ k. same_key k f.job ≡ true) (sym row_of_trigger.job) (same_key_laws.refl f.job)))
        (λ u yes same has shut. busy_here u.spec.job yes (same_key_laws.symm u.spec.job f.job ∙ same))
        (λ u other away has shut. busy_elsewhere u.spec.job (λ yes. same_key_laws.symm u.spec.job f.job ∙ other yes) ∙ has shut);
  }

  members_begun : RowsOfMembers T.members T.next_epoch fired_then
  members_begun = record {
    given = valid.rows_of_members.given;
    distinct = valid.rows_of_members.distinct;
    rows = All-fired_then (HasMember T.members) (HasMember T.members) valid.rows_of_members.rows (λ is. is) (λ g stays away is. is);
  }

  next_times_begun : AllByRecursion (HasNextTime T.horizon) triggers_then
  next_times_begun =
      All-triggers_then (HasNextTime T.horizon) (HasNextTime T.horizon) (each_next T valid)
      (λ s has. (λ live. fired_next next exclusive live, begins.within))
      (λ u yes same has. (λ live. has.0 (sym (same_live u.state) ∙ live), has.1))
      (λ u other away has. has)

  numbers_begun : AllByRecursion (HasNumber after_begin) triggers_then
  numbers_begun =
      All-triggers_then (HasNumber after_begin) (HasNumber after_begin)
      (All-weaker (HasNumber T) (HasNumber after_begin) T.triggers
      (λ u has. HasNumber-kept T after_begin u (omega arith)
      (λ n below none. fired_of-without_siblings exclusive f.job n (with_fired f.entry starts T.fired) (fired_of-with_fired n f.entry starts T.fired (λ g. refl) none))
      (λ n all. All-triggers_then (SharesNone u.spec.key n) (SharesNone u.spec.key n) all (λ s is. is) (λ x yes same is. is) (λ x other away is. is)) has)
      valid.fresh.added)
      (λ s has. HasNumber-alike after_begin t (fires (record t { state = s })) refl has)
      (λ u yes same has. HasNumber-alike after_begin u (with_state blocked u) refl has)
      (λ u other away has. has)

  row_times_begun : AllByRecursion (HasRowTimes T.horizon) fired_then
  row_times_begun =
      All-fired_then (HasRowTimes T.horizon) (HasRowTimes T.horizon) valid.row_times.rows
      (λ has. (
        subst (λ o. IsSomeAnd o (IsMoment T.horizon)) row_of_trigger.next (live_next T f.trigger t valid begins.trigger (ap is_live_state row_of_trigger.state)),
        begins.in_time,
      ))
      (λ g stays away is. is)

  stored_begun : AreStored T.jobs triggers_then T.calendars T.zones
  stored_begun = let was = valid.references_and_limits.stored in record {
    trigger_jobs = All-triggers_then (HasJob T.jobs) (HasJob T.jobs) was.trigger_jobs (λ s is. is) (λ u yes same is. is) (λ u other away is. is);
    trigger_calendars = All-triggers_then (HasCalendar T.calendars) (HasCalendar T.calendars) was.trigger_calendars (λ s is. is) (λ u yes same is. is) (λ u other away is. is);
    trigger_zones = All-triggers_then (HasZone T.zones) (HasZone T.zones) was.trigger_zones (λ s is. is) (λ u yes same is. is) (λ u other away is. is);
    bases = was.bases;
    calendar_zones = was.calendar_zones;
    chains = was.chains;
  }

  references_begun : ReferencesAndLimits after_begin
  references_begun =
      let was = valid.references_and_limits in
      let first : ReferencesAndLimits (record T { triggers = triggers_then }) =
      references-triggers T was triggers_then
      (ordered-with_trigger f.trigger fires (with_blocked exclusive f.job T.triggers) (λ u. refl) (ordered-with_blocked exclusive f.job T.triggers was.ordered.triggers)) stored_begun
      (subst (λ n. n ≤ TRIGGER_LIMIT) (sym (length-with_trigger f.trigger fires (with_blocked exclusive f.job T.triggers) ∙ length-with_blocked exclusive f.job T.triggers)) was.limits.triggers) in
      references-fired (record T { triggers = triggers_then }) first fired_then T.next_entry
      (ordered-without_siblings exclusive f.job (with_fired f.entry starts T.fired) (ordered-with_fired f.entry starts T.fired (λ g. refl) was.ordered.fired))
      (omega (arith, length-without_siblings exclusive f.job (with_fired f.entry starts T.fired), length-with_fired f.entry starts T.fired, was.limits.fired)) was.limits.next_entry

  pub valid-begun : TablesValid after_begin
  valid-begun = record {
    references_and_limits = references_begun;
    acquired_match = record { one_row = one_row_begun; a_trigger = a_trigger_begun };
    concurrency_agrees = concurrency_begun;
    one_exclusive = exclusive_begun;
    blocked_are_busy = blocked_begun;
    rows_of_members = members_begun;
    next_times = have_next T.horizon T.last_moment triggers_then next_times_begun valid.next_times.moment;
    fresh = record {
      fired = All-fired_then (λ g. g.entry < T.next_entry) (λ g. g.entry < T.next_entry) valid.fresh.fired (λ is. is) (λ g stays away is. is);
      added = numbers_begun;
    };
    row_times = record { rows = row_times_begun };
  }
