-- The triggers by which executions are recovered are stored, and the tables stay valid.
use Rattle.std.proofs.Common.{◌≡◌, ℕ, ◌+◌, ◌<◌, ◌≤◌, ◌==◌, Bool, true, false, not, ◌&&◌, ◌||◌, List, [], ◌∷◌, ◌++◌, codes, fold, map, length, filter, Some, None, IsSome, is_some, refl, ap, ◌∙◌, subst, arith}
use Rattle.std.specs.List.{AllByRecursion, list_any}
use Rattle.std.specs.Ordering.{nat_cmp}
use Rattle.std.specs.declared.cmp.Ordering.TheVariants.{Less}
use Rattle.std.proofs.lemmas.Bool.{and_parts, and_from, false_from_ne_true, not-true}
use Rattle.std.proofs.lemmas.Bool.Decides.{nat_tests}
use Rattle.qz_types.specs.Rows.{TriggerData, MemberData, FiredData}
use Rattle.qz_types.specs.Sorted.{IsBefore, IsAscending}
use Rattle.qz_types.specs.declared.limits.TheConstants.{TRIGGER_LIMIT}
use Rattle.qz_types.specs.declared.fired.FiredState.{FiredState}
use Rattle.qz_types.specs.declared.fired.FiredState.TheVariants as row
use Rattle.qz_types.specs.States.{is_acquired}
use Rattle.qz_types.specs.Tables.{SchedulerTables, IsMoment}
use Rattle.qz_types.specs.Words.{same_text, same_key, job_of, put_trigger, fired_of, is_paused}
use Rattle.qz_model.specs.Executions.{is_exclusive_of, is_busy}
use Rattle.qz_model.specs.Invariant.{EndsIn, IsNumbered, HasFlag, HasTimes, TablesValid}
use Rattle.qz_model.specs.Recovery.{lost_of, asks, recovery_trigger}
use Rattle.qz_model.specs.Tests.{is_of}
use Rattle.qz_model.specs.Triggers.{is_reserved}
use Rattle.qz_model.proofs.Changes.{AgreesWithRows, HasRowTimes, HasNumber}
use Rattle.qz_model.proofs.ExecutionsGone.{excluded_by, idle_then, with_same, after_ends}
use Rattle.qz_model.proofs.KeptTriggers.{first_free, first_blocked}
use Rattle.qz_model.proofs.Numbers.{one_number}
use Rattle.qz_model.proofs.Putting.{IsNew, IsFreeNumber, valid-put_trigger}
use Rattle.qz_model.proofs.RowLaws.{same_key_laws, same_key-exact, trigger_of-none, All-put_trigger, length-put_trigger, All-fired_of, fired_of-none, only_fired, each_fired}
use Rattle.qz_model.proofs.RowPoints.{All-weaker, All-both, All-filter, All-left, any_none, All-none}

-- no trigger that the scheduler added is named by the number
abbrev pub IsNotOf : ℕ → TriggerData → Type 0
IsNotOf number u = is_reserved u.spec.key.group ≡ true → EndsIn u.spec.key.name number → ⊥

-- an execution has ended that may be recovered
pub record IsRecoverable (T : SchedulerTables) (f : FiredData) : Type 0 where
  pub job : IsSome (job_of f.job T.jobs)
  pub below : f.entry < T.next_entry
  pub no_row : fired_of f.entry T.fired ≡ None
  pub unused : AllByRecursion (IsNotOf f.entry) T.triggers
  pub idle : is_busy f.job T.fired ≡ false
  pub time : IsMoment T.horizon f.scheduled

recovery_reserved : (groups job_groups : List (List ℕ)) (f : FiredData) → is_reserved (recovery_trigger groups job_groups f).spec.key.group ≡ true
unfolding is_reserved recovery_trigger same_text
recovery_reserved groups job_groups f = refl

pub recovery_named : (groups job_groups : List (List ℕ)) (f : FiredData) → EndsIn (recovery_trigger groups job_groups f).spec.key.name f.entry
unfolding recovery_trigger
recovery_named groups job_groups f = (codes "recover_" ++ f.node, refl)

-- no stored trigger has the key
pub no_such : (groups job_groups : List (List ℕ)) (f : FiredData) (u : TriggerData) → IsNotOf f.entry u → same_key (recovery_trigger groups job_groups f).spec.key u.spec.key ≡ false
no_such groups job_groups f u other = false_from_ne_true (same_key (recovery_trigger groups job_groups f).spec.key u.spec.key) (λ is.
    let same : (recovery_trigger groups job_groups f).spec.key ≡ u.spec.key = same_key-exact (recovery_trigger groups job_groups f).spec.key u.spec.key is in
    other (subst (λ k. is_reserved k.group ≡ true) same (recovery_reserved groups job_groups f)) (subst (λ k. EndsIn k.name f.entry) same (recovery_named groups job_groups f)))

module _ (T : SchedulerTables) (groups job_groups : List (List ℕ)) (f : FiredData) (valid : TablesValid T) (ended : IsRecoverable T f) (room : length T.triggers + 1 ≤ TRIGGER_LIMIT) where
  abbrev added : TriggerData
  added = recovery_trigger groups job_groups f

  is_new : IsNew T added
  unfolding recovery_trigger
  is_new = record {
    absent = trigger_of-none added.spec.key T.triggers (All-weaker (IsNotOf f.entry) (λ u. same_key added.spec.key u.spec.key ≡ false) T.triggers (no_such groups job_groups f) ended.unused);
    job = ended.job;
    calendar = tt;
    zone = tt;
    free = first_free (is_paused (codes "RECOVERING_JOBS") groups || is_paused f.job.group job_groups) false;
    stays = λ busy. let idle = ended.idle in absurd (cc);
    blocked = λ waits. (let wrong = first_blocked (is_paused (codes "RECOVERING_JOBS") groups || is_paused f.job.group job_groups) false waits in absurd (cc));
    next = (λ live. refl, ended.time);
  }

  free_number : IsFreeNumber T added.spec.key.name f.entry
  free_number = record { named = recovery_named groups job_groups f; below = ended.below; no_row = ended.no_row; unused = ended.unused }

  valid-added : TablesValid (record T { triggers = put_trigger added T.triggers })
  valid-added = valid-put_trigger T added valid is_new (λ reserved. (f.entry, free_number)) room

  -- one of another number may still be recovered
  still : (g : FiredData) → IsRecoverable T g → f.entry < g.entry → IsRecoverable (record T { triggers = put_trigger added T.triggers }) g
  still g is less = record {
    job = is.job;
    below = is.below;
    no_row = is.no_row;
    unused = All-put_trigger (IsNotOf g.entry) added T.triggers
        (λ reserved ends.
        let same : f.entry ≡ g.entry = one_number added.spec.key.name f.entry g.entry (omega (arith, ended.below, valid.references_and_limits.limits.next_entry)) (omega (arith, is.below, valid.references_and_limits.limits.next_entry)) (recovery_named groups job_groups f) ends in
        omega arith) is.unused;
    idle = is.idle;
    time = is.time;
  }

-- a row that is found and passes
some_counted : (p : FiredData → Bool) (n : ℕ) (f : FiredData) (rows : List FiredData) → fired_of n rows ≡ Some f → p f ≡ true → list_any p rows ≡ true
some_counted p n f rows found passes = elim (list_any p rows) as (λ b. list_any p rows ≡ b → b ≡ true) [
  | true ↦ λ e. refl
  | false ↦ λ e. let fails : p f ≡ false = All-fired_of (λ g. p g ≡ false) n f rows (All-none p rows e) found in absurd (cc)
] refl

less_from : (n m : ℕ) → nat_cmp n m ≡ Less → n < m
less_from n m e = grind (arith, nat_tests)

later : (n : ℕ) (fs : List FiredData) → IsBefore nat_cmp (λ r. r.entry) n fs → AllByRecursion (λ g. n < g.entry) fs
later n [] before = tt
later n (f ∷ fs) before = (less_from n f.entry before.0, later n fs before.1)

-- each of these is recovered
pub valid-recoveries : (T : SchedulerTables) (groups job_groups : List (List ℕ)) (fs : List FiredData) → TablesValid T → AllByRecursion (IsRecoverable T) fs → IsAscending nat_cmp (λ r. r.entry) fs
    → length T.triggers + length fs ≤ TRIGGER_LIMIT → TablesValid (record T { triggers = fold (λ ts t. put_trigger t ts) T.triggers (map (recovery_trigger groups job_groups) fs) })
valid-recoveries T groups job_groups [] valid each ordered room = valid
valid-recoveries T groups job_groups (f ∷ fs) valid each ordered room =
    let few : length T.triggers + 1 ≤ TRIGGER_LIMIT = omega arith in
    let U : SchedulerTables = record T { triggers = put_trigger (recovery_trigger groups job_groups f) T.triggers } in
    valid-recoveries U groups job_groups fs (valid-added T groups job_groups f valid each.0 few)
    (All-both (IsRecoverable T) (λ g. f.entry < g.entry) (IsRecoverable U) fs (still T groups job_groups f valid each.0 few) each.1 (later f.entry fs ordered.0))
    ordered.1 (omega (arith, length-put_trigger (recovery_trigger groups job_groups f) T.triggers))

-- The executions of a member that has no acquired rows, once they have ended.
module _ (T : SchedulerTables) (me : MemberData) (valid : TablesValid T) (begun : AllByRecursion (λ f. (is_acquired f.state && is_of me f) ≡ false) T.fired) where
  abbrev U : SchedulerTables
  U = after_ends T me valid begun

  executing_time : (f : FiredData) (s : FiredState) → is_acquired s ≡ false → HasTimes T.horizon f s → IsMoment T.horizon f.scheduled
  executing_time f row.Acquired executes times = absurd (cc)
  executing_time f row.Executing executes times = times.0

  module _ (f : FiredData) (found : fired_of f.entry T.fired ≡ Some f) (executes : is_acquired f.state ≡ false) (mine : is_of me f ≡ true) where
    gone : fired_of f.entry U.fired ≡ None
    gone = fired_of-none f.entry U.fired
        (All-left (λ g. (f.entry == g.entry) ≡ true → g ≡ f) (λ g. (f.entry == g.entry) ≡ false) (is_of me) T.fired (only_fired f.entry f T.fired valid.references_and_limits.ordered.fired found)
        (λ g away same. false_from_ne_true (f.entry == g.entry) (λ at. let own : is_of me g ≡ true = ap (is_of me) (same at) ∙ mine in absurd (cc))))

    -- no trigger is named by the number of its row
    unnamed : AllByRecursion (IsNotOf f.entry) T.triggers
    unnamed = All-weaker (HasNumber T) (IsNotOf f.entry) T.triggers
        (λ u has reserved ends.
        let own = has reserved in
        let was : IsNumbered T u own.0 = own.1 in
        let below : f.entry < T.next_entry = All-fired_of (λ g. g.entry < T.next_entry) f.entry f T.fired valid.fresh.fired found in
        let limit = valid.references_and_limits.limits.next_entry in
        let same : own.0 ≡ f.entry = one_number u.spec.key.name own.0 f.entry (omega (arith, was.below, limit)) (omega (arith, below, limit)) was.named ends in
        let none : fired_of f.entry T.fired ≡ None = subst (λ n. fired_of n T.fired ≡ None) same was.no_row in
        absurd (cc)) valid.fresh.added

    -- an execution that excluded others was alone
    idle_after : is_busy f.job U.fired ≡ false
    unfolding is_busy is_exclusive_of
    idle_after = elim f.no_concurrent as (λ b. f.no_concurrent ≡ b → is_busy f.job U.fired ≡ false) [
      | true ↦ λ alone.
          let counted : (is_of me f && is_exclusive_of f.job f) ≡ true =
          and_from (is_of me f) (is_exclusive_of f.job f) mine
          (and_from (not (is_acquired f.state) && f.no_concurrent) (same_key f.job f.job) (and_from (not (is_acquired f.state)) f.no_concurrent (ap not executes) alone) (same_key_laws.refl f.job)) in
          idle_then T me valid begun f.job (excluded_by T me valid begun f.job ∙ some_counted (λ g. is_of me g && is_exclusive_of f.job g) f.entry f T.fired found counted)
      | false ↦ λ together.
          let flags : AllByRecursion (HasFlag f.job f.no_concurrent) T.fired = All-fired_of (AgreesWithRows T.fired) f.entry f T.fired valid.concurrency_agrees.with_rows found executes in
          any_none (is_exclusive_of f.job) U.fired
          (All-left (HasFlag f.job f.no_concurrent) (λ g. is_exclusive_of f.job g ≡ false) (is_of me) T.fired flags
          (λ g away flag. false_from_ne_true (is_exclusive_of f.job g) (λ is.
          let parts = and_parts (not (is_acquired g.state) && g.no_concurrent) (same_key f.job g.job) is in
          let more = and_parts (not (is_acquired g.state)) g.no_concurrent parts.0 in
          let own : g.no_concurrent ≡ false = flag (not-true (is_acquired g.state) more.0) parts.1 ∙ together in
          let one = more.1 in
          absurd (cc))))
    ] refl

    recoverable : IsSome (job_of f.job T.jobs) → IsRecoverable U f
    recoverable stored = record {
      job = stored;
      below = All-fired_of (λ g. g.entry < T.next_entry) f.entry f T.fired valid.fresh.fired found;
      no_row = gone;
      unused = with_same T me valid begun (IsNotOf f.entry) (λ t is. is) unnamed;
      idle = idle_after;
      time = executing_time f f.state executes (All-fired_of (HasRowTimes T.horizon) f.entry f T.fired valid.row_times.rows found);
    }

  pub all_recoverable : AllByRecursion (IsRecoverable U) (filter (asks T.jobs) (lost_of me T.fired))
  unfolding lost_of asks
  all_recoverable =
      All-filter (IsRecoverable U) (asks T.jobs) (filter (λ f. not (is_acquired f.state) && is_of me f) T.fired)
      (All-filter (λ f. asks T.jobs f ≡ true → IsRecoverable U f) (λ f. not (is_acquired f.state) && is_of me f) T.fired
      (All-weaker (λ f. fired_of f.entry T.fired ≡ Some f) (λ f. (not (is_acquired f.state) && is_of me f) ≡ true → asks T.jobs f ≡ true → IsRecoverable U f) T.fired
      (λ f found is wants.
      let parts = and_parts (not (is_acquired f.state)) (is_of me f) is in
      recoverable f found (not-true (is_acquired f.state) parts.0) parts.1 (and_parts f.requests_recovery (is_some (job_of f.job T.jobs)) wants).1)
      (each_fired T.fired valid.references_and_limits.ordered.fired)))
