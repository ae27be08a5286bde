-- That tables are valid is known in one way at most, so that what is only known to be so can be taken apart.
use Rattle.std.proofs.Common.{◌≡◌, inl, inr, ℕ, ◌<◌, ◌≤◌, ◌^◌, ℤ, ◌≤ℤ◌, true, false, List, [], ◌∷◌, ◌++◌, refl, sym, ap, subst, ◌∙◌, arith}
use Rattle.std.proofs.Math.Logic.{∥∥₁_elim}
use Rattle.std.proofs.Math.Path.{Σ_path}
use Rattle.std.proofs.Props.{props}
use Rattle.std.proofs.lemmas.List.{append_cancel_right}
use Rattle.std.specs.Prelude.{Option, Some, None, IfSome}
use Rattle.std.specs.Option.{IsSomeAnd, IsSomeAnd-prop}
use Rattle.std.specs.List.{AllByRecursion, AllByRecursion-prop}
use Rattle.std.specs.Fmt.{decimal}
use Rattle.std.specs.Ordering.{int_eq, nat_cmp}
use Rattle.std.specs.declared.cmp.Ordering.{Ordering}
use mathlib.Core.HLevel.{is_prop→PathP}
use Rattle.qz_civil.specs.declared.limits.TheConstants.{LAST, VERSION_ONE_LAST}
use Rattle.qz_types.specs.Rows.{TriggerData, FiredData}
use Rattle.qz_types.specs.Sorted.{IsBefore, IsAscending}
use Rattle.qz_types.specs.Tables.{SchedulerTables, IsMoment}
use Rattle.qz_types.specs.Words.{key_cmp, text_cmp, trigger_of, member_of, fired_of}
use Rattle.qz_types.specs.declared.fired.FiredState.{FiredState}
use Rattle.qz_types.specs.declared.fired.FiredState.TheVariants as row
use Rattle.qz_types.specs.declared.limits.TheConstants.{NUMBER_LIMIT}
use Rattle.qz_model.specs.Invariant.{AreOrdered, AreStored, AreWithinLimits, AcquiredMatch, RowsOfMembers, AreFresh, TablesValid, HasFlag, IsHorizon, IsRowOf, EndsIn, IsNumbered, HasTimes}
use Rattle.qz_model.specs.Plan.{zone_named_by}
use Rattle.qz_model.specs.Triggers.{is_reserved}
use Rattle.qz_model.proofs.Numbers.{one_number}

if_some : {A : Type 0} (o : Option A) (P : A → Type 0) → ((x : A) → IsProp (P x)) → IsProp (IfSome o P)
if_some None P each = hlevel props
if_some (Some x) P each = each x

is_before : {R K : Type 0} (cmp : K → K → Ordering) (id : R → K) (k : K) (xs : List R) → IsProp (IsBefore cmp id k xs)
is_before cmp id k [] = hlevel props
is_before cmp id k (x ∷ xs) = λ p q i. (less p.0 q.0 i, is_before cmp id k xs p.1 q.1 i)
  where
    less : IsProp (cmp k (id x) ≡ Rattle.std.specs.declared.cmp.Ordering.TheVariants.Less)
    less = hlevel props

is_ascending : {R K : Type 0} (cmp : K → K → Ordering) (id : R → K) (xs : List R) → IsProp (IsAscending cmp id xs)
is_ascending cmp id [] = hlevel props
is_ascending cmp id (x ∷ xs) = λ p q i. (is_before cmp id (id x) xs p.0 q.0 i, is_ascending cmp id xs p.1 q.1 i)

apart : VERSION_ONE_LAST ≡ LAST → ⊥
apart same =
    let yes : int_eq VERSION_ONE_LAST LAST ≡ true = subst (λ (h : ℤ). int_eq VERSION_ONE_LAST h ≡ true) same refl in
    let no : int_eq VERSION_ONE_LAST LAST ≡ false = refl in
    let both : true ≡ false = sym yes ∙ no in
    absurd cc

is_horizon : (h : ℤ) → IsProp (IsHorizon h)
is_horizon h (inl p) (inl q) = ap inl (same p q)
  where
    same : IsProp (h ≡ VERSION_ONE_LAST)
    same = hlevel props
is_horizon h (inl p) (inr q) = absurd (apart (sym p ∙ q))
is_horizon h (inr p) (inl q) = absurd (apart (sym q ∙ p))
is_horizon h (inr p) (inr q) = ap inr (same p q)
  where
    same : IsProp (h ≡ LAST)
    same = hlevel props

has_times : (horizon : ℤ) (f : FiredData) (s : FiredState) → IsProp (HasTimes horizon f s)
has_times horizon f row.Acquired = hlevel props
has_times horizon f row.Executing = λ p q i. (moment p.0 q.0 i, IsSomeAnd-prop f.fired (λ m. f.scheduled ≤ℤ m) (λ m. hlevel props) p.1 q.1 i)
  where
    moment : IsProp (IsMoment horizon f.scheduled)
    moment = hlevel props

is_row : (f : FiredData) (t : TriggerData) → IsProp (IsRowOf f t)
is_row f t p q = λ i. record { state = state p.state q.state i; job = job p.job q.job i; next = next p.next q.next i }
  where
    state : IsProp (t.state ≡ Rattle.qz_types.specs.declared.triggers.TriggerState.TheVariants.Acquired)
    state = hlevel props

    job : IsProp (t.spec.job ≡ f.job)
    job = hlevel props

    next : IsProp (t.next ≡ Some f.scheduled)
    next = hlevel props

ends_in : (name : List ℕ) (n : ℕ) → IsProp (EndsIn name n)
ends_in name n p q =
    let same : p.0 ≡ q.0 = append_cancel_right p.0 q.0 (95 ∷ decimal n) (sym p.1 ∙ q.1) in
    Σ_path same (is_prop→PathP (λ i. name ≡ same i ++ 95 ∷ decimal n) (λ i. named (same i)) p.1 q.1)
  where
    named : (front : List ℕ) → IsProp (name ≡ front ++ 95 ∷ decimal n)
    named front = hlevel props

below_limit : (n next : ℕ) → n < next → next ≤ NUMBER_LIMIT → n < 2 ^ 64
below_limit n next lt le = omega arith

module _ (T : SchedulerTables) where
  is_numbered : (t : TriggerData) (n : ℕ) → IsProp (IsNumbered T t n)
  is_numbered t n p q = λ i. record {
    named = ends_in t.spec.key.name n p.named q.named i;
    below = below p.below q.below i;
    no_row = no_row p.no_row q.no_row i;
    alone = alone p.alone q.alone i;
  }
    where
      below : IsProp (n < T.next_entry)
      below = hlevel props

      no_row : IsProp (fired_of n T.fired ≡ None)
      no_row = hlevel props

      alone : IsProp (AllByRecursion (λ u. is_reserved u.spec.key.group ≡ true → EndsIn u.spec.key.name n → u.spec.key ≡ t.spec.key) T.triggers)
      alone = AllByRecursion-prop (λ u. is_reserved u.spec.key.group ≡ true → EndsIn u.spec.key.name n → u.spec.key ≡ t.spec.key) (λ u. hlevel props) T.triggers

  one_number_of : (t : TriggerData) → T.next_entry ≤ NUMBER_LIMIT → IsProp ((n : ℕ) × IsNumbered T t n)
  one_number_of t limit p q =
      let same : p.0 ≡ q.0 = one_number t.spec.key.name p.0 q.0 (below_limit p.0 T.next_entry p.1.below limit) (below_limit q.0 T.next_entry q.1.below limit) p.1.named q.1.named in
      Σ_path same (is_prop→PathP (λ i. IsNumbered T t (same i)) (λ i. is_numbered t (same i)) p.1 q.1)

  module _ (v : ∥ TablesValid T ∥₁) where
    of : {P : Type 0} → IsProp P → (TablesValid T → P) → P
    of prop f = ∥∥₁_elim v prop f

    each : {R : Type 0} {P : R → Type 0} (xs : List R) → ((x : R) → IsProp (P x)) → (TablesValid T → AllByRecursion P xs) → AllByRecursion P xs
    each {R} {P} xs prop f = of (AllByRecursion-prop P prop xs) f

    ordered : AreOrdered T
    ordered = record {
      jobs = of (is_ascending key_cmp (λ r. r.key) T.jobs) (λ t. t.references_and_limits.ordered.jobs);
      triggers = of (is_ascending key_cmp (λ r. r.spec.key) T.triggers) (λ t. t.references_and_limits.ordered.triggers);
      calendars = of (is_ascending text_cmp (λ r. r.name) T.calendars) (λ t. t.references_and_limits.ordered.calendars);
      zones = of (is_ascending text_cmp (λ r. r.name) T.zones) (λ t. t.references_and_limits.ordered.zones);
      paused_groups = of (is_ascending text_cmp (λ r. r) T.paused_groups) (λ t. t.references_and_limits.ordered.paused_groups);
      paused_job_groups = of (is_ascending text_cmp (λ r. r) T.paused_job_groups) (λ t. t.references_and_limits.ordered.paused_job_groups);
      members = of (is_ascending text_cmp (λ r. r.node) T.members) (λ t. t.references_and_limits.ordered.members);
      fired = of (is_ascending nat_cmp (λ r. r.entry) T.fired) (λ t. t.references_and_limits.ordered.fired);
    }

    stored : AreStored T.jobs T.triggers T.calendars T.zones
    stored = record {
      trigger_jobs = each T.triggers (λ t. hlevel props) (λ t. t.references_and_limits.stored.trigger_jobs);
      trigger_calendars = each T.triggers (λ t. if_some t.spec.calendar _ (λ name. hlevel props)) (λ t. t.references_and_limits.stored.trigger_calendars);
      trigger_zones = each T.triggers (λ t. if_some (zone_named_by t.spec.timing.kind) _ (λ name. hlevel props)) (λ t. t.references_and_limits.stored.trigger_zones);
      bases = each T.calendars (λ c. if_some c.base _ (λ name. hlevel props)) (λ t. t.references_and_limits.stored.bases);
      calendar_zones = each T.calendars (λ c. hlevel props) (λ t. t.references_and_limits.stored.calendar_zones);
      chains = each T.calendars (λ c. hlevel props) (λ t. t.references_and_limits.stored.chains);
    }

    limits : AreWithinLimits T
    limits = record {
      jobs = of (hlevel props) (λ t. t.references_and_limits.limits.jobs);
      triggers = of (hlevel props) (λ t. t.references_and_limits.limits.triggers);
      calendars = of (hlevel props) (λ t. t.references_and_limits.limits.calendars);
      zones = of (hlevel props) (λ t. t.references_and_limits.limits.zones);
      paused_groups = of (hlevel props) (λ t. t.references_and_limits.limits.paused_groups);
      paused_job_groups = of (hlevel props) (λ t. t.references_and_limits.limits.paused_job_groups);
      members = of (hlevel props) (λ t. t.references_and_limits.limits.members);
      fired = of (hlevel props) (λ t. t.references_and_limits.limits.fired);
      next_entry = of (hlevel props) (λ t. t.references_and_limits.limits.next_entry);
      next_epoch = of (hlevel props) (λ t. t.references_and_limits.limits.next_epoch);
      threshold = of (hlevel props) (λ t. t.references_and_limits.limits.threshold);
      horizon = of (is_horizon T.horizon) (λ t. t.references_and_limits.limits.horizon);
      group_names = each T.paused_groups (λ g. hlevel props) (λ t. t.references_and_limits.limits.group_names);
      job_group_names = each T.paused_job_groups (λ g. hlevel props) (λ t. t.references_and_limits.limits.job_group_names);
    }

    acquired : AcquiredMatch T.triggers T.fired
    acquired = record {
      one_row = each T.triggers (λ t. hlevel props) (λ t. t.acquired_match.one_row);
      a_trigger = each T.fired (λ f p q i is. IsSomeAnd-prop (trigger_of f.trigger T.triggers) (IsRowOf f) (is_row f) (p is) (q is) i) (λ t. t.acquired_match.a_trigger);
    }

    members : RowsOfMembers T.members T.next_epoch T.fired
    members = record {
      given = each T.members (λ m. hlevel props) (λ t. t.rows_of_members.given);
      distinct = each T.members (λ m. AllByRecursion-prop _ (λ n. hlevel props) T.members) (λ t. t.rows_of_members.distinct);
      rows = each T.fired (λ f. IsSomeAnd-prop (member_of f.node T.members) _ (λ m. hlevel props)) (λ t. t.rows_of_members.rows);
    }

    fresh : AreFresh T
    fresh = record {
      fired = each T.fired (λ f. hlevel props) (λ t. t.fresh.fired);
      added = each T.triggers (λ t p q i is. one_number_of t limits.next_entry (p is) (q is) i) (λ t. t.fresh.added);
    }

    pub tables_are_valid : TablesValid T
    tables_are_valid = record {
      references_and_limits = record { ordered = ordered; stored = stored; limits = limits };
      acquired_match = acquired;
      concurrency_agrees = record {
        with_rows = each T.fired (λ f p q i is. AllByRecursion-prop (HasFlag f.job f.no_concurrent) (λ x. hlevel props) T.fired (p is) (q is) i) (λ t. t.concurrency_agrees.with_rows);
        with_jobs = each T.jobs (λ j. AllByRecursion-prop (HasFlag j.key j.no_concurrent) (λ x. hlevel props) T.fired) (λ t. t.concurrency_agrees.with_jobs);
      };
      one_exclusive = record {
        one = of (hlevel props) (λ t. t.one_exclusive.one);
        blocked = each T.triggers (λ t. hlevel props) (λ t. t.one_exclusive.blocked);
      };
      blocked_are_busy = record { busy = each T.triggers (λ t. hlevel props) (λ t. t.blocked_are_busy.busy) };
      rows_of_members = members;
      next_times = record {
        next = each T.triggers (λ t. hlevel props) (λ t. t.next_times.next);
        within = each T.triggers (λ t. if_some t.next _ (λ m. hlevel props)) (λ t. t.next_times.within);
        moment = of (hlevel props) (λ t. t.next_times.moment);
      };
      fresh = fresh;
      row_times = record { rows = each T.fired (λ f. has_times T.horizon f f.state) (λ t. t.row_times.rows) };
    }
