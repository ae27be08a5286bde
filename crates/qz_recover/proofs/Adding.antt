-- The keys of recovery triggers are new.
use Rattle.std.proofs.Common.{◌≡◌, ℕ, ◌<◌, ◌^◌, true, false, not, ◌&&◌, List, [], ◌∷◌, ◌++◌, codes, fold, map, filter, Some, None, refl, subst, arith}
use Rattle.std.proofs.Math.Logic.{∥∥₁_elim}
use Rattle.std.proofs.Props.{props}
use Rattle.std.specs.List.{AllByRecursion, AllByRecursion-prop}
use Rattle.std.specs.Ordering.{nat_cmp}
use Rattle.std.proofs.lemmas.Bool.{false_from_ne_true}
use Rattle.std.proofs.lemmas.Cmp.{nat_cmp_total}
use Rattle.qz_types.specs.Rows.{TriggerData, MemberData, FiredData}
use Rattle.qz_types.specs.Sorted.{IsAscending}
use Rattle.qz_types.specs.declared.triggers.TriggerState.TheVariants.{Waiting}
use Rattle.qz_types.specs.Changes.{in_state, with_state, with_states}
use Rattle.qz_types.specs.States.{is_acquired, unblocked}
use Rattle.qz_types.specs.Tables.{SchedulerTables}
use Rattle.qz_types.specs.Words.{key_cmp, same_text, same_key, fired_of, put_trigger}
use Rattle.qz_model.specs.Invariant.{EndsIn, IsNumbered, TablesValid}
use Rattle.qz_model.specs.Recovery.{has_acquired, has_excluded, lost_of, freed_by, unblocked_by, asks, recovery_trigger, recoveries}
use Rattle.qz_model.specs.Tests.{is_of}
use Rattle.qz_model.specs.Triggers.{is_reserved}
use Rattle.qz_model.proofs.Changes.{HasNumber}
use Rattle.qz_model.proofs.LookUps.{IsAscending-filter}
use Rattle.qz_model.proofs.Numbers.{one_number}
use Rattle.qz_model.proofs.RecoveryTriggers.{IsNotOf}
use Rattle.qz_model.proofs.RowLaws.{same_key-exact, trigger_of-none, ordered-put_trigger, All-put_trigger, each_fired}
use Rattle.qz_model.proofs.RowPoints.{All-weaker, All-both, All-filter, All-changed}
use Rattle.qz_model.proofs.StateLaws.{ordered-with_states}
use Rattle.qz_recover.specs.Rows.{AreNew}
use Rattle.qz_recover.proofs.Walk.{under}
use Rattle.qz_recover.proofs.Facts.{fired_ordered}

-- the number of a row names no trigger among these
record IsUnused (ts : List TriggerData) (f : FiredData) : Type 0 where
  small : f.entry < 2 ^ 64
  unused : AllByRecursion (IsNotOf f.entry) ts

-- the recovery trigger has no key of these
key_unused : (groups job_groups : List (List ℕ)) (ts : List TriggerData) (f : FiredData) → IsUnused ts f → AllByRecursion (λ u. same_key (recovery_trigger groups job_groups f).spec.key u.spec.key ≡ false) ts
unfolding recovery_trigger is_reserved same_text
key_unused groups job_groups ts f is =
    All-weaker (IsNotOf f.entry) (λ u. same_key (recovery_trigger groups job_groups f).spec.key u.spec.key ≡ false) ts
    (λ u other. false_from_ne_true (same_key (recovery_trigger groups job_groups f).spec.key u.spec.key) (λ alike.
    let same = same_key-exact (recovery_trigger groups job_groups f).spec.key u.spec.key alike in
    other (subst (λ k. is_reserved k.group ≡ true) same refl) (subst (λ k. EndsIn k.name f.entry) same (codes "recover_" ++ f.node, refl)))) is.unused

-- a row of a greater number stays unused
later_unused : (groups job_groups : List (List ℕ)) (ts : List TriggerData) (f g : FiredData) → IsUnused ts f → IsUnused ts g → f.entry < g.entry → IsUnused (put_trigger (recovery_trigger groups job_groups f) ts) g
unfolding recovery_trigger
later_unused groups job_groups ts f g one other less = record {
  small = other.small;
  unused = All-put_trigger (IsNotOf g.entry) (recovery_trigger groups job_groups f) ts
      (λ reserved ends.
      let same : f.entry ≡ g.entry = one_number (recovery_trigger groups job_groups f).spec.key.name f.entry g.entry one.small other.small (codes "recover_" ++ f.node, refl) ends in
      omega arith) other.unused;
}

each_new : (groups job_groups : List (List ℕ)) (ts : List TriggerData) (fs : List FiredData) → IsAscending nat_cmp (λ r. r.entry) fs → AllByRecursion (IsUnused ts) fs → AreNew ts (map (recovery_trigger groups job_groups) fs)
each_new groups job_groups ts [] ordered each = tt
each_new groups job_groups ts (f ∷ fs) ordered each = (
  trigger_of-none (recovery_trigger groups job_groups f).spec.key ts (key_unused groups job_groups ts f each.0),
  each_new groups job_groups (put_trigger (recovery_trigger groups job_groups f) ts) fs ordered.1
      (All-both (IsUnused ts) (λ g. f.entry < g.entry) (IsUnused (put_trigger (recovery_trigger groups job_groups f) ts)) fs (λ g is less. later_unused groups job_groups ts f g each.0 is less) each.1 (under f.entry fs ordered.0)),
)

module _ (T : SchedulerTables) (member : MemberData) (valid : ∥ TablesValid T ∥₁) where
  -- the triggers before the recovery triggers come in
  abbrev pub triggers_free : List TriggerData
  triggers_free = unblocked_by (lost_of member T.fired) (freed_by member T.fired T.triggers)

  -- what holds of triggers whatever their states are
  free_alike : (P : TriggerData → Type 0) → ((t : TriggerData) → P t → P (in_state Waiting t)) → ((t : TriggerData) → P t → P (with_state unblocked t)) → AllByRecursion P T.triggers → AllByRecursion P triggers_free
  unfolding unblocked_by freed_by
  free_alike P waits free all =
      All-changed P P (λ t. has_excluded (lost_of member T.fired) t.spec.job) (with_state unblocked) (freed_by member T.fired T.triggers)
      (All-changed P P (λ t. has_acquired member T.fired t.spec.key) (in_state Waiting) T.triggers all (λ t _ is. waits t is) (λ t _ is. is)) (λ t _ is. free t is) (λ t _ is. is)

  -- no trigger is named by the number of a row
  unused_by : AllByRecursion (λ f. (f.entry < 2 ^ 64) × AllByRecursion (IsNotOf f.entry) T.triggers) T.fired
  unused_by = ∥∥₁_elim valid (AllByRecursion-prop _ (λ f. hlevel (props, AllByRecursion-prop (IsNotOf f.entry) (λ u. hlevel props) T.triggers)) T.fired) (λ is.
      let limit = is.references_and_limits.limits.next_entry in
      All-both (λ f. f.entry < T.next_entry) (λ f. fired_of f.entry T.fired ≡ Some f) (λ f. (f.entry < 2 ^ 64) × AllByRecursion (IsNotOf f.entry) T.triggers) T.fired
      (λ f below found. (
        omega (arith, below, limit),
        All-weaker (HasNumber T) (IsNotOf f.entry) T.triggers
            (λ u has reserved ends.
            let own = has reserved in
            let was : IsNumbered T u own.0 = own.1 in
            let same : own.0 ≡ f.entry = one_number u.spec.key.name own.0 f.entry (omega (arith, was.below, limit)) (omega (arith, below, limit)) was.named ends in
            let none : fired_of f.entry T.fired ≡ None = subst (λ n. fired_of n T.fired ≡ None) same was.no_row in
            absurd (cc)) is.fresh.added,
      )) is.fresh.fired (each_fired T.fired is.references_and_limits.ordered.fired))

  pub new_recoveries : AreNew triggers_free (recoveries T member)
  unfolding recoveries lost_of
  new_recoveries =
      each_new T.paused_groups T.paused_job_groups triggers_free (filter (asks T.jobs) (lost_of member T.fired))
      (IsAscending-filter nat_cmp (λ r. r.entry) nat_cmp_total (asks T.jobs) (lost_of member T.fired)
      (IsAscending-filter nat_cmp (λ r. r.entry) nat_cmp_total (λ f. not (is_acquired f.state) && is_of member f) T.fired (fired_ordered T valid)))
      (All-filter (IsUnused triggers_free) (asks T.jobs) (lost_of member T.fired)
      (All-filter (λ f. asks T.jobs f ≡ true → IsUnused triggers_free f) (λ f. not (is_acquired f.state) && is_of member f) T.fired
      (All-weaker (λ f. (f.entry < 2 ^ 64) × AllByRecursion (IsNotOf f.entry) T.triggers) (λ f. (not (is_acquired f.state) && is_of member f) ≡ true → asks T.jobs f ≡ true → IsUnused triggers_free f) T.fired
      (λ f is _ _. record { small = is.0; unused = free_alike (IsNotOf f.entry) (λ t no. no) (λ t no. no) is.1 }) unused_by)))

  pub ordered_free : IsAscending key_cmp (λ r. r.spec.key) T.triggers → IsAscending key_cmp (λ r. r.spec.key) triggers_free
  unfolding unblocked_by freed_by with_states
  ordered_free ordered =
      ordered-with_states unblocked (λ t. has_excluded (lost_of member T.fired) t.spec.job) (freed_by member T.fired T.triggers)
      (ordered-with_states (λ s. Waiting) (λ t. has_acquired member T.fired t.spec.key) T.triggers ordered)

-- triggers of new keys are stored in order
pub ordered_added : (ts added : List TriggerData) → AreNew ts added → IsAscending key_cmp (λ r. r.spec.key) ts → IsAscending key_cmp (λ r. r.spec.key) (fold (λ us t. put_trigger t us) ts added)
ordered_added ts [] new ordered = ordered
ordered_added ts (t ∷ added) new ordered = ordered_added (put_trigger t ts) added new.1 (ordered-put_trigger t ts ordered new.0)
