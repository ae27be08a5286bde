-- The triggers that are added where a member is recovered: one for each of its executions that asked.
use Rattle.std.proofs.Common.{◌≡◌, ℕ, ◌+◌, ◌<◌, ◌^◌, ◌==◌, Bool, true, false, cond, not, ◌&&◌, ◌||◌, List, [], ◌∷◌, fold, map, filter, count_by, Option, Some, None, is_some, is_none, codes, refl, sym, ap, ◌∙◌, subst, arith}
use Rattle.std.specs.List.{AllByRecursion, list_any}
use Rattle.std.proofs.lemmas.Bool.{and_from, and_left, and_right, eqb-true}
use Rattle.qz_types.specs.Rows.{TriggerData, MemberData, FiredData}
use Rattle.qz_types.specs.Changes.{with_state}
use Rattle.qz_types.specs.States.{first_state, unblocked}
use Rattle.qz_types.specs.Tables.{SchedulerTables}
use Rattle.qz_types.specs.Words.{key_cmp, same_key, trigger_of, put_trigger, fired_of, is_paused}
use Rattle.qz_model.specs.Completing.{is_complete, is_finished}
use Rattle.qz_model.specs.Invariant.{IsNumbered, TablesValid}
use Rattle.qz_model.specs.Recovery.{lost_of, rows_of_others, freed_by, has_excluded, unblocked_by, asks, recovery_trigger, recoveries, has_finished, triggers_added, triggers_left}
use Rattle.qz_model.specs.Tests.{is_row_of_trigger}
use Rattle.qz_model.proofs.Changes.{HasNumber}
use Rattle.qz_model.proofs.Numbers.{one_number}
use Rattle.qz_model.proofs.RecoveryTriggers.{IsNotOf, no_such}
use Rattle.qz_model.proofs.RowLaws.{All-put_trigger, trigger_of-none, All-fired_of}
use Rattle.qz_model.proofs.RowPoints.{All-filter, All-left, All-from, All-weaker, All-changed, count_by-put, count_by-cons, count_by-none, count_by-filter}
use Rattle.qz_laws.specs.Losses.{IsFor, lost_as, is_recovery, added}
use Rattle.qz_laws.proofs.Counts.{count_by-both, count_by-same, count_by-mapped, All-mapped}
use Rattle.qz_laws.proofs.Facts.{asked_for}
use Rattle.qz_laws.proofs.Names.{recovery_of_its_number}
use Rattle.qz_laws.proofs.Quiet.{WasStored, were_stored, none_new}
use Rattle.qz_laws.proofs.QuietChanges.{stored-freed_by}

-- Triggers that are stored one after the other.

count_put : (p : TriggerData → Bool) (t : TriggerData) (rows : List TriggerData) → count_by p (put_trigger t rows) ≡ cond (p t) 1 0 + count_by p rows
unfolding put_trigger
count_put p t rows = count_by-put key_cmp (λ r. r.spec.key) p t rows

count_all_put : (p : TriggerData → Bool) (rows new : List TriggerData) → count_by p (fold (λ ts t. put_trigger t ts) rows new) ≡ count_by p rows + count_by p new
count_all_put p rows [] = omega arith
count_all_put p rows (t ∷ new) = omega (arith, count_all_put p (put_trigger t rows) new, count_put p t rows, count_by-cons p t new)

All-all_put : (P : TriggerData → Type 0) (rows new : List TriggerData) → AllByRecursion P rows → AllByRecursion P new → AllByRecursion P (fold (λ ts t. put_trigger t ts) rows new)
All-all_put P rows [] old all = old
All-all_put P rows (t ∷ new) old all = All-all_put P (put_trigger t rows) new (All-put_trigger P t rows all.0 old) all.1

-- A recovery is no finished trigger.

not_complete : (paused busy : Bool) → is_complete (first_state paused busy) ≡ false
not_complete false false = refl
not_complete true false = refl
not_complete false true = refl
not_complete true true = refl

not_finished : (lost left : List FiredData) (groups job_groups : List (List ℕ)) (f : FiredData) → has_finished lost left (recovery_trigger groups job_groups f) ≡ false
unfolding is_finished recovery_trigger
not_finished lost left groups job_groups f =
    let t : TriggerData = recovery_trigger groups job_groups f in
    and_right (list_any (is_row_of_trigger t.spec.key) lost) (is_finished left t)
    (and_left (is_complete t.state && is_none t.next) (not (list_any (is_row_of_trigger t.spec.key) left)) (and_left (is_complete t.state) (is_none t.next) (not_complete (is_paused (codes "RECOVERING_JOBS") groups || is_paused f.job.group job_groups) false)))

module _ (T : SchedulerTables) (member : MemberData) (valid : TablesValid T) (number : ℕ) (small : number < 2 ^ 64) where
  abbrev lost : List FiredData
  lost = lost_of member T.fired

  abbrev left : List FiredData
  left = rows_of_others member T.fired

  abbrev old : List TriggerData
  old = unblocked_by lost (freed_by member T.fired T.triggers)

  -- the trigger is a recovery of this number, and new
  abbrev counts : TriggerData → Bool
  counts t = not (is_some (trigger_of t.spec.key T.triggers)) && is_recovery number t

  abbrev trigger_for : FiredData → TriggerData
  trigger_for f = recovery_trigger T.paused_groups T.paused_job_groups f

  stored_old : AllByRecursion (WasStored T) old
  unfolding unblocked_by
  stored_old =
      All-changed (WasStored T) (WasStored T) (λ t. has_excluded lost t.spec.job) (with_state unblocked) (freed_by member T.fired T.triggers)
      (stored-freed_by T member T.fired T.triggers (were_stored T valid)) (λ t changed was. was) (λ t kept was. was)

  none_old : AllByRecursion (λ t. counts t ≡ false) old
  none_old = All-weaker (WasStored T) (λ t. counts t ≡ false) old (none_new T number) stored_old

  -- no finished trigger is counted
  live_new : AllByRecursion (λ t. not (has_finished lost left t) ≡ false → counts t ≡ false) (recoveries T member)
  unfolding recoveries
  live_new =
      All-mapped (λ t. not (has_finished lost left t) ≡ false → counts t ≡ false) trigger_for (filter (asks T.jobs) lost)
      (All-from (λ f. not (has_finished lost left (trigger_for f)) ≡ false → counts (trigger_for f) ≡ false) (filter (asks T.jobs) lost)
      (λ f ended. let live = not_finished lost left T.paused_groups T.paused_job_groups f in absurd (cc)))

  live_added : AllByRecursion (λ t. not (has_finished lost left t) ≡ false → counts t ≡ false) (triggers_added T member)
  unfolding triggers_added
  live_added =
      All-all_put (λ t. not (has_finished lost left t) ≡ false → counts t ≡ false) old (recoveries T member)
      (All-weaker (λ t. counts t ≡ false) (λ t. not (has_finished lost left t) ≡ false → counts t ≡ false) old (λ t none ended. none) none_old) live_new

  count_left : count_by counts (triggers_left T member) ≡ count_by counts (recoveries T member)
  unfolding triggers_left triggers_added
  count_left =
      count_by-filter counts (λ t. not (has_finished lost left t)) (triggers_added T member) live_added
      ∙ count_all_put counts old (recoveries T member)
      ∙ omega (arith, count_by-none counts old none_old)

  -- no stored trigger has the number of a row that stands
  unnamed : (f : FiredData) → fired_of f.entry T.fired ≡ Some f → AllByRecursion (IsNotOf f.entry) T.triggers
  unnamed f found =
      All-weaker (HasNumber T) (IsNotOf f.entry) T.triggers
      (λ u has reserved ends.
      let own = has reserved in
      let was : IsNumbered T u own.0 = own.1 in
      let below : f.entry < T.next_entry = All-fired_of (λ g. g.entry < T.next_entry) f.entry f T.fired valid.fresh.fired found in
      let limit = valid.references_and_limits.limits.next_entry in
      let one : own.0 ≡ f.entry = one_number u.spec.key.name own.0 f.entry (omega (arith, was.below, limit)) (omega (arith, below, limit)) was.named ends in
      let none : fired_of f.entry T.fired ≡ None = subst (λ n. fired_of n T.fired ≡ None) one was.no_row in
      absurd (cc)) valid.fresh.added

  is_counted : (f : FiredData) → fired_of f.entry T.fired ≡ Some f → counts (trigger_for f) ≡ (number == f.entry)
  is_counted f found =
      let absent : trigger_of (trigger_for f).spec.key T.triggers ≡ None =
      trigger_of-none (trigger_for f).spec.key T.triggers (All-weaker (IsNotOf f.entry) (λ u. same_key (trigger_for f).spec.key u.spec.key ≡ false) T.triggers (no_such T.paused_groups T.paused_job_groups f) (unnamed f found)) in
      let below : f.entry < T.next_entry = All-fired_of (λ g. g.entry < T.next_entry) f.entry f T.fired valid.fresh.fired found in
      ap (λ (o : Option TriggerData). not (is_some o) && is_recovery number (trigger_for f)) absent
      ∙ recovery_of_its_number T.paused_groups T.paused_job_groups f number (omega (arith, below, valid.references_and_limits.limits.next_entry)) small

  count_new : AllByRecursion (λ f. fired_of f.entry T.fired ≡ Some f) lost → count_by counts (recoveries T member) ≡ count_by (asked_for number) (map (lost_as T) lost)
  unfolding recoveries asks
  count_new found =
      count_by-mapped counts trigger_for (filter (asks T.jobs) lost)
      ∙ count_by-both (λ f. counts (trigger_for f)) (asks T.jobs) lost
      ∙ count_by-same (λ f. asks T.jobs f && counts (trigger_for f)) (λ f. asked_for number (lost_as T f)) lost
      (All-weaker (λ f. fired_of f.entry T.fired ≡ Some f) (λ f. (asks T.jobs f && counts (trigger_for f)) ≡ asked_for number (lost_as T f)) lost (λ f row. ap (λ b. asks T.jobs f && b) (is_counted f row)) found)
      ∙ sym (count_by-mapped (asked_for number) (lost_as T) lost)

  -- as many recoveries are added as executions asked
  pub recoveries_added : (U : SchedulerTables) → U.triggers ≡ triggers_left T member → AllByRecursion (λ f. fired_of f.entry T.fired ≡ Some f) (lost_of member T.fired)
      → count_by (is_recovery number) (added T U) ≡ count_by (asked_for number) (map (lost_as T) (lost_of member T.fired))
  recoveries_added U triggers found =
      count_by-both (is_recovery number) (λ t. not (is_some (trigger_of t.spec.key T.triggers))) U.triggers
      ∙ ap (count_by counts) triggers
      ∙ count_left ∙ count_new found

  -- the trigger is for an execution of this number
  abbrev IsForIfCounted : FiredData → TriggerData → Type 0
  IsForIfCounted f t = counts t ≡ true → IsFor f t

  new_is_for : (f g : FiredData) → number ≡ f.entry → fired_of f.entry T.fired ≡ Some f → fired_of g.entry T.fired ≡ Some g → IsForIfCounted f (trigger_for g)
  unfolding recovery_trigger
  new_is_for f g own found other counted =
      let same : number ≡ g.entry = eqb-true number g.entry (sym (is_counted g other) ∙ counted) in
      let at : fired_of f.entry T.fired ≡ Some g = subst (λ n. fired_of n T.fired ≡ Some g) (sym same ∙ own) other in
      let one : g ≡ f = cc in
      (ap (λ (h : FiredData). h.job) one, ap (λ (h : FiredData). Some h.scheduled) one)

  each_new_is_for : (f : FiredData) → number ≡ f.entry → fired_of f.entry T.fired ≡ Some f → AllByRecursion (λ g. fired_of g.entry T.fired ≡ Some g) lost → AllByRecursion (IsForIfCounted f) (recoveries T member)
  unfolding recoveries
  each_new_is_for f own found all =
      All-mapped (IsForIfCounted f) trigger_for (filter (asks T.jobs) lost)
      (All-filter (λ g. IsForIfCounted f (trigger_for g)) (asks T.jobs) lost
      (All-weaker (λ g. fired_of g.entry T.fired ≡ Some g) (λ g. asks T.jobs g ≡ true → IsForIfCounted f (trigger_for g)) lost (λ g other wants. new_is_for f g own found other) all))

  each_left_is_for : (f : FiredData) → number ≡ f.entry → fired_of f.entry T.fired ≡ Some f → AllByRecursion (λ g. fired_of g.entry T.fired ≡ Some g) lost → AllByRecursion (IsForIfCounted f) (triggers_left T member)
  unfolding triggers_left triggers_added
  each_left_is_for f own found all =
      All-left (IsForIfCounted f) (IsForIfCounted f) (has_finished (lost_of member T.fired) (rows_of_others member T.fired)) (triggers_added T member)
      (All-all_put (IsForIfCounted f) old (recoveries T member)
      (All-weaker (λ t. counts t ≡ false) (IsForIfCounted f) old (λ t none counted. absurd (cc)) none_old)
      (each_new_is_for f own found all))
      (λ t stays is. is)

  -- each recovery of this number that is added is for its execution
  pub added_are_for : (U : SchedulerTables) → U.triggers ≡ triggers_left T member → AllByRecursion (λ g. fired_of g.entry T.fired ≡ Some g) (lost_of member T.fired) → (f : FiredData) → number ≡ f.entry → fired_of f.entry T.fired ≡ Some f
      → AllByRecursion (λ t. is_recovery number t ≡ true → IsFor f t) (added T U)
  added_are_for U triggers all f own found =
      All-filter (λ t. is_recovery number t ≡ true → IsFor f t) (λ t. not (is_some (trigger_of t.spec.key T.triggers))) U.triggers
      (All-weaker (IsForIfCounted f) (λ t. not (is_some (trigger_of t.spec.key T.triggers)) ≡ true → is_recovery number t ≡ true → IsFor f t) U.triggers
      (λ t for_it new is. for_it (and_from (not (is_some (trigger_of t.spec.key T.triggers))) (is_recovery number t) new is))
      (subst (AllByRecursion (IsForIfCounted f)) (sym triggers) (each_left_is_for f own found all)))
