-- Triggers that go one by one, and the jobs that are orphans then: they come to what goes at once.
use Rattle.std.proofs.Common.{◌≡◌, ◌||◌, ◌&&◌, Bool, true, false, not, cond, List, [], ◌∷◌, filter, Option, Some, None, is_none, refl, sym, ap, ◌∙◌, subst, if◌then◌else◌}
use Rattle.std.specs.List.{AllByRecursion, list_any}
use Rattle.std.proofs.Math.Bool.{and-true, and-false}
use Rattle.std.proofs.lemmas.Bool.{and_parts, and_right, and_from, false_from_ne_true, not-true}
use Rattle.qz_types.specs.Rows.{JobData, TriggerData}
use Rattle.qz_types.specs.Sorted.{IsAscending}
use Rattle.qz_types.specs.declared.keys.Key.{Key}
use Rattle.qz_types.specs.Changes.{without_acquired}
use Rattle.qz_types.specs.States.{is_acquired}
use Rattle.qz_types.specs.Tables.{SchedulerTables}
use Rattle.qz_types.specs.Words.{key_cmp, same_key, job_of, trigger_of, without_job, without_trigger}
use Rattle.qz_model.specs.Completing.{is_complete, is_finished, finished}
use Rattle.qz_model.specs.Jobs.{is_orphan, without_orphan, without_orphan_of}
use Rattle.qz_model.specs.Tests.{is_trigger_of, is_row_of_trigger}
use Rattle.qz_model.specs.Triggers.{without_trigger_and_orphan}
use Rattle.qz_model.proofs.LookUps.{none_of_row, IsAscending-filter}
use Rattle.qz_model.proofs.RowLaws.{key_total, same_key_laws, All-trigger_of, trigger_of-key, only_trigger, only_job}
use Rattle.qz_model.proofs.RowPoints.{All-from, All-weaker, All-none, any_none, filter-alike}
use Rattle.qz_apply.proofs.JobLists.{key_of_trigger, key_of_job}
use Rattle.qz_recover.specs.Rows.{has_ended, staying, loses, without_triggers}

-- Lists.

-- all stay where none goes
all_stay : {R : Type 0} (p : R → Bool) (xs : List R) → AllByRecursion (λ x. p x ≡ false) xs → filter (λ x. not (p x)) xs ≡ xs
all_stay p [] none = refl
all_stay p (x ∷ xs) none = rw none.0 (ap (λ ys. x ∷ ys) (all_stay p xs none.1))

-- two filters keep what passes both
filter-both : {R : Type 0} (p q r : R → Bool) (xs : List R) → ((x : R) → (q x && p x) ≡ r x) → filter p (filter q xs) ≡ filter r xs
filter-both p q r [] same = refl
filter-both p q r (x ∷ xs) same = elim (q x) as (λ b. (b && p x) ≡ r x → filter p (cond b (x ∷ filter q xs) (filter q xs)) ≡ cond (r x) (x ∷ filter r xs) (filter r xs)) [
  | true ↦ λ e. rw (sym e) (rw (filter-both p q r xs same) refl)
  | false ↦ λ e. rw (sym e) (filter-both p q r xs same)
] (same x)

any-all_alike : {R : Type 0} (p q : R → Bool) (xs : List R) → AllByRecursion (λ x. p x ≡ q x) xs → list_any p xs ≡ list_any q xs
any-all_alike p q [] same = refl
any-all_alike p q (x ∷ xs) same = rw (same.0, any-all_alike p q xs same.1) refl

any_found : (p : TriggerData → Bool) (k : Key) (t : TriggerData) (rows : List TriggerData) → trigger_of k rows ≡ Some t → p t ≡ true → list_any p rows ≡ true
any_found p k t rows found passes = elim (list_any p rows) as (λ b. list_any p rows ≡ b → b ≡ true) [
  | true ↦ λ e. refl
  | false ↦ λ e. let fails : p t ≡ false = All-trigger_of (λ u. p u ≡ false) k t rows (All-none p rows e) found in absurd (cc)
] refl

-- Triggers go at one step, and then more at the next.

go_both : (a b : Bool) → (not a && not b) ≡ not (a || b)
go_both true b = refl
go_both false b = refl

one_before : (p a b c : Bool) → (a || b) ≡ c → ((p || a) || b) ≡ (p || c)
one_before true a b c e = refl
one_before false a b c e = e

one_after : (p a b c : Bool) → (a || b) ≡ c → (a || (p || b)) ≡ (p || c)
one_after true true b c e = refl
one_after true false b c e = refl
one_after false a b c e = e

-- a job that is an orphan once the triggers of both steps are gone
orphan_before : (durable left lost : Bool) → (not durable && not (left || lost)) ≡ ((not durable && not left) && not lost)
orphan_before true left lost = refl
orphan_before false true lost = refl
orphan_before false false lost = refl

stays_twice : (first next orphan : Bool) → (not (first && (orphan && not next)) && not (next && orphan)) ≡ not ((first || next) && orphan)
stays_twice false next orphan = refl
stays_twice true true true = refl
stays_twice true true false = refl
stays_twice true false true = refl
stays_twice true false false = refl

-- a job has the triggers that stay and those that go
stay_or_go : {R : Type 0} (p goes : R → Bool) (xs : List R) → (list_any p (filter (λ x. not (goes x)) xs) || list_any (λ x. p x && goes x) xs) ≡ list_any p xs
stay_or_go p goes [] = refl
stay_or_go p goes (x ∷ xs) = elim (goes x) as (λ b. (list_any p (cond (not b) (x ∷ filter (λ y. not (goes y)) xs) (filter (λ y. not (goes y)) xs)) || ((p x && b) || list_any (λ y. p y && goes y) xs)) ≡ (p x || list_any p xs)) [
  | true ↦ rw (and-true (p x)) (one_after (p x) _ _ _ (stay_or_go p goes xs))
  | false ↦ rw (and-false (p x)) (one_before (p x) _ _ _ (stay_or_go p goes xs))
]

-- it loses some at one step or at the other
lost_either : {R : Type 0} (p first next : R → Bool) (xs : List R)
    → (list_any (λ x. p x && first x) xs || list_any (λ x. p x && next x) (filter (λ x. not (first x)) xs)) ≡ list_any (λ x. p x && (first x || next x)) xs
lost_either p first next [] = refl
lost_either p first next (x ∷ xs) = elim (first x) as (λ b. (((p x && b) || list_any (λ y. p y && first y) xs) || list_any (λ y. p y && next y) (cond (not b) (x ∷ filter (λ y. not (first y)) xs) (filter (λ y. not (first y)) xs)))
    ≡ ((p x && (b || next x)) || list_any (λ y. p y && (first y || next y)) xs)) [
      | true ↦ one_before (p x && true) _ _ _ (lost_either p first next xs)
      | false ↦ rw (and-false (p x)) (one_after (p x && next x) _ _ _ (lost_either p first next xs))
    ]

module _ (first next : TriggerData → Bool) (T : SchedulerTables) where
  abbrev either : TriggerData → Bool
  either t = first t || next t

  staying_twice : staying next (staying first T.triggers) ≡ staying either T.triggers
  staying_twice = filter-both (λ t. not (next t)) (λ t. not (first t)) (λ t. not (either t)) T.triggers (λ t. go_both (first t) (next t))

  job_stays : (j : JobData) → (not (loses first T.triggers j && is_orphan (staying first T.triggers) j) && not (loses next (staying first T.triggers) j && is_orphan (staying next (staying first T.triggers)) j))
      ≡ not (loses either T.triggers j && is_orphan (staying either T.triggers) j)
  unfolding is_orphan
  job_stays j =
      let a = loses first T.triggers j in
      let b = loses next (staying first T.triggers) j in
      let orphan = is_orphan (staying next (staying first T.triggers)) j in
      let before : is_orphan (staying first T.triggers) j ≡ (orphan && not b) =
      ap (λ x. not j.durable && not x) (sym (stay_or_go (is_trigger_of j.key) next (staying first T.triggers)))
      ∙ orphan_before j.durable (list_any (is_trigger_of j.key) (staying next (staying first T.triggers))) b in
      ap (λ x. not (a && x) && not (b && orphan)) before
      ∙ stays_twice a b orphan
      ∙ ap (λ x. not (x && orphan)) (lost_either (is_trigger_of j.key) first next T.triggers)
      ∙ ap (λ ts. not (loses either T.triggers j && is_orphan ts j)) staying_twice

  -- what goes in two steps goes at once
  pub without_twice : without_triggers next (without_triggers first T) ≡ without_triggers either T
  unfolding without_triggers
  without_twice =
      ap (λ ts. record T { triggers = ts; jobs = filter (λ j. not (loses next (staying first T.triggers) j && is_orphan (staying next (staying first T.triggers)) j)) (filter (λ j. not (loses first T.triggers j && is_orphan (staying first T.triggers) j)) T.jobs) }) staying_twice
      ∙ ap (λ js. record T { triggers = staying either T.triggers; jobs = js })
      (filter-both (λ j. not (loses next (staying first T.triggers) j && is_orphan (staying next (staying first T.triggers)) j)) (λ j. not (loses first T.triggers j && is_orphan (staying first T.triggers) j))
      (λ j. not (loses either T.triggers j && is_orphan (staying either T.triggers) j)) T.jobs job_stays)

-- tests that agree on the triggers
pub without_alike : (p q : TriggerData → Bool) (T : SchedulerTables) → AllByRecursion (λ t. p t ≡ q t) T.triggers → without_triggers p T ≡ without_triggers q T
unfolding without_triggers
without_alike p q T same =
    let ts : staying p T.triggers ≡ staying q T.triggers = filter-alike (λ t. not (p t)) (λ t. not (q t)) T.triggers (All-weaker (λ t. p t ≡ q t) (λ t. not (p t) ≡ not (q t)) T.triggers (λ t e. ap not e) same) in
    let lost : (j : JobData) → loses p T.triggers j ≡ loses q T.triggers j =
    λ j. any-all_alike _ _ T.triggers (All-weaker (λ t. p t ≡ q t) (λ t. (same_key j.key t.spec.job && p t) ≡ (same_key j.key t.spec.job && q t)) T.triggers (λ t e. ap (λ b. same_key j.key t.spec.job && b) e) same) in
    ap (λ xs. record T { triggers = xs; jobs = filter (λ j. not (loses p T.triggers j && is_orphan xs j)) T.jobs }) ts
    ∙ ap (λ js. record T { triggers = staying q T.triggers; jobs = js })
    (filter-alike _ _ T.jobs (All-from (λ j. not (loses p T.triggers j && is_orphan (staying q T.triggers) j) ≡ not (loses q T.triggers j && is_orphan (staying q T.triggers) j)) T.jobs
    (λ j. ap (λ b. not (b && is_orphan (staying q T.triggers) j)) (lost j))))

-- where no trigger goes, all stays
without_none : (p : TriggerData → Bool) (T : SchedulerTables) → AllByRecursion (λ t. p t ≡ false) T.triggers → without_triggers p T ≡ T
unfolding without_triggers
without_none p T none =
    let lost : (j : JobData) → (loses p T.triggers j && is_orphan (staying p T.triggers) j) ≡ false =
    λ j. ap (λ b. b && is_orphan (staying p T.triggers) j) (any_none _ T.triggers (All-weaker (λ t. p t ≡ false) (λ t. (same_key j.key t.spec.job && p t) ≡ false) T.triggers (λ t e. and_right (same_key j.key t.spec.job) (p t) e) none)) in
    ap (λ js. record T { triggers = staying p T.triggers; jobs = js }) (all_stay _ T.jobs (All-from (λ j. (loses p T.triggers j && is_orphan (staying p T.triggers) j) ≡ false) T.jobs lost))
    ∙ ap (λ ts. record T { triggers = ts }) (all_stay p T.triggers none)

-- the order stays
pub ordered_then : (p : TriggerData → Bool) (T : SchedulerTables) → IsAscending key_cmp (λ r. r.spec.key) T.triggers → IsAscending key_cmp (λ r. r.spec.key) (without_triggers p T).triggers
unfolding without_triggers
ordered_then p T ordered = IsAscending-filter key_cmp (λ r. r.spec.key) key_total (λ t. not (p t)) T.triggers ordered

pub ordered_jobs_then : (p : TriggerData → Bool) (T : SchedulerTables) → IsAscending key_cmp (λ r. r.key) T.jobs → IsAscending key_cmp (λ r. r.key) (without_triggers p T).jobs
unfolding without_triggers
ordered_jobs_then p T ordered = IsAscending-filter key_cmp (λ r. r.key) key_total (λ j. not (loses p T.triggers j && is_orphan (staying p T.triggers) j)) T.jobs ordered

alone : (a b : Bool) → (a ≡ true → b ≡ true) → a ≡ (a && b)
alone true b is = sym (is refl)
alone false b is = refl

none_at : (a b : Bool) → (a ≡ true → b ≡ false) → (a && b) ≡ false
none_at true b is = is refl
none_at false b is = refl

-- One job is an orphan.
module _ (key : Key) (left : List TriggerData) (jobs : List JobData) (ordered : IsAscending key_cmp (λ r. r.key) jobs) where
  abbrev goes : JobData → Bool
  goes j = same_key key j.key && is_orphan left j

  orphan_at : (o : Option JobData) → job_of key jobs ≡ o → without_orphan left o jobs ≡ filter (λ j. not (goes j)) jobs
  unfolding job_of without_job same_key
  orphan_at None e =
      sym (all_stay goes jobs (All-weaker (λ j. same_key key j.key ≡ false) (λ j. goes j ≡ false) jobs (λ j differ. ap (λ b. b && is_orphan left j) differ) (none_of_row key_cmp (λ r. r.key) key jobs e)))
  orphan_at (Some i) e =
      let one = only_job key i jobs ordered e in
      let same : key ≡ i.key = key_of_job key i jobs e in
      elim (is_orphan left i) as (λ b. is_orphan left i ≡ b → (if b then without_job i.key jobs else jobs) ≡ filter (λ j. not (goes j)) jobs) [
        | true ↦ λ orphan. filter-alike (λ j. not (same_key i.key j.key)) (λ j. not (goes j)) jobs
            (All-weaker (λ j. same_key key j.key ≡ true → j ≡ i) (λ j. not (same_key i.key j.key) ≡ not (goes j)) jobs
            (λ j at. ap not (ap (λ k. same_key k j.key) (sym same) ∙ alone (same_key key j.key) (is_orphan left j) (λ is. ap (is_orphan left) (at is) ∙ orphan))) one)
        | false ↦ λ kept. sym (all_stay goes jobs
            (All-weaker (λ j. same_key key j.key ≡ true → j ≡ i) (λ j. goes j ≡ false) jobs
            (λ j at. none_at (same_key key j.key) (is_orphan left j) (λ is. ap (is_orphan left) (at is) ∙ kept)) one))
      ] refl

orphan_goes : (key : Key) (left : List TriggerData) (jobs : List JobData) → IsAscending key_cmp (λ r. r.key) jobs → without_orphan_of key left jobs ≡ filter (λ j. not (same_key key j.key && is_orphan left j)) jobs
unfolding without_orphan_of
orphan_goes key left jobs ordered = orphan_at key left jobs ordered (job_of key jobs) refl

apart : (first rest over : Bool) → ((first && over) || (rest && over)) ≡ ((first || rest) && over)
apart true rest true = refl
apart true rest false = and-false rest
apart false rest over = refl

-- the fired rows stay
kept_fired : (T : SchedulerTables) (p : TriggerData → Bool) → (without_triggers p T).fired ≡ T.fired
unfolding without_triggers
kept_fired T p = refl

-- One trigger goes, if it is finished.
module _ (T : SchedulerTables) (key : Key) (triggers : IsAscending key_cmp (λ r. r.spec.key) T.triggers) (jobs : IsAscending key_cmp (λ r. r.key) T.jobs) where
  -- it has the key, and is finished
  abbrev ends : TriggerData → Bool
  ends t = same_key t.spec.key key && is_finished T.fired t

  abbrev step : Option TriggerData → SchedulerTables
  step o = without_trigger_and_orphan T (finished T.fired o)

  module _ (t : TriggerData) (found : trigger_of key T.triggers ≡ Some t) where
    same : key ≡ t.spec.key
    same = key_of_trigger key t T.triggers found

    only : AllByRecursion (λ u. same_key u.spec.key key ≡ true → u ≡ t) T.triggers
    only = All-weaker (λ u. same_key key u.spec.key ≡ true → u ≡ t) (λ u. same_key u.spec.key key ≡ true → u ≡ t) T.triggers (λ u one is. one (same_key_laws.symm key u.spec.key ∙ is)) (only_trigger key t T.triggers triggers found)

    stays : is_finished T.fired t ≡ false → T ≡ without_triggers ends T
    stays kept = sym (without_none ends T (All-weaker (λ u. same_key u.spec.key key ≡ true → u ≡ t) (λ u. ends u ≡ false) T.triggers
        (λ u one. none_at (same_key u.spec.key key) (is_finished T.fired u) (λ is. ap (is_finished T.fired) (one is) ∙ kept)) only))

    module _ (over : is_finished T.fired t ≡ true) where
      itself : AllByRecursion (λ u. same_key t.spec.key u.spec.key ≡ ends u) T.triggers
      itself = All-weaker (λ u. same_key u.spec.key key ≡ true → u ≡ t) (λ u. same_key t.spec.key u.spec.key ≡ ends u) T.triggers
          (λ u one. ap (λ k. same_key k u.spec.key) (sym same) ∙ same_key_laws.symm key u.spec.key ∙ alone (same_key u.spec.key key) (is_finished T.fired u) (λ is. ap (is_finished T.fired) (one is) ∙ over)) only

      left_is : without_trigger t.spec.key T.triggers ≡ staying ends T.triggers
      unfolding without_trigger
      left_is = filter-alike (λ u. not (same_key t.spec.key u.spec.key)) (λ u. not (ends u)) T.triggers
          (All-weaker (λ u. same_key t.spec.key u.spec.key ≡ ends u) (λ u. not (same_key t.spec.key u.spec.key) ≡ not (ends u)) T.triggers (λ u e. ap not e) itself)

      -- it has no row
      rows_stay : without_acquired (is_row_of_trigger t.spec.key) T.fired ≡ T.fired
      unfolding is_finished without_acquired
      rows_stay =
          let none : list_any (is_row_of_trigger t.spec.key) T.fired ≡ false = not-true _ (and_parts (is_complete t.state && is_none t.next) (not (list_any (is_row_of_trigger t.spec.key) T.fired)) over).1 in
          all_stay (λ f. is_acquired f.state && is_row_of_trigger t.spec.key f) T.fired
          (All-weaker (λ f. is_row_of_trigger t.spec.key f ≡ false) (λ f. (is_acquired f.state && is_row_of_trigger t.spec.key f) ≡ false) T.fired
          (λ f e. and_right (is_acquired f.state) (is_row_of_trigger t.spec.key f) e) (All-none (is_row_of_trigger t.spec.key) T.fired none))

      own : ends t ≡ true
      own = and_from (same_key t.spec.key key) (is_finished T.fired t) (same_key_laws.symm t.spec.key key ∙ trigger_of-key key t T.triggers found) over

      -- its job loses it, and no other does
      lost_is : (j : JobData) → same_key t.spec.job j.key ≡ loses ends T.triggers j
      lost_is j = same_key_laws.symm t.spec.job j.key ∙ elim (same_key j.key t.spec.job) as (λ b. same_key j.key t.spec.job ≡ b → b ≡ loses ends T.triggers j) [
        | true ↦ λ its. sym (any_found (λ u. same_key j.key u.spec.job && ends u) key t T.triggers found (and_from (same_key j.key t.spec.job) (ends t) its own))
        | false ↦ λ other. sym (any_none (λ u. same_key j.key u.spec.job && ends u) T.triggers
            (All-weaker (λ u. same_key u.spec.key key ≡ true → u ≡ t) (λ u. (same_key j.key u.spec.job && ends u) ≡ false) T.triggers
            (λ u one. false_from_ne_true (same_key j.key u.spec.job && ends u) (λ is.
            let parts = and_parts (same_key j.key u.spec.job) (ends u) is in
            let at : u ≡ t = one (and_parts (same_key u.spec.key key) (is_finished T.fired u) parts.1).0 in
            let its : same_key j.key t.spec.job ≡ true = subst (λ (x : TriggerData). same_key j.key x.spec.job ≡ true) at parts.0 in
            absurd (cc))) only))
      ] refl

      jobs_are : without_orphan_of t.spec.job (staying ends T.triggers) T.jobs ≡ filter (λ j. not (loses ends T.triggers j && is_orphan (staying ends T.triggers) j)) T.jobs
      jobs_are =
          orphan_goes t.spec.job (staying ends T.triggers) T.jobs jobs
          ∙ filter-alike _ _ T.jobs (All-from (λ j. not (same_key t.spec.job j.key && is_orphan (staying ends T.triggers) j) ≡ not (loses ends T.triggers j && is_orphan (staying ends T.triggers) j)) T.jobs
          (λ j. ap (λ b. not (b && is_orphan (staying ends T.triggers) j)) (lost_is j)))

      goes_alone : without_trigger_and_orphan T (Some t) ≡ without_triggers ends T
      unfolding without_trigger_and_orphan without_triggers
      goes_alone =
          ap (λ fs. record T { triggers = without_trigger t.spec.key T.triggers; fired = fs; jobs = without_orphan_of t.spec.job (without_trigger t.spec.key T.triggers) T.jobs }) rows_stay
          ∙ ap (λ ts. record T { triggers = ts; jobs = without_orphan_of t.spec.job ts T.jobs }) left_is
          ∙ ap (λ js. record T { triggers = staying ends T.triggers; jobs = js }) jobs_are

    step_some : step (Some t) ≡ without_triggers ends T
    unfolding without_trigger_and_orphan
    step_some = elim (is_finished T.fired t) as (λ b. is_finished T.fired t ≡ b → without_trigger_and_orphan T (if b then Some t else None) ≡ without_triggers ends T) [
      | true ↦ goes_alone
      | false ↦ stays
    ] refl

  step_none : trigger_of key T.triggers ≡ None → step None ≡ without_triggers ends T
  unfolding without_trigger_and_orphan trigger_of same_key
  step_none none = sym (without_none ends T (All-weaker (λ u. same_key key u.spec.key ≡ false) (λ u. ends u ≡ false) T.triggers
      (λ u differ. ap (λ b. b && is_finished T.fired u) (same_key_laws.symm u.spec.key key ∙ differ)) (none_of_row key_cmp (λ r. r.spec.key) key T.triggers none)))

  step_at : (o : Option TriggerData) → trigger_of key T.triggers ≡ o → step o ≡ without_triggers ends T
  step_at None found = step_none found
  step_at (Some t) found = step_some t found

  -- the trigger of the first key goes, if it is finished, and then those of the others
  pub one_key : (keys : List Key) → without_triggers (has_ended keys (step (trigger_of key T.triggers)).fired) (step (trigger_of key T.triggers)) ≡ without_triggers (has_ended (key ∷ keys) T.fired) T
  one_key keys =
      ap (λ U. without_triggers (has_ended keys U.fired) U) (step_at (trigger_of key T.triggers) refl)
      ∙ ap (λ fired. without_triggers (has_ended keys fired) (without_triggers ends T)) (kept_fired T ends)
      ∙ without_twice ends (has_ended keys T.fired) T
      ∙ without_alike _ (has_ended (key ∷ keys) T.fired) T (All-from (λ t. (ends t || has_ended keys T.fired t) ≡ has_ended (key ∷ keys) T.fired t) T.triggers
      (λ t. apart (same_key t.spec.key key) (list_any (same_key t.spec.key) keys) (is_finished T.fired t)))

  pub ordered_step : IsAscending key_cmp (λ r. r.spec.key) (step (trigger_of key T.triggers)).triggers
  ordered_step = subst (λ (U : SchedulerTables). IsAscending key_cmp (λ r. r.spec.key) U.triggers) (sym (step_at (trigger_of key T.triggers) refl)) (ordered_then ends T triggers)

  pub ordered_jobs_step : IsAscending key_cmp (λ r. r.key) (step (trigger_of key T.triggers)).jobs
  ordered_jobs_step = subst (λ (U : SchedulerTables). IsAscending key_cmp (λ r. r.key) U.jobs) (sym (step_at (trigger_of key T.triggers) refl)) (ordered_jobs_then ends T jobs)

-- with no key left, all stays
pub no_key : (T : SchedulerTables) → without_triggers (has_ended [] T.fired) T ≡ T
no_key T = without_none (has_ended [] T.fired) T (All-from (λ t. has_ended [] T.fired t ≡ false) T.triggers (λ t. refl))
