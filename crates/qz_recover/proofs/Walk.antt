-- The walk over the fired rows in which a member's rows go.
use Rattle.std.proofs.Common.{◌≡◌, ℕ, zero, suc, ◌+◌, ◌≤◌, ◌<◌, ◌||◌, ◌&&◌, ◌==◌, Bool, true, false, not, cond, List, [], ◌∷◌, take, filter, map, length, Some, is_some, refl, sym, ap, ◌∙◌, subst, arith, add-one, if◌then◌else◌}
use Rattle.std.specs.List.{AllByRecursion, slice_get, list_any}
use Rattle.std.specs.Ordering.{nat_cmp}
use Rattle.std.proofs.lemmas.List.{take_all}
use Rattle.std.proofs.lemmas.Bool.{and_left, and_right, ne_eqb}
use Rattle.std.proofs.lemmas.Bool.Decides.{nat_tests}
use Rattle.std.specs.declared.cmp.Ordering.TheVariants.{Less}
use Rattle.qz_types.specs.Rows.{TriggerData, MemberData, FiredData}
use Rattle.qz_types.specs.Sorted.{IsBefore, IsAscending}
use Rattle.qz_types.specs.declared.keys.Key.{Key}
use Rattle.qz_types.specs.declared.triggers.TriggerState.{TriggerState}
use Rattle.qz_types.specs.declared.triggers.TriggerState.TheVariants.{Waiting, Acquired, Complete, Blocked, Paused, PausedBlocked, Error}
use Rattle.qz_types.specs.Changes.{in_state, with_state, with_states}
use Rattle.qz_types.specs.States.{is_acquired, is_acquired_for, unblocked}
use Rattle.qz_types.specs.Tables.{SchedulerTables}
use Rattle.qz_types.specs.Words.{same_key, fired_of, with_trigger, without_fired}
use Rattle.qz_model.specs.Completing.{with_unblocked}
use Rattle.qz_model.specs.Recovery.{has_acquired, has_excluded, lost_of, rows_of_others, freed_by, unblocked_by}
use Rattle.qz_model.specs.Tests.{is_of, is_trigger_of}
use Rattle.qz_model.proofs.RowLaws.{same_key_laws, each_fired, only_fired, ordered-without_fired, length-without_stored_fired}
use Rattle.qz_model.proofs.RowPoints.{All-weaker, any_none, any-filter}
use Rattle.qz_recover.specs.Rows.{freed_from, with_row_ended}

-- what holds of each row holds of that at a place
pub All-at : {R : Type 0} (P : R → Type 0) (rows : List R) (place : ℕ) (r : R) → AllByRecursion P rows → slice_get rows place ≡ Some r → P r
All-at P [] place r all is = absurd (cc)
All-at P (x ∷ rows) zero r all is = let same : x ≡ r = cc in subst P same all.0
All-at P (x ∷ rows) (suc place) r all is = All-at P rows place r all.1 is

one_more : {R : Type 0} (P : R → Type 0) (rows : List R) (place : ℕ) (r : R) → AllByRecursion P (take place rows) → slice_get rows place ≡ Some r → P r → AllByRecursion P (take (suc place) rows)
one_more P [] place r all is new = absurd (cc)
one_more P (x ∷ rows) zero r all is new = let same : r ≡ x = cc in (subst P same new, tt)
one_more P (x ∷ rows) (suc place) r all is new = (all.0, one_more P rows place r all.1 is new)

pub All-one_more : {R : Type 0} (P : R → Type 0) (rows : List R) (place : ℕ) (r : R) → AllByRecursion P (take place rows) → slice_get rows place ≡ Some r → P r → AllByRecursion P (take (place + 1) rows)
All-one_more P rows place r all is new = rw add-one (one_more P rows place r all is new)

count_more : {R : Type 0} (p : R → Bool) (rows : List R) (place : ℕ) (r : R) → slice_get rows place ≡ Some r
    → length (filter p (take (suc place) rows)) ≡ length (filter p (take place rows)) + cond (p r) 1 0
count_more p [] place r is = absurd (cc)
count_more p (x ∷ rows) zero r is = let same : x ≡ r = cc in rw same (elim (p r) as (λ b. length (cond b (r ∷ []) []) ≡ 0 + cond b 1 0) [ true ↦ refl | false ↦ refl ])
count_more p (x ∷ rows) (suc place) r is = elim (p x) as (λ b. length (cond b (x ∷ filter p (take (suc place) rows)) (filter p (take (suc place) rows))) ≡ length (cond b (x ∷ filter p (take place rows)) (filter p (take place rows))) + cond (p r) 1 0) [
  | true ↦ omega (arith, count_more p rows place r is)
  | false ↦ count_more p rows place r is
]

-- how many pass, of one row more
pub count_one_more : {R : Type 0} (p : R → Bool) (rows : List R) (place : ℕ) (r : R) → slice_get rows place ≡ Some r
    → length (filter p (take (place + 1) rows)) ≡ length (filter p (take place rows)) + cond (p r) 1 0
count_one_more p rows place r is = rw add-one (count_more p rows place r is)

-- the count at the end of the walk
pub counted_all : (me : MemberData) (rows : List FiredData) (place count : ℕ) → count ≡ length (filter (λ f. not (is_acquired f.state) && is_of me f) (take place rows)) → length rows ≤ place
    → count ≡ length (lost_of me rows)
unfolding lost_of
counted_all me rows place count is past = is ∙ ap (λ xs. length (filter (λ f. not (is_acquired f.state) && is_of me f) xs)) (take_all place rows past)

-- a filter that leaves out no more than the next does
filter-again : {R : Type 0} (p q : R → Bool) (rows : List R) → AllByRecursion (λ r. q r ≡ true → p r ≡ true) rows → filter (λ r. not (p r)) (filter (λ r. not (q r)) rows) ≡ filter (λ r. not (p r)) rows
filter-again p q [] all = refl
filter-again p q (x ∷ rows) all = elim (q x) as (λ b. (b ≡ true → p x ≡ true) → filter (λ r. not (p r)) (cond (not b) (x ∷ filter (λ r. not (q r)) rows) (filter (λ r. not (q r)) rows)) ≡ cond (not (p x)) (x ∷ filter (λ r. not (p r)) rows) (filter (λ r. not (p r)) rows)) [
  | true ↦ λ also. rw (also refl) (filter-again p q rows all.1)
  | false ↦ λ also. rw (filter-again p q rows all.1) refl
] all.0

twice : (a b : Bool) → (a || b) ≡ (a || (a || b))
twice true b = refl
twice false b = refl

swap : (a x b c : Bool) → (a || b) ≡ (a || c) → (a || (x || b)) ≡ (a || (x || c))
swap true x b c e = refl
swap false true b c e = refl
swap false false b c e = e

past : (a x b : Bool) → (a || b) ≡ b → (a || (x || b)) ≡ (x || b)
past true true b e = refl
past true false b e = e
past false x b e = refl

any_at : {R : Type 0} (p : R → Bool) (rows : List R) (place : ℕ) (r : R) → slice_get rows place ≡ Some r → (p r || list_any p rows) ≡ list_any p rows
any_at p [] place r is = absurd (cc)
any_at p (x ∷ rows) zero r is = let same : x ≡ r = cc in rw (ap p same) (sym (twice (p r) (list_any p rows)))
any_at p (x ∷ rows) (suc place) r is = past (p r) (p x) (list_any p rows) (any_at p rows place r is)

-- one passes, or one of those that are left
any-left : {R : Type 0} (p q : R → Bool) (r : R) (rows : List R) → AllByRecursion (λ x. q x ≡ true → x ≡ r) rows → (p r || list_any p (filter (λ x. not (q x)) rows)) ≡ (p r || list_any p rows)
any-left p q r [] all = refl
any-left p q r (x ∷ rows) all = elim (q x) as (λ b. (b ≡ true → x ≡ r) → (p r || list_any p (cond (not b) (x ∷ filter (λ y. not (q y)) rows) (filter (λ y. not (q y)) rows))) ≡ (p r || (p x || list_any p rows))) [
  | true ↦ λ same. rw (ap p (same refl)) (any-left p q r rows all.1 ∙ twice (p r) (list_any p rows))
  | false ↦ λ same. swap (p r) (p x) _ _ (any-left p q r rows all.1)
] all.0

map-alike : {R : Type 0} (f g : R → R) (rows : List R) → ((r : R) → f r ≡ g r) → map f rows ≡ map g rows
map-alike f g [] same = refl
map-alike f g (x ∷ rows) same = rw (same x, map-alike f g rows same) refl

map-both : {R : Type 0} (f g h : R → R) (rows : List R) → ((r : R) → f (g r) ≡ h r) → map f (map g rows) ≡ map h rows
map-both f g h [] same = refl
map-both f g h (x ∷ rows) same = rw (same x, map-both f g h rows same) refl

waits_anyway : (t : TriggerData) (b : Bool) → (if b then in_state Waiting (in_state Waiting t) else in_state Waiting t) ≡ in_state Waiting t
waits_anyway t true = refl
waits_anyway t false = refl

-- The rows before a place stay where the row at the place goes.
lt_from : (n m : ℕ) → nat_cmp n m ≡ Less → n < m
lt_from n m e = grind (arith, nat_tests)

pub under : (n : ℕ) (rows : List FiredData) → IsBefore nat_cmp (λ r. r.entry) n rows → AllByRecursion (λ g. n < g.entry) rows
under n [] before = tt
under n (x ∷ rows) before = (lt_from n x.entry before.0, under n rows before.1)

pub before_stay : (rows : List FiredData) (place : ℕ) (f : FiredData) → IsAscending nat_cmp (λ r. r.entry) rows → slice_get rows place ≡ Some f → take place (without_fired f.entry rows) ≡ take place rows
unfolding without_fired
before_stay [] place f ordered is = absurd (cc)
before_stay (x ∷ rows) zero f ordered is = refl
before_stay (x ∷ rows) (suc place) f ordered is =
    let less : x.entry < f.entry = All-at (λ g. x.entry < g.entry) rows place f (under x.entry rows ordered.0) is in
    let other : (f.entry == x.entry) ≡ false = ne_eqb f.entry x.entry (λ same. omega arith) in
    rw other (ap (λ (xs : List FiredData). x ∷ xs) (before_stay rows place f ordered.1 is))

all_others : (me : MemberData) (rows : List FiredData) → AllByRecursion (λ f. is_of me f ≡ false) rows → rows_of_others me rows ≡ rows
unfolding rows_of_others
all_others me [] none = refl
all_others me (x ∷ rows) none = rw none.0 (ap (λ (xs : List FiredData). x ∷ xs) (all_others me rows none.1))

none_freed : (me : MemberData) (rows : List FiredData) → AllByRecursion (λ f. is_of me f ≡ false) rows → (ts : List TriggerData) → freed_by me rows ts ≡ ts
unfolding freed_by
none_freed me rows none [] = refl
none_freed me rows none (t ∷ ts) =
    let free : has_acquired me rows t.spec.key ≡ false = any_none (λ f. is_of me f && is_acquired_for t.spec.key f) rows
    (All-weaker (λ f. is_of me f ≡ false) (λ f. (is_of me f && is_acquired_for t.spec.key f) ≡ false) rows (λ f other. and_left (is_of me f) (is_acquired_for t.spec.key f) other) none) in
    rw free (ap (λ (xs : List TriggerData). t ∷ xs) (none_freed me rows none ts))

none_lost : (me : MemberData) (rows : List FiredData) → AllByRecursion (λ f. is_of me f ≡ false) rows → lost_of me rows ≡ []
unfolding lost_of
none_lost me [] none = refl
none_lost me (x ∷ rows) none = rw (and_right (not (is_acquired x.state)) (is_of me x) none.0) (none_lost me rows none.1)

-- where there are no executions, none excluded a trigger
pub none_excluded : (ts : List TriggerData) → unblocked_by [] ts ≡ ts
unfolding unblocked_by
none_excluded [] = refl
none_excluded (t ∷ ts) = ap (λ (xs : List TriggerData). t ∷ xs) (none_excluded ts)

-- the tables, once all rows of the member have ended
abbrev pub all_ended : MemberData → SchedulerTables → SchedulerTables
all_ended me T = record T { triggers = unblocked_by (lost_of me T.fired) (freed_by me T.fired T.triggers); fired = rows_of_others me T.fired }

-- where no row is the member's, there is nothing to end
pub nothing_left : (me : MemberData) (T : SchedulerTables) → AllByRecursion (λ f. is_of me f ≡ false) T.fired → all_ended me T ≡ T
nothing_left me T none =
    rw (none_freed me T.fired none T.triggers, all_others me T.fired none)
    (ap (λ ts. record T { triggers = ts }) (ap (λ rows. unblocked_by rows T.triggers) (none_lost me T.fired none) ∙ none_excluded T.triggers))

-- A trigger that is unblocked, and one that waits again.

unblocked_twice : (s : TriggerState) → unblocked (unblocked s) ≡ unblocked s
unblocked_twice Waiting = refl
unblocked_twice Acquired = refl
unblocked_twice Complete = refl
unblocked_twice Blocked = refl
unblocked_twice Paused = refl
unblocked_twice PausedBlocked = refl
unblocked_twice Error = refl

-- a trigger that waits isn't blocked
waits_still : (t : TriggerData) (b : Bool) → (if b then with_state unblocked (in_state Waiting t) else in_state Waiting t) ≡ in_state Waiting t
waits_still t true = refl
waits_still t false = refl

free_still : (t : TriggerData) (b : Bool) → (if b then with_state unblocked (with_state unblocked t) else with_state unblocked t) ≡ with_state unblocked t
free_still t true = ap (λ s. in_state s t) (unblocked_twice t.state)
free_still t false = refl

-- the trigger, unblocked where its job passes, and waiting again where its key does
abbrev unblocked_where : (Key → Bool) → TriggerData → TriggerData
unblocked_where shut t = if shut t.spec.job then with_state unblocked t else t

abbrev waiting_where : (Key → Bool) → TriggerData → TriggerData
waiting_where taken t = if taken t.spec.key then in_state Waiting t else t

-- a trigger that is unblocked at once may be unblocked later as well
free_first : (taken all left : Key → Bool) (now : Bool) (t : TriggerData) → (now || left t.spec.job) ≡ all t.spec.job
    → unblocked_where left (waiting_where taken (if now then with_state unblocked t else t)) ≡ unblocked_where all (waiting_where taken t)
free_first taken all left true t are =
    elim (taken t.spec.key) as (λ b. unblocked_where left (if b then in_state Waiting (with_state unblocked t) else with_state unblocked t) ≡ unblocked_where all (if b then in_state Waiting t else t)) [
      | true ↦ waits_still t (left t.spec.job) ∙ sym (waits_still t (all t.spec.job))
      | false ↦ free_still t (left t.spec.job) ∙ ap (λ b. if b then with_state unblocked t else t) are
    ]
free_first taken all left false t are =
    elim (taken t.spec.key) as (λ b. unblocked_where left (if b then in_state Waiting t else t) ≡ unblocked_where all (if b then in_state Waiting t else t)) [
      | true ↦ ap (λ b. if b then with_state unblocked (in_state Waiting t) else in_state Waiting t) are
      | false ↦ ap (λ b. if b then with_state unblocked t else t) are
    ]

and_true : (a b : Bool) → b ≡ true → (a && b) ≡ a
and_true true b e = e
and_true false b e = refl

not_at : (a b c : Bool) → (a && b) ≡ false → (a && (b && c)) ≡ false
not_at true true c e = absurd (cc)
not_at true false c e = refl
not_at false b c e = refl

at_all : (a b c : Bool) → (a && b) ≡ true → (a && (b && c)) ≡ c
at_all true true c e = refl
at_all true false c e = absurd (cc)
at_all false b c e = absurd (cc)

map-each : {R : Type 0} (f g h k : R → R) (rows : List R) → ((r : R) → f (g (h r)) ≡ k (g r)) → map f (map g (map h rows)) ≡ map k (map g rows)
map-each f g h k [] same = refl
map-each f g h k (x ∷ rows) same = rw (same x, map-each f g h k rows same) refl

module _ (me : MemberData) (T : SchedulerTables) (ordered : IsAscending nat_cmp (λ r. r.entry) T.fired) (place : ℕ) (f : FiredData) (is : slice_get T.fired place ≡ Some f) (mine : is_of me f ≡ true) where
  found : fired_of f.entry T.fired ≡ Some f
  found = All-at (λ g. fired_of g.entry T.fired ≡ Some g) T.fired place f (each_fired T.fired ordered) is

  only : AllByRecursion (λ g. (f.entry == g.entry) ≡ true → g ≡ f) T.fired
  only = only_fired f.entry f T.fired ordered found

  others_left : rows_of_others me (without_fired f.entry T.fired) ≡ rows_of_others me T.fired
  unfolding rows_of_others without_fired
  others_left =
      filter-again (is_of me) (λ g. f.entry == g.entry) T.fired
      (All-weaker (λ g. (f.entry == g.entry) ≡ true → g ≡ f) (λ g. (f.entry == g.entry) ≡ true → is_of me g ≡ true) T.fired (λ g same at. ap (is_of me) (same at) ∙ mine) only)

  -- its trigger waits again, or that of another row of the member
  any_acquired : (key : Key) → (is_acquired_for key f || has_acquired me (without_fired f.entry T.fired) key) ≡ has_acquired me T.fired key
  unfolding without_fired
  any_acquired key =
      let p = λ (g : FiredData). is_of me g && is_acquired_for key g in
      ap (λ b. (b && is_acquired_for key f) || list_any p (filter (λ g. not (f.entry == g.entry)) T.fired)) (sym mine)
      ∙ any-left p (λ g. f.entry == g.entry) f T.fired only ∙ any_at p T.fired place f is

  freed_begun : is_acquired f.state ≡ false → (ts : List TriggerData) → freed_by me (without_fired f.entry T.fired) ts ≡ freed_by me T.fired ts
  unfolding freed_by is_acquired_for
  freed_begun begun ts = map-alike _ _ ts (λ t. ap (λ b. if b then in_state Waiting t else t) (ap (λ b. (b && same_key t.spec.key f.trigger) || has_acquired me (without_fired f.entry T.fired) t.spec.key) (sym begun) ∙ any_acquired t.spec.key))

  freed_one : is_acquired f.state ≡ true → (t : TriggerData)
      → (if has_acquired me (without_fired f.entry T.fired) (if same_key f.trigger t.spec.key then in_state Waiting t else t).spec.key
      then in_state Waiting (if same_key f.trigger t.spec.key then in_state Waiting t else t) else (if same_key f.trigger t.spec.key then in_state Waiting t else t))
      ≡ (if has_acquired me T.fired t.spec.key then in_state Waiting t else t)
  unfolding is_acquired_for
  freed_one taken t =
      let any : (same_key f.trigger t.spec.key || has_acquired me (without_fired f.entry T.fired) t.spec.key) ≡ has_acquired me T.fired t.spec.key =
      ap (λ b. b || has_acquired me (without_fired f.entry T.fired) t.spec.key) (same_key_laws.symm f.trigger t.spec.key ∙ ap (λ b. b && same_key t.spec.key f.trigger) (sym taken)) ∙ any_acquired t.spec.key in
      elim (same_key f.trigger t.spec.key) as (λ b. (b || has_acquired me (without_fired f.entry T.fired) t.spec.key) ≡ has_acquired me T.fired t.spec.key
      → (if has_acquired me (without_fired f.entry T.fired) (if b then in_state Waiting t else t).spec.key then in_state Waiting (if b then in_state Waiting t else t) else (if b then in_state Waiting t else t))
      ≡ (if has_acquired me T.fired t.spec.key then in_state Waiting t else t)) [
        | true ↦ λ e. waits_anyway t (has_acquired me (without_fired f.entry T.fired) t.spec.key) ∙ ap (λ b. if b then in_state Waiting t else t) e
        | false ↦ λ e. ap (λ b. if b then in_state Waiting t else t) e
      ] any

  freed_acquired : is_acquired f.state ≡ true → (ts : List TriggerData) → freed_by me (without_fired f.entry T.fired) (with_trigger f.trigger (in_state Waiting) ts) ≡ freed_by me T.fired ts
  unfolding freed_by with_trigger
  freed_acquired taken ts = map-both _ _ _ ts (freed_one taken)

  -- its execution excluded others of the job, or another one of the member
  any_excluded : (job : Key) → ((not (is_acquired f.state) && (f.no_concurrent && same_key f.job job)) || has_excluded (lost_of me (without_fired f.entry T.fired)) job) ≡ has_excluded (lost_of me T.fired) job
  unfolding lost_of without_fired
  any_excluded job =
      let e = λ (g : FiredData). g.no_concurrent && same_key g.job job in
      let q = λ (g : FiredData). not (is_acquired g.state) && is_of me g in
      let p = λ (g : FiredData). q g && e g in
      let own : (not (is_acquired f.state) && e f) ≡ p f = ap (λ b. b && e f) (sym (and_true (not (is_acquired f.state)) (is_of me f) mine)) in
      ap (λ b. b || list_any e (filter q (filter (λ g. not (f.entry == g.entry)) T.fired))) own
      ∙ ap (λ b. p f || b) (any-filter e q (filter (λ g. not (f.entry == g.entry)) T.fired))
      ∙ any-left p (λ g. f.entry == g.entry) f T.fired only
      ∙ any_at p T.fired place f is
      ∙ sym (any-filter e q T.fired)

  -- a row that excluded no trigger
  none_unblocked : (not (is_acquired f.state) && f.no_concurrent) ≡ false → (ts : List TriggerData) → unblocked_by (lost_of me (without_fired f.entry T.fired)) ts ≡ unblocked_by (lost_of me T.fired) ts
  unfolding unblocked_by
  none_unblocked free ts =
      map-alike _ _ ts (λ t.
      let none : (not (is_acquired f.state) && (f.no_concurrent && same_key f.job t.spec.job)) ≡ false = not_at (not (is_acquired f.state)) f.no_concurrent (same_key f.job t.spec.job) free in
      ap (λ b. if b then with_state unblocked t else t)
      (ap (λ b. b || has_excluded (lost_of me (without_fired f.entry T.fired)) t.spec.job) (sym none) ∙ any_excluded t.spec.job))

  -- one that excluded those of its job
  some_unblocked : (not (is_acquired f.state) && f.no_concurrent) ≡ true → (ts : List TriggerData)
      → unblocked_by (lost_of me (without_fired f.entry T.fired)) (freed_by me T.fired (with_states unblocked (is_trigger_of f.job) ts)) ≡ unblocked_by (lost_of me T.fired) (freed_by me T.fired ts)
  unfolding unblocked_by freed_by with_states
  some_unblocked alone ts =
      map-each _ _ _ _ ts (λ t. free_first (has_acquired me T.fired) (has_excluded (lost_of me T.fired)) (has_excluded (lost_of me (without_fired f.entry T.fired))) (same_key f.job t.spec.job) t
      (ap (λ b. b || has_excluded (lost_of me (without_fired f.entry T.fired)) t.spec.job) (sym (at_all (not (is_acquired f.state)) f.no_concurrent (same_key f.job t.spec.job) alone)) ∙ any_excluded t.spec.job))

  ended_acquired : is_acquired f.state ≡ true → unblocked_by (lost_of me (without_fired f.entry T.fired)) (freed_by me (without_fired f.entry T.fired) (with_trigger f.trigger (in_state Waiting) T.triggers)) ≡ unblocked_by (lost_of me T.fired) (freed_by me T.fired T.triggers)
  ended_acquired taken = ap (unblocked_by (lost_of me (without_fired f.entry T.fired))) (freed_acquired taken T.triggers) ∙ none_unblocked (ap (λ b. not b && f.no_concurrent) taken) (freed_by me T.fired T.triggers)

  ended_begun : is_acquired f.state ≡ false → unblocked_by (lost_of me (without_fired f.entry T.fired)) (freed_by me (without_fired f.entry T.fired) (with_unblocked f.no_concurrent f.job T.triggers)) ≡ unblocked_by (lost_of me T.fired) (freed_by me T.fired T.triggers)
  ended_begun begun = elim f.no_concurrent as (λ b. f.no_concurrent ≡ b
      → unblocked_by (lost_of me (without_fired f.entry T.fired)) (freed_by me (without_fired f.entry T.fired) (with_unblocked b f.job T.triggers)) ≡ unblocked_by (lost_of me T.fired) (freed_by me T.fired T.triggers)) [
        | true ↦ λ alone. ap (unblocked_by (lost_of me (without_fired f.entry T.fired))) (freed_begun begun (with_states unblocked (is_trigger_of f.job) T.triggers))
            ∙ some_unblocked (ap (λ b. not b && f.no_concurrent) begun ∙ alone) T.triggers
        | false ↦ λ together. ap (unblocked_by (lost_of me (without_fired f.entry T.fired))) (freed_begun begun T.triggers)
            ∙ none_unblocked (ap (λ b. not b && f.no_concurrent) begun ∙ together) (freed_by me T.fired T.triggers)
      ] refl

  -- what the rows that are left come to, after this one, is what all come to
  ended_left : unblocked_by (lost_of me (without_fired f.entry T.fired)) (freed_by me (without_fired f.entry T.fired) (freed_from f T.triggers)) ≡ unblocked_by (lost_of me T.fired) (freed_by me T.fired T.triggers)
  ended_left = elim (is_acquired f.state) as (λ b. is_acquired f.state ≡ b
      → unblocked_by (lost_of me (without_fired f.entry T.fired)) (freed_by me (without_fired f.entry T.fired) (if b then with_trigger f.trigger (in_state Waiting) T.triggers else with_unblocked f.no_concurrent f.job T.triggers))
      ≡ unblocked_by (lost_of me T.fired) (freed_by me T.fired T.triggers)) [
        | true ↦ ended_acquired
        | false ↦ ended_begun
      ] refl

  pub step_ended : all_ended me (with_row_ended T f.entry (fired_of f.entry T.fired)) ≡ all_ended me T
  step_ended = rw found (rw (ended_left, others_left) refl)

  pub place_left : AllByRecursion (λ g. is_of me g ≡ false) (take place T.fired) → AllByRecursion (λ g. is_of me g ≡ false) (take place (with_row_ended T f.entry (fired_of f.entry T.fired)).fired)
  place_left none = rw found (rw (before_stay T.fired place f ordered is) none)

  pub ordered_left : IsAscending nat_cmp (λ r. r.entry) (with_row_ended T f.entry (fired_of f.entry T.fired)).fired
  ordered_left = rw found (ordered-without_fired f.entry T.fired ordered)

  pub fewer_left : length (with_row_ended T f.entry (fired_of f.entry T.fired)).fired < length T.fired
  fewer_left = rw found (omega (arith, length-without_stored_fired f.entry T.fired (ap is_some found)))
