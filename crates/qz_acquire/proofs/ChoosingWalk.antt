-- The walk that chooses the triggers that are acquired.
use Rattle.std.specs.List.{AllByRecursion}
use Rattle.std.proofs.Common.{◌-ℤ◌, zero, ◌≡◌, ℕ, suc, ◌+◌, ◌-◌, ◌<◌, ◌≤◌, ℤ, Bool, true, false, not, ◌&&◌, ◌||◌, List, [], ◌∷◌, ◌++◌, append_assoc, length, length-append, drop, take, filter, Option, Some, None, refl, sym, ap, ◌∙◌, subst, arith, if◌then◌else◌}
use Rattle.std.proofs.lemmas.Bool.{and_parts, and_from, and_left, and_right, not-true, not-false}
use Rattle.std.proofs.lemmas.Int.{ints}
use Rattle.std.proofs.lemmas.List.{append-nil}
use Rattle.std.proofs.Math.Seq.{drop-length}
use Rattle.qz_types.specs.Rows.{JobData, TriggerData}
use Rattle.qz_types.specs.Tables.{SchedulerTables}
use Rattle.qz_types.specs.Due.{is_waiting}
use Rattle.qz_types.specs.declared.keys.Key.{Key}
use Rattle.qz_types.specs.Words.{same_key}
use Rattle.qz_tables.specs.Due.{waiting, due_next}
use Rattle.qz_tables.proofs.SortLaws.{filter-and}
use Rattle.qz_model.specs.Acquiring.{is_sibling, first_of_each, chosen}
use Rattle.qz_model.specs.Due.{is_up_to, is_misfired, is_due, due_triggers}
use Rattle.qz_model.specs.Tests.{stored_job}
use Rattle.qz_model.proofs.RowLaws.{same_key_laws}
use Rattle.qz_model.proofs.Apart.{All-take}
use Rattle.qz_model.proofs.RowPoints.{All-weaker}
use Rattle.qz_acquire.specs.Choosing.{has_sibling, may_take}
use Rattle.qz_acquire.specs.Walk.{is_past, is_on_time, unless_past}
use Rattle.qz_acquire.proofs.Lists.{filter-within, filter-same, filter-none, drop-at, list_any-append, take-one, take-full, take-empty, or_neither, or_other}
use Rattle.qz_acquire.proofs.Walk.{AreInKeyOrder, filter-waiting, IsAfter, begins, goes_on, IsFound, found, none_found, found_here, IsFrom, none_earlier}

sibling_too : (jobs : List JobData) (u t v : TriggerData) → is_sibling jobs u t ≡ true → is_sibling jobs t v ≡ true → is_sibling jobs u v ≡ true
unfolding is_sibling
sibling_too jobs u t v first second =
    let one = and_parts (stored_job u.spec.job jobs).no_concurrent (same_key u.spec.job t.spec.job) first in
    let other = and_parts (stored_job t.spec.job jobs).no_concurrent (same_key t.spec.job v.spec.job) second in
    and_from (stored_job u.spec.job jobs).no_concurrent (same_key u.spec.job v.spec.job) one.0 (same_key_laws.congr u.spec.job t.spec.job v.spec.job one.1 ∙ other.1)

blocked_too : (jobs : List JobData) (taken : List TriggerData) (t v : TriggerData) → has_sibling jobs taken t ≡ true → is_sibling jobs t v ≡ true → has_sibling jobs taken v ≡ true
blocked_too jobs [] t v blocked sibling = absurd (cc)
blocked_too jobs (u ∷ us) t v blocked sibling = elim (is_sibling jobs u t) as (λ b. is_sibling jobs u t ≡ b → (b || has_sibling jobs us t) ≡ true → (is_sibling jobs u v || has_sibling jobs us v) ≡ true) [
  | true ↦ λ is e. rw (sibling_too jobs u t v is sibling) refl
  | false ↦ λ is e. let later = blocked_too jobs us t v e sibling in elim (is_sibling jobs u v) as (λ b. (b || has_sibling jobs us v) ≡ true) [ true ↦ refl | false ↦ later ]
] refl blocked

-- no trigger of these is a sibling
abbrev is_free : List JobData → List TriggerData → TriggerData → Bool
is_free jobs taken v = not (has_sibling jobs taken v)

abbrev is_other : List JobData → TriggerData → TriggerData → Bool
is_other jobs t v = not (is_sibling jobs t v)

other_where_free : (jobs : List JobData) (taken : List TriggerData) (t v : TriggerData) → has_sibling jobs taken t ≡ true → is_free jobs taken v ≡ true → is_other jobs t v ≡ true
other_where_free jobs taken t v blocked free = elim (is_sibling jobs t v) as (λ b. is_sibling jobs t v ≡ b → not b ≡ true) [
  | true ↦ λ is. let both = blocked_too jobs taken t v blocked is in let isnt = not-true (has_sibling jobs taken v) free in absurd (cc)
  | false ↦ λ is. refl
] refl

both_not : (a b : Bool) → (not a && not b) ≡ not (b || a)
both_not true true = refl
both_not true false = refl
both_not false true = refl
both_not false false = refl

free_after : (jobs : List JobData) (taken : List TriggerData) (t : TriggerData) (ts : List TriggerData) → filter (is_free jobs taken) (filter (is_other jobs t) ts) ≡ filter (is_free jobs (taken ++ t ∷ [])) ts
free_after jobs taken t ts =
    sym (filter-and (is_other jobs t) (is_free jobs taken) ts)
    ∙ filter-same (λ v. is_other jobs t v && is_free jobs taken v) (is_free jobs (taken ++ t ∷ [])) ts
    (λ v. both_not (is_sibling jobs t v) (has_sibling jobs taken v) ∙ ap not (sym (list_any-append (λ u. is_sibling jobs u v) taken t)))

-- those of these that are due
abbrev due_of : SchedulerTables → ℤ → ℤ → List TriggerData → List TriggerData
due_of T m limit ts = filter (is_due T m limit) ts

-- what is still to be taken after these
abbrev still : SchedulerTables → ℕ → List TriggerData → List TriggerData → List TriggerData
still T max taken ts = take (max - length taken) (filter (is_free T.jobs taken) (first_of_each T.jobs ts))

-- these were taken, of which the last has this key, and those after it complete them
pub record IsChoosing (T : SchedulerTables) (m limit : ℤ) (max : ℕ) (taken : List TriggerData) (last : Option Key) : Type 0 where
  pub place : ℕ
  pub after : IsAfter T.triggers last place
  pub rest : taken ++ still T max taken (due_of T m limit (drop place (waiting None T.triggers))) ≡ chosen T m limit max

waits : (T : SchedulerTables) (m limit : ℤ) (t : TriggerData) → is_due T m limit t ≡ true → is_waiting t.state ≡ true
unfolding is_due
waits T m limit t due = (and_parts (is_waiting t.state) (is_up_to limit t.next) (and_parts (is_waiting t.state && is_up_to limit t.next) (not (is_misfired T m t)) due).0).0

filter-all_free : (jobs : List JobData) (ts : List TriggerData) → filter (is_free jobs []) ts ≡ ts
filter-all_free jobs [] = refl
filter-all_free jobs (t ∷ ts) = ap (λ xs. t ∷ xs) (filter-all_free jobs ts)

no_less : (n : ℕ) → n - 0 ≡ n
no_less n = omega arith

pub choose_begins : (T : SchedulerTables) (m limit : ℤ) (max : ℕ) → AreInKeyOrder T.triggers → IsChoosing T m limit max [] None
unfolding chosen due_triggers
choose_begins T m limit max ordered =
    let all = due_of T m limit (waiting None T.triggers) in
    record {
      place = 0;
      after = begins T.triggers;
      rest = ap (λ k. take k (filter (is_free T.jobs []) (first_of_each T.jobs all))) (no_less max) ∙ ap (take max) (filter-all_free T.jobs (first_of_each T.jobs all)) ∙ ap (λ ts. take max (first_of_each T.jobs ts)) (filter-waiting (is_due T m limit) T.triggers ordered (waits T m limit));
    }

pub choose_full : (T : SchedulerTables) (m limit : ℤ) (max : ℕ) (taken : List TriggerData) (last : Option Key) → IsChoosing T m limit max taken last → max ≤ length taken → taken ≡ chosen T m limit max
choose_full T m limit max taken last walk full =
    sym (append-nil taken) ∙ ap (λ xs. taken ++ xs) (sym (take-full max (length taken) (filter (is_free T.jobs taken) (first_of_each T.jobs (due_of T m limit (drop walk.place (waiting None T.triggers))))) full)) ∙ walk.rest

due_is : (T : SchedulerTables) (m limit : ℤ) (t : TriggerData) → is_due T m limit t ≡ is_on_time (m -ℤ T.threshold) limit t
unfolding is_due is_misfired
due_is T m limit t = refl

module _ (T : SchedulerTables) (m limit : ℤ) (max : ℕ) (taken : List TriggerData) where
  takes_is : (t : TriggerData) → may_take (m -ℤ T.threshold) limit T.jobs taken t ≡ (is_due T m limit t && is_free T.jobs taken t)
  takes_is t = ap (λ b. b && is_free T.jobs taken t) (sym (due_is T m limit t))

  -- where the walk stops
  abbrev stops : TriggerData → Bool
  stops t = is_past limit t.next || may_take (m -ℤ T.threshold) limit T.jobs taken t

  stops_not : (t : TriggerData) → stops t ≡ false → (is_due T m limit t && is_free T.jobs taken t) ≡ false
  stops_not t isnt = sym (takes_is t) ∙ (or_neither (is_past limit t.next) (may_take (m -ℤ T.threshold) limit T.jobs taken t) isnt).1

  stops_to_take : (t : TriggerData) → stops t ≡ true → is_past limit t.next ≡ false → (is_due T m limit t && is_free T.jobs taken t) ≡ true
  stops_to_take t is isnt = sym (takes_is t) ∙ or_other (is_past limit t.next) (may_take (m -ℤ T.threshold) limit T.jobs taken t) is isnt

  -- one that isn't due, or has a sibling that is taken, changes nothing
  passed_over : (t : TriggerData) (ts : List TriggerData) (b : Bool) → is_due T m limit t ≡ b → (b && is_free T.jobs taken t) ≡ false → still T max taken (due_of T m limit (t ∷ ts)) ≡ still T max taken (due_of T m limit ts)
  passed_over t ts false is isnt = ap (still T max taken) (rw is refl)
  passed_over t ts true is isnt =
      let us = first_of_each T.jobs (due_of T m limit ts) in
      let blocked : has_sibling T.jobs taken t ≡ true = not-false (has_sibling T.jobs taken t) isnt in
      let gone : filter (is_free T.jobs taken) (t ∷ filter (is_other T.jobs t) us) ≡ filter (is_free T.jobs taken) (filter (is_other T.jobs t) us) = rw blocked refl in
      let here : due_of T m limit (t ∷ ts) ≡ t ∷ due_of T m limit ts = rw is refl in
      ap (still T max taken) here
      ∙ ap (take (max - length taken)) (gone ∙ filter-within (is_free T.jobs taken) (is_other T.jobs t) us (λ v free. other_where_free T.jobs taken t v blocked free))

  all_passed_over : (ts : List TriggerData) (k : ℕ) → AllByRecursion (λ t. stops t ≡ false) (take k ts) → still T max taken (due_of T m limit ts) ≡ still T max taken (due_of T m limit (drop k ts))
  all_passed_over ts zero over = refl
  all_passed_over [] (suc k) over = refl
  all_passed_over (t ∷ ts) (suc k) over = passed_over t ts (is_due T m limit t) refl (stops_not t over.0) ∙ all_passed_over ts k over.1

  -- one that is taken
  one_more : (t : TriggerData) (ts : List TriggerData) → length taken < max → (is_due T m limit t && is_free T.jobs taken t) ≡ true
      → taken ++ still T max taken (due_of T m limit (t ∷ ts)) ≡ (taken ++ t ∷ []) ++ still T max (taken ++ t ∷ []) (due_of T m limit ts)
  one_more t ts less passes =
      let us = first_of_each T.jobs (due_of T m limit ts) in
      let parts = and_parts (is_due T m limit t) (is_free T.jobs taken t) passes in
      let due : due_of T m limit (t ∷ ts) ≡ t ∷ due_of T m limit ts = rw parts.0 refl in
      let kept : filter (is_free T.jobs taken) (t ∷ filter (is_other T.jobs t) us) ≡ t ∷ filter (is_free T.jobs taken) (filter (is_other T.jobs t) us) = rw parts.1 refl in
      let first : still T max taken (due_of T m limit (t ∷ ts)) ≡ t ∷ take (max - (length taken + 1)) (filter (is_free T.jobs (taken ++ t ∷ [])) us) =
      ap (still T max taken) due ∙ ap (take (max - length taken)) (kept ∙ ap (λ xs. t ∷ xs) (free_after T.jobs taken t us)) ∙ take-one max (length taken) t (filter (is_free T.jobs (taken ++ t ∷ [])) us) less in
      let longer : length (taken ++ t ∷ []) ≡ length taken + 1 = omega (arith, length-append taken (t ∷ [])) in
      ap (λ xs. taken ++ xs) first ∙ sym (append_assoc taken (t ∷ []) (take (max - (length taken + 1)) (filter (is_free T.jobs (taken ++ t ∷ [])) us)))
      ∙ ap (λ k. (taken ++ t ∷ []) ++ take (max - k) (filter (is_free T.jobs (taken ++ t ∷ [])) us)) (sym longer)

  -- none from here on is due
  not_up_to : (a b : Option ℤ) → is_past limit a ≡ true → IsFrom a b → is_up_to limit b ≡ false
  not_up_to None b past later = absurd (cc)
  not_up_to (Some x) None past later = refl
  not_up_to (Some x) (Some y) past later = grind (arith, ints)

  not_due : (u : TriggerData) → is_up_to limit u.next ≡ false → is_due T m limit u ≡ false
  unfolding is_due
  not_due u beyond = and_left (is_waiting u.state && is_up_to limit u.next) (not (is_misfired T m u)) (and_right (is_waiting u.state) (is_up_to limit u.next) beyond)

  module _ (last : Option Key) (walk : IsChoosing T m limit max taken last) (ordered : AreInKeyOrder T.triggers) where
    abbrev n : ℕ
    n = walk.place

    still_from : (t : TriggerData) (f : IsFound T.triggers n stops t) → still T max taken (due_of T m limit (drop n (waiting None T.triggers))) ≡ still T max taken (due_of T m limit (t ∷ drop (suc (n + f.skipped)) (waiting None T.triggers)))
    still_from t f = all_passed_over (drop n (waiting None T.triggers)) f.skipped f.over ∙ ap (λ ts. still T max taken (due_of T m limit ts)) (found_here T.triggers n stops t f)

    taken_here : (t : TriggerData) → IsFound T.triggers n stops t → is_past limit t.next ≡ false → length taken < max → IsChoosing T m limit max (taken ++ t ∷ []) (Some t.spec.key)
    taken_here t f before less = record {
      place = suc (n + f.skipped);
      after = goes_on T.triggers (n + f.skipped) t ordered f.at;
      rest = sym (one_more t (drop (suc (n + f.skipped)) (waiting None T.triggers)) less (stops_to_take t f.passes before)) ∙ ap (λ xs. taken ++ xs) (sym (still_from t f)) ∙ walk.rest;
    }

    nothing_left : still T max taken (due_of T m limit (drop n (waiting None T.triggers))) ≡ [] → taken ≡ chosen T m limit max
    nothing_left none = sym (append-nil taken) ∙ ap (λ xs. taken ++ xs) (sym none) ∙ walk.rest

    no_due : (ts : List TriggerData) → due_of T m limit ts ≡ [] → still T max taken (due_of T m limit ts) ≡ []
    no_due ts none = ap (still T max taken) none ∙ take-empty (max - length taken) [] refl

    stops_past : (t : TriggerData) → IsFound T.triggers n stops t → is_past limit t.next ≡ true → taken ≡ chosen T m limit max
    stops_past t f past =
        let ts = t ∷ drop (suc (n + f.skipped)) (waiting None T.triggers) in
        let later = subst (AllByRecursion (λ u. IsFrom t.next u.next)) (drop-at (waiting None T.triggers) (n + f.skipped) t f.at) (none_earlier T.triggers (n + f.skipped) t ordered f.at) in
        let none = All-weaker (λ u. IsFrom t.next u.next) (λ u. is_due T m limit u ≡ false) ts (λ u l. not_due u (not_up_to t.next u.next past l)) later in
        nothing_left (still_from t f ∙ no_due ts (filter-none (is_due T m limit) ts none))

    all_skipped : AllByRecursion (λ t. stops t ≡ false) (drop n (waiting None T.triggers)) → taken ≡ chosen T m limit max
    all_skipped none =
        let ts = drop n (waiting None T.triggers) in
        nothing_left (all_passed_over ts (length ts) (All-take (λ t. stops t ≡ false) (length ts) ts none) ∙ no_due (drop (length ts) ts) (ap (due_of T m limit) (drop-length ts)))

    abbrev ends : TriggerData → Bool
    ends t = is_past limit t.next

    pub choose_adds : (o : Option TriggerData) (t : TriggerData) → o ≡ due_next last stops T.triggers → Some t ≡ unless_past ends o → length taken < max → IsChoosing T m limit max (taken ++ t ∷ []) (Some t.spec.key)
    choose_adds None t is h less = absurd (cc)
    choose_adds (Some u) t is h less = by_test (ends u) refl h
      where
        by_test : (b : Bool) → ends u ≡ b → Some t ≡ (if b then None else Some u) → IsChoosing T m limit max (taken ++ t ∷ []) (Some t.spec.key)
        by_test true e q = absurd (cc)
        by_test false e q = let same : u ≡ t = cc in subst (λ v. IsChoosing T m limit max (taken ++ v ∷ []) (Some v.spec.key)) same (taken_here u (found T.triggers last n stops u walk.after is) e less)

    pub choose_ends : (o : Option TriggerData) → o ≡ due_next last stops T.triggers → None ≡ unless_past ends o → taken ≡ chosen T m limit max
    choose_ends None is h = all_skipped (none_found T.triggers last n stops walk.after is)
    choose_ends (Some u) is h = by_test (ends u) refl h
      where
        by_test : (b : Bool) → ends u ≡ b → None ≡ (if b then None else Some u) → taken ≡ chosen T m limit max
        by_test true e q = stops_past u (found T.triggers last n stops u walk.after is) e
        by_test false e q = absurd (cc)
