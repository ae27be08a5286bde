-- The walk that collects misfired triggers.
use Rattle.std.specs.List.{AllByRecursion}
use Rattle.std.proofs.Common.{◌||◌, ◌≡◌, ℕ, suc, ◌+◌, ◌-◌, ◌<◌, ◌≤◌, ℤ, ◌-ℤ◌, Bool, true, false, List, [], ◌∷◌, ◌++◌, append_assoc, length, length-append, drop, take, filter, Option, Some, None, refl, sym, ap, ◌∙◌, subst, arith, if◌then◌else◌}
use Rattle.std.proofs.lemmas.Bool.{and_parts, and_right}
use Rattle.std.proofs.lemmas.Int.{ints}
use Rattle.std.proofs.lemmas.List.{append-nil}
use Rattle.qz_types.specs.Rows.{TriggerData}
use Rattle.qz_types.specs.declared.limits.TheConstants.{MISFIRE_LIMIT}
use Rattle.qz_types.specs.Tables.{SchedulerTables}
use Rattle.qz_types.specs.Due.{is_waiting}
use Rattle.qz_types.specs.declared.keys.Key.{Key}
use Rattle.qz_tables.specs.Due.{waiting, due_next}
use Rattle.qz_model.specs.Due.{is_before, is_misfired}
use Rattle.qz_model.specs.Misfires.{misfired_triggers}
use Rattle.qz_model.proofs.RowPoints.{All-weaker}
use Rattle.qz_acquire.specs.Walk.{is_from, is_missed, is_waiting_misfired, unless_past}
use Rattle.qz_acquire.proofs.Lists.{filter-none, filter-over, drop-at, take-one, take-full, take-empty, or_neither, or_other}
use Rattle.qz_acquire.proofs.Walk.{AreInKeyOrder, filter-waiting, IsAfter, begins, goes_on, IsFound, none_found, found_here, IsFrom, none_earlier}
use Rattle.qz_acquire.proofs.Walk.{found as found_at}

-- what is still to be collected from this place on
abbrev left_at : SchedulerTables → ℤ → ℕ → List TriggerData
left_at T m n = filter (is_waiting_misfired T m) (drop n (waiting None T.triggers))

-- these were found, of which the last has this key, and those after it complete them
pub record IsCollecting (T : SchedulerTables) (m : ℤ) (found : List TriggerData) (last : Option Key) : Type 0 where
  pub place : ℕ
  pub after : IsAfter T.triggers last place
  pub rest : found ++ take (MISFIRE_LIMIT - length found) (left_at T m place) ≡ misfired_triggers T m

waits : (T : SchedulerTables) (m : ℤ) (t : TriggerData) → is_waiting_misfired T m t ≡ true → is_waiting t.state ≡ true
waits T m t passes = (and_parts (is_waiting t.state) (is_misfired T m t) passes).0

pub collect_begins : (T : SchedulerTables) (m : ℤ) → AreInKeyOrder T.triggers → IsCollecting T m [] None
unfolding misfired_triggers
collect_begins T m ordered = record {
  place = 0;
  after = begins T.triggers;
  rest = ap (take MISFIRE_LIMIT) (filter-waiting (is_waiting_misfired T m) T.triggers ordered (waits T m));
}

pub collect_full : (T : SchedulerTables) (m : ℤ) (found : List TriggerData) (last : Option Key) → IsCollecting T m found last → MISFIRE_LIMIT ≤ length found → found ≡ misfired_triggers T m
collect_full T m found last walk full =
    sym (append-nil found) ∙ ap (λ xs. found ++ xs) (sym (take-full MISFIRE_LIMIT (length found) (left_at T m walk.place) full)) ∙ walk.rest

missed_is : (T : SchedulerTables) (m : ℤ) (t : TriggerData) → is_waiting_misfired T m t ≡ is_missed (m -ℤ T.threshold) t
unfolding is_misfired
missed_is T m t = refl

-- where the walk stops
abbrev stops : SchedulerTables → ℤ → TriggerData → Bool
stops T m t = is_from (m -ℤ T.threshold) t.next || is_missed (m -ℤ T.threshold) t

passed_over : (T : SchedulerTables) (m : ℤ) (t : TriggerData) → stops T m t ≡ false → is_waiting_misfired T m t ≡ false
passed_over T m t isnt = missed_is T m t ∙ (or_neither (is_from (m -ℤ T.threshold) t.next) (is_missed (m -ℤ T.threshold) t) isnt).1

stopped_at : (T : SchedulerTables) (m : ℤ) (t : TriggerData) → stops T m t ≡ true → is_from (m -ℤ T.threshold) t.next ≡ false → is_waiting_misfired T m t ≡ true
stopped_at T m t is isnt = missed_is T m t ∙ (or_other (is_from (m -ℤ T.threshold) t.next) (is_missed (m -ℤ T.threshold) t) is isnt)

module _ (T : SchedulerTables) (m : ℤ) (found : List TriggerData) (last : Option Key) (walk : IsCollecting T m found last) (ordered : AreInKeyOrder T.triggers) where
  abbrev n : ℕ
  n = walk.place

  -- what is left, from the trigger on at which the walk stops
  left_from : (t : TriggerData) (f : IsFound T.triggers n (stops T m) t) → left_at T m n ≡ filter (is_waiting_misfired T m) (t ∷ drop (suc (n + f.skipped)) (waiting None T.triggers))
  left_from t f =
      let xs = drop n (waiting None T.triggers) in
      filter-over (is_waiting_misfired T m) xs f.skipped (All-weaker (λ u. stops T m u ≡ false) (λ u. is_waiting_misfired T m u ≡ false) (take f.skipped xs) (passed_over T m) f.over)
      ∙ ap (filter (is_waiting_misfired T m)) (found_here T.triggers n (stops T m) t f)

  taken_here : (t : TriggerData) → IsFound T.triggers n (stops T m) t → is_from (m -ℤ T.threshold) t.next ≡ false → length found < MISFIRE_LIMIT → IsCollecting T m (found ++ t ∷ []) (Some t.spec.key)
  taken_here t f before less =
      let rest = left_at T m (suc (n + f.skipped)) in
      let here : left_at T m n ≡ t ∷ rest = left_from t f ∙ rw (stopped_at T m t f.passes before) refl in
      let one : take (MISFIRE_LIMIT - length found) (left_at T m n) ≡ t ∷ take (MISFIRE_LIMIT - (length found + 1)) rest = ap (take (MISFIRE_LIMIT - length found)) here ∙ take-one MISFIRE_LIMIT (length found) t rest less in
      let longer : length (found ++ t ∷ []) ≡ length found + 1 = omega (arith, length-append found (t ∷ [])) in
      record {
        place = suc (n + f.skipped);
        after = goes_on T.triggers (n + f.skipped) t ordered f.at;
        rest = ap (λ k. (found ++ t ∷ []) ++ take (MISFIRE_LIMIT - k) rest) longer ∙ append_assoc found (t ∷ []) (take (MISFIRE_LIMIT - (length found + 1)) rest) ∙ ap (λ xs. found ++ xs) (sym one) ∙ walk.rest;
      }

  -- none from here on is misfired
  none_misfired : (a b : Option ℤ) → is_from (m -ℤ T.threshold) a ≡ true → IsFrom a b → is_before (m -ℤ T.threshold) b ≡ false
  none_misfired None b from later = absurd (cc)
  none_misfired (Some x) None from later = refl
  none_misfired (Some x) (Some y) from later = grind (arith, ints)

  not_misfired : (u : TriggerData) → is_before (m -ℤ T.threshold) u.next ≡ false → is_waiting_misfired T m u ≡ false
  unfolding is_misfired
  not_misfired u not_before = and_right (is_waiting u.state) (is_misfired T m u) (and_right _ (is_before (m -ℤ T.threshold) u.next) not_before)

  nothing_left : left_at T m n ≡ [] → found ≡ misfired_triggers T m
  nothing_left none = sym (append-nil found) ∙ ap (λ xs. found ++ xs) (sym (take-empty (MISFIRE_LIMIT - length found) (left_at T m n) none)) ∙ walk.rest

  stops_past : (t : TriggerData) → IsFound T.triggers n (stops T m) t → is_from (m -ℤ T.threshold) t.next ≡ true → found ≡ misfired_triggers T m
  stops_past t f from =
      let later = subst (AllByRecursion (λ u. IsFrom t.next u.next)) (drop-at (waiting None T.triggers) (n + f.skipped) t f.at) (none_earlier T.triggers (n + f.skipped) t ordered f.at) in
      let none = All-weaker (λ u. IsFrom t.next u.next) (λ u. is_waiting_misfired T m u ≡ false) (t ∷ drop (suc (n + f.skipped)) (waiting None T.triggers)) (λ u l. not_misfired u (none_misfired t.next u.next from l)) later in
      nothing_left (left_from t f ∙ filter-none (is_waiting_misfired T m) (t ∷ drop (suc (n + f.skipped)) (waiting None T.triggers)) none)

  abbrev ends : TriggerData → Bool
  ends t = is_from (m -ℤ T.threshold) t.next

  pub collect_adds : (o : Option TriggerData) (t : TriggerData) → o ≡ due_next last (stops T m) T.triggers → Some t ≡ unless_past ends o → length found < MISFIRE_LIMIT → IsCollecting T m (found ++ t ∷ []) (Some t.spec.key)
  collect_adds None t is h less = absurd (cc)
  collect_adds (Some u) t is h less = by_test (ends u) refl h
    where
      by_test : (b : Bool) → ends u ≡ b → Some t ≡ (if b then None else Some u) → IsCollecting T m (found ++ t ∷ []) (Some t.spec.key)
      by_test true e q = absurd (cc)
      by_test false e q = let same : u ≡ t = cc in subst (λ v. IsCollecting T m (found ++ v ∷ []) (Some v.spec.key)) same (taken_here u (found_at T.triggers last n (stops T m) u walk.after is) e less)

  pub collect_ends : (o : Option TriggerData) → o ≡ due_next last (stops T m) T.triggers → None ≡ unless_past ends o → found ≡ misfired_triggers T m
  collect_ends None is h =
      let none = All-weaker (λ u. stops T m u ≡ false) (λ u. is_waiting_misfired T m u ≡ false) (drop n (waiting None T.triggers)) (passed_over T m) (none_found T.triggers last n (stops T m) walk.after is) in
      nothing_left (filter-none (is_waiting_misfired T m) (drop n (waiting None T.triggers)) none)
  collect_ends (Some u) is h = by_test (ends u) refl h
    where
      by_test : (b : Bool) → ends u ≡ b → None ≡ (if b then None else Some u) → found ≡ misfired_triggers T m
      by_test true e q = stops_past u (found_at T.triggers last n (stops T m) u walk.after is) e
      by_test false e q = absurd (cc)
