-- The next time of a misfired trigger has passed, and its move makes a valid row.
use Rattle.std.proofs.Common.{◌≡◌, ℕ, ◌≤◌, ℤ, pos, negsuc, ◌-ℤ◌, ◌≤ℤ◌, ◌<ℤ◌, true, not, ◌&&◌, nat_le, List, [], ◌∷◌, ◌++◌, length, get_or, map, take, drop, filter, suc, ◌+◌, ◌<◌, Option, Some, None, IsTrue, IfSome, unwrap_or, refl, sym, ap, ◌∙◌, subst, arith}
use Rattle.std.proofs.Math.Logic.{∥∥₁_elim}
use Rattle.std.proofs.Props.{props}
use Rattle.std.specs.List.{AllByRecursion}
use Rattle.std.specs.Ordering.{int_eq}
use Rattle.std.proofs.lemmas.Bool.{and_parts, and_from, le-leb}
use Rattle.std.proofs.lemmas.Int.{ints}
use Rattle.std.proofs.lemmas.List.{take_more, take_all, map-append}
use Rattle.std.proofs.Math.Seq.{drop-cons}
use Rattle.qz_civil.specs.Timings.{is_timing}
use Rattle.qz_civil.specs.declared.limits.TheConstants.{LAST}
use Rattle.qz_civil.specs.declared.timings.Moved.{Moved}
use Rattle.qz_types.specs.Changes.{moved_trigger, moved_timing}
use Rattle.qz_types.specs.Due.{is_waiting, in_due_order}
use Rattle.qz_types.specs.Rows.{TriggerData, is_key, is_calendar, is_trigger_spec, is_trigger, is_interval}
use Rattle.qz_types.specs.declared.keys.Key.{Key}
use Rattle.qz_types.specs.declared.limits.TheConstants.{MISFIRE_LIMIT, TIMES_LIMIT}
use Rattle.qz_types.specs.Tables.{SchedulerTables, IsMoment}
use Rattle.qz_model.specs.Acquiring.{next_time}
use Rattle.qz_model.specs.Due.{is_before, is_misfired}
use Rattle.qz_model.specs.Misfires.{misfired_triggers, move_of}
use Rattle.qz_model.specs.Invariant.{TablesValid}
use Rattle.qz_model.proofs.Apart.{All-take}
use Rattle.qz_model.proofs.Changes.{HasNextTime, each_next}
use Rattle.qz_model.proofs.DueLaws.{All-in_due_order}
use Rattle.qz_model.proofs.NextTimes.{moment_up_to_last}
use Rattle.qz_model.proofs.RowPoints.{All-weaker, All-filter}
use Rattle.qz_acquire.specs.Moves.{IsMissed, IsMovable, move_for}
use Rattle.qz_acquire.specs.declared.changes.Move.{Move}
use Rattle.qz_acquire.specs.Walk.{is_waiting_misfired}

missed_by : (m threshold : ℤ) (horizon : ℤ) (o : Option ℤ) → pos 1 ≤ℤ threshold → is_before (m -ℤ threshold) o ≡ true → IfSome o (IsMoment horizon) → (pos 0 ≤ℤ unwrap_or o (pos 0)) × (unwrap_or o (pos 0) <ℤ m)
missed_by m threshold horizon None positive before is = absurd (cc)
missed_by m threshold horizon (Some n) positive before is = (is.low, grind (arith, ints))

missed_at : (T : SchedulerTables) (m : ℤ) (t : TriggerData) → IsTrue (is_interval T.threshold) → HasNextTime T.horizon t → is_waiting_misfired T m t ≡ true → IsMissed m t
unfolding is_misfired next_time
missed_at T m t interval has passes =
    let parts = and_parts (is_waiting t.state) (is_misfired T m t) passes in
    let late = (and_parts (not (int_eq t.spec.timing.misfire (negsuc 0))) (is_before (m -ℤ T.threshold) t.next) parts.1).1 in
    let both = missed_by m T.threshold T.horizon t.next (grind (arith, ints)) late has.1 in
    record { low = both.0; before = both.1 }

missed_each : (T : SchedulerTables) (m : ℤ) → TablesValid T → AllByRecursion (IsMissed m) (misfired_triggers T m)
unfolding misfired_triggers
missed_each T m valid =
    All-take (IsMissed m) MISFIRE_LIMIT (in_due_order (filter (is_waiting_misfired T m) T.triggers))
    (All-in_due_order (IsMissed m) (filter (is_waiting_misfired T m) T.triggers)
    (All-filter (IsMissed m) (is_waiting_misfired T m) T.triggers
    (All-weaker (HasNextTime T.horizon) (λ t. is_waiting_misfired T m t ≡ true → IsMissed m t) T.triggers
    (λ t has passes. missed_at T m t valid.references_and_limits.limits.threshold has passes) (each_next T valid))))

missed_prop : (m : ℤ) (ts : List TriggerData) → IsProp (AllByRecursion (IsMissed m) ts)
missed_prop m [] = hlevel props
missed_prop m (t ∷ ts) = hlevel (props, missed_prop m ts)

pub all_missed : (T : SchedulerTables) (m : ℤ) → ∥ TablesValid T ∥₁ → AllByRecursion (IsMissed m) (misfired_triggers T m)
all_missed T m valid = ∥∥₁_elim valid (missed_prop m (misfired_triggers T m)) (missed_each T m)

-- a moment is up to the last timestamp
pub up_to_last : (T : SchedulerTables) (m : ℤ) → ∥ TablesValid T ∥₁ → IsMoment T.horizon m → m ≤ℤ LAST
up_to_last T m valid is = ∥∥₁_elim valid (hlevel props) (λ v. (moment_up_to_last T m v is).high)

-- a valid trigger stays valid with a valid timing
pub fits : (t : TriggerData) (move : Moved) → IsTrue (is_trigger t) → IsTrue (is_timing (moved_timing move t.spec.timing)) → move.times ≤ TIMES_LIMIT → IsTrue (is_trigger (moved_trigger move t))
fits t move valid timing few =
    let spec : is_trigger_spec t.spec ≡ true = (and_parts (is_trigger_spec t.spec) _ valid).0 in
    let names = (and_parts (is_key t.spec.key && is_key t.spec.job && is_calendar t.spec.calendar) (is_timing t.spec.timing) spec).0 in
    and_from (is_key t.spec.key && is_key t.spec.job && is_calendar t.spec.calendar && is_timing (moved_timing move t.spec.timing)) (nat_le move.times TIMES_LIMIT)
    (and_from (is_key t.spec.key && is_key t.spec.job && is_calendar t.spec.calendar) (is_timing (moved_timing move t.spec.timing)) names timing) (le-leb move.times TIMES_LIMIT few)

snoc_all : (P : TriggerData → Type 0) (ts : List TriggerData) (t : TriggerData) → AllByRecursion P ts → P t → AllByRecursion P (ts ++ t ∷ [])
snoc_all P [] t all one = (one, tt)
snoc_all P (u ∷ us) t all one = (all.0, snoc_all P us t all.1 one)

-- one move more
pub one_more : {R : Type 0} (seen : R → TriggerData) (T : SchedulerTables) (m : ℤ) (xs : List R) (i : ℕ) (x : R) (old new : List Move) → i < length xs → x ≡ get_or xs i x
    → new ≡ old ++ move_for T m (seen x) ∷ [] → IsMovable T m (seen x)
    → (old ≡ map (move_for T m) (map seen (take i xs))) × AllByRecursion (IsMissed m) (map seen (drop i xs)) × AllByRecursion (IsMovable T m) (map seen (take i xs))
    → (new ≡ map (move_for T m) (map seen (take (i + 1) xs))) × AllByRecursion (IsMissed m) (map seen (drop (i + 1) xs)) × AllByRecursion (IsMovable T m) (map seen (take (i + 1) xs))
one_more seen T m xs i x old new less at grows movable so_far =
    let taken : take (i + 1) xs ≡ take i xs ++ x ∷ [] = take_more xs i x less ∙ ap (λ y. take i xs ++ y ∷ []) (sym at) in
    let one : suc i ≡ i + 1 = omega arith in
    let rest : drop i xs ≡ x ∷ drop (i + 1) xs = drop-cons xs i x less ∙ ap (λ y. y ∷ drop (suc i) xs) (sym at) ∙ ap (λ (n : ℕ). x ∷ drop n xs) one in
    let these : map seen (take (i + 1) xs) ≡ map seen (take i xs) ++ seen x ∷ [] = ap (map seen) taken ∙ map-append seen (take i xs) (x ∷ []) in (
      grows ∙ ap (λ ms. ms ++ move_for T m (seen x) ∷ []) so_far.0 ∙ sym (ap (map (move_for T m)) these ∙ map-append (move_for T m) (map seen (take i xs)) (seen x ∷ [])),
      (subst (λ rs. AllByRecursion (IsMissed m) (map seen rs)) rest so_far.1).1,
      subst (AllByRecursion (IsMovable T m)) (sym these) (snoc_all (IsMovable T m) (map seen (take i xs)) (seen x) so_far.2 movable),
    )

-- all of them
pub all_taken : {R : Type 0} (seen : R → TriggerData) (T : SchedulerTables) (m n : ℤ) (xs : List R) (i : ℕ) (moves : List Move) → n ≡ m → length xs ≤ i
    → (moves ≡ map (move_for T n) (map seen (take i xs))) × AllByRecursion (IsMissed n) (map seen (drop i xs)) × AllByRecursion (IsMovable T n) (map seen (take i xs))
    → (moves ≡ map (move_for T m) (map seen xs)) × AllByRecursion (IsMovable T m) (map seen xs)
all_taken seen T m n xs i moves moment whole so_far =
    let same : take i xs ≡ xs = take_all i xs whole in
    subst (λ (x : ℤ). (moves ≡ map (move_for T x) (map seen xs)) × AllByRecursion (IsMovable T x) (map seen xs)) moment
    (subst (λ ys. (moves ≡ map (move_for T n) (map seen ys)) × AllByRecursion (IsMovable T n) (map seen ys)) same (so_far.0, so_far.2))

pub same_move : (T : SchedulerTables) (m : ℤ) (t : TriggerData) (key : Key) (move : Moved) → key ≡ t.spec.key → move ≡ move_of T m t → record { key = key; moved = move } ≡ move_for T m t
same_move T m t key move own made = rw (own, made) refl
