-- The days of one month that meet the two fields on days.
use Rattle.std.proofs.Common.{◌≡◌, ℕ, ◌+◌, ◌-◌, ◌*◌, ◌/◌, ◌<◌, ◌≤◌, ◌⊎◌, inl, inr, Bool, true, false, ◌&&◌, ◌==◌, nat_lt, nat_le, Option, Some, None, option_map, refl, arith, max, min}
use Rattle.std.specs.Int.{IsInRange}
use Rattle.std.proofs.lemmas.Bool.{and_left, and_right}
use Rattle.qz_civil.specs.declared.fields.DayField.TheVariants as days
use Rattle.qz_civil.specs.declared.fields.WeekField.TheVariants as weeks
use Rattle.qz_civil.specs.Fields.{has_bit, in_days, in_week, nearest, weekday_at}
use Rattle.qz_civil.specs.Least.{NoneIn, IsFirst}
use Rattle.qz_cron.specs.Search.{weekday_in}
use Rattle.qz_cron.proofs.Firsts.{first_same, first_within}

-- weekdays

differs : (a b : ℕ) → (a ≡ b → ⊥) → (a == b) ≡ false
differs a b h = grind arith

same : (a b : ℕ) → a ≡ b → (a == b) ≡ true
same a b h = grind arith

-- the day of the week

and_true : (b : Bool) → (b && true) ≡ b
and_true true = refl
and_true false = refl

last_outside : (length start d a : ℕ) → d < length - 6 → in_week (weeks.Last a) length d (weekday_in start d) ≡ false
unfolding in_week
last_outside length start d a lt = let late : nat_lt length (d + 7) ≡ false = grind arith in and_right _ _ late

last_inside : (length start d a : ℕ) → length - 6 ≤ d → in_week (weeks.Last a) length d (weekday_in start d) ≡ (weekday_in start d == a)
unfolding in_week
last_inside length start d a le = let late : nat_lt length (d + 7) ≡ true = grind arith in rw late (and_true _)

pub any_week : (start length low : ℕ) (r : Option ℕ) → IsFirst (λ d. true) low (length + 1) r → IsFirst (λ d. in_week weeks.Any length d (weekday_in start d)) low (length + 1) r
unfolding in_week
any_week start length low r h = h

pub week_set : (set start length low : ℕ) (r : Option ℕ) → IsFirst (λ d. has_bit set (weekday_in start d - 1)) low (length + 1) r → IsFirst (λ d. in_week (weeks.Set set) length d (weekday_in start d)) low (length + 1) r
unfolding in_week
week_set set start length low r h = h

pub first_is_last : (start length low a : ℕ) (r : Option ℕ) → IsFirst (λ d. weekday_in start d == a) (max low (length - 6)) (length + 1) r → IsFirst (λ d. in_week (weeks.Last a) length d (weekday_in start d)) low (length + 1) r
first_is_last start length low a r h =
    first_within _ _ low (max low (length - 6)) (length + 1) (length + 1) r (omega arith) (omega arith)
    (λ k from to out. last_outside length start k a (elim out [ inl lt ↦ omega arith | inr ge ↦ absurd (omega arith) ]))
    (λ k from to. last_inside length start k a (omega arith)) h

nth_outside : (length start d a nth : ℕ) → 1 ≤ d → (d < 7 * nth - 6) ⊎ (7 * nth < d) → in_week (weeks.Nth a nth) length d (weekday_in start d) ≡ false
unfolding in_week
nth_outside length start d a nth some (inl lt) = and_right _ _ (differs ((d + 6) / 7) nth (λ e. omega arith))
nth_outside length start d a nth some (inr gt) = and_right _ _ (differs ((d + 6) / 7) nth (λ e. omega arith))

nth_inside : (length start d a nth : ℕ) → 1 ≤ d → 7 * nth - 6 ≤ d → d ≤ 7 * nth → in_week (weeks.Nth a nth) length d (weekday_in start d) ≡ (weekday_in start d == a)
unfolding in_week
nth_inside length start d a nth some low high =
    let week : (d + 6) / 7 ≡ nth = omega arith in
    rw (same _ _ week) (and_true _)

nth_window : (length low nth k : ℕ) → k < length + 1 → low ≤ k → (k < max low (7 * nth - 6)) ⊎ (min (7 * nth) length + 1 ≤ k) → (k < 7 * nth - 6) ⊎ (7 * nth < k)
nth_window length low nth k to from (inl lt) = inl (omega arith)
nth_window length low nth k to from (inr ge) = inr (omega arith)

pub first_is_nth : (start length low a nth : ℕ) (r : Option ℕ) → 1 ≤ low → IsFirst (λ d. weekday_in start d == a) (max low (7 * nth - 6)) (min (7 * nth) length + 1) r → IsFirst (λ d. in_week (weeks.Nth a nth) length d (weekday_in start d)) low (length + 1) r
first_is_nth start length low a nth r some h =
    first_within _ _ low (max low (7 * nth - 6)) (min (7 * nth) length + 1) (length + 1) r (omega arith) (omega arith)
    (λ k from to out. nth_outside length start k a nth (omega arith) (nth_window length low nth k to from out))
    (λ k from to. nth_inside length start k a nth (omega arith) (omega arith) (omega arith)) h

-- the day of the month

weekday_at-in : (start d a : ℕ) → IsInRange 1 31 d → IsInRange 1 31 a → weekday_at d (weekday_in start d) a ≡ weekday_in start a
weekday_at-in start d a h k = omega (arith, h.0, h.1, k.0, k.1)

pub first_is_day : (set low length : ℕ) (start : ℕ) (r : Option ℕ) → 1 ≤ low → IsFirst (has_bit set) (low - 1) length r → IsFirst (λ d. in_days (days.Set set) length d (weekday_in start d)) low (length + 1) (option_map (λ v. v + 1) r)
unfolding in_days
first_is_day set low length start None some none = λ k from to. none (k - 1) (omega arith) (omega arith)
first_is_day set low length start (Some v) some f =
    let a = f.low in
    let b = f.high in
    let back : v + 1 - 1 ≡ v = omega arith in
    record {
      low = omega arith;
      high = omega arith;
      passes = rw back f.passes;
      none = λ k from to. f.none (k - 1) (omega arith) (omega arith);
    }

pub any_day : (start length low : ℕ) (r : Option ℕ) → IsFirst (λ d. true) low (length + 1) r → IsFirst (λ d. in_days days.Any length d (weekday_in start d)) low (length + 1) r
unfolding in_days
any_day start length low r h = h

sums_to : (d back length : ℕ) → 1 ≤ d → (d + back == length) ≡ (d == length - back)
sums_to d back length some = grind arith

pub first_is_before_last : (start length low back : ℕ) (r : Option ℕ) → 1 ≤ low → IsFirst (λ d. d == length - back) low (length + 1) r → IsFirst (λ d. in_days (days.Last back) length d (weekday_in start d)) low (length + 1) r
unfolding in_days
first_is_before_last start length low back r some = first_same _ _ _ _ r (λ k from to. sums_to k back length (omega arith))

pub first_is_last_weekday : (start length low : ℕ) (r : Option ℕ) → 1 ≤ low → IsInRange 28 31 length → IsFirst (λ d. d == nearest length length (weekday_in start length)) low (length + 1) r → IsFirst (λ d. in_days days.LastWeekday length d (weekday_in start d)) low (length + 1) r
unfolding in_days
first_is_last_weekday start length low r some h =
    first_same _ _ _ _ r (λ k from to. let e : weekday_at k (weekday_in start k) length ≡ weekday_in start length = weekday_at-in start k length (omega (arith, h.1)) (omega (arith, h.0, h.1)) in rw e refl)

pub first_is_nearest : (start length low a : ℕ) (r : Option ℕ) → 1 ≤ low → IsInRange 28 31 length → IsInRange 1 length a → IsFirst (λ d. d == nearest length a (weekday_in start a)) low (length + 1) r → IsFirst (λ d. in_days (days.Nearest a) length d (weekday_in start d)) low (length + 1) r
unfolding in_days
first_is_nearest start length low a r some h in_month =
    let low_a : nat_le 1 a ≡ true = (let x = in_month.0 in grind arith) in
    let high_a : nat_le a length ≡ true = (let x = in_month.1 in grind arith) in
    first_same _ _ _ _ r (λ k from to. let e : weekday_at k (weekday_in start k) a ≡ weekday_in start a = weekday_at-in start k a (omega (arith, h.1)) (omega (arith, h.1, in_month.0, in_month.1)) in rw (low_a, high_a, e) refl)

pub none_is_nearest : (start length low a : ℕ) → (a < 1) ⊎ (length < a) → NoneIn (λ d. in_days (days.Nearest a) length d (weekday_in start d)) low (length + 1)
unfolding in_days
none_is_nearest start length low a (inl lt) k from to = let no : nat_le 1 a ≡ false = grind arith in rw no refl
none_is_nearest start length low a (inr gt) k from to = let no : nat_le a length ≡ false = grind arith in and_left _ _ (and_right _ _ no)
