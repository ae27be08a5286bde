-- Sets of seconds, minutes and hours of several cron texts, and their search minute by minute.
use Rattle.std.proofs.Common.{◌≡◌, ◌∙◌, refl, sym, ap, inl, inr, ℕ, ◌+◌, ◌-◌, ◌*◌, ◌/◌, ◌%◌, ◌<◌, ◌≤◌, max, Bool, true, false, not, ◌||◌, ◌==◌, arith, List, take, length, get_or}
use Rattle.std.specs.Prelude.{bit_or}
use Rattle.std.specs.Int.{bit_at}
use Rattle.std.proofs.lemmas.Bool.{cases_lt}
use Rattle.std.proofs.lemmas.List.Folds.{list_any_more}
use Rattle.std.proofs.lemmas.Nat.Bits.{bit_at_or, bit_at-zero, bit_at-lt}
use Rattle.qz_civil.specs.Fields.{has_bit}
use Rattle.qz_civil.specs.Least.{NoneIn, IsLeastIn}
use Rattle.qz_calendar.specs.declared.clocks.ClockFields.{ClockFields}
use Rattle.qz_calendar.specs.Search.{meets_at, any_meets_at, any_meets}

pub no_bit : (s : ℕ) → has_bit 0 s ≡ false
unfolding has_bit
no_bit s = rw (bit_at-zero s) refl

greater_one : (x y : ℕ) → x < 2 → y < 2 → (max x y == 1) ≡ ((x == 1) || (y == 1))
greater_one x y small_x small_y = grind arith

pub bit_of_either : (a b s : ℕ) → has_bit (bit_or a b) s ≡ (has_bit a s || has_bit b s)
unfolding has_bit
bit_of_either a b s = rw (bit_at_or a b s) (greater_one (bit_at a s) (bit_at b s) (bit_at-lt a s) (bit_at-lt b s))

pub ruleset clock_sets = (no_bit, bit_of_either)

-- one more of the fields
pub any_more : (fs : List ClockFields) (i : ℕ) (d : ClockFields) (met : ℕ) (set h m s : ℕ) → i < length fs → has_bit met s ≡ any_meets_at (take i fs) h m s → has_bit set s ≡ meets_at (get_or fs i d) h m s
    → has_bit (bit_or met set) s ≡ any_meets_at (take (i + 1) fs) h m s
any_more fs i d met set h m s within before one = bit_of_either met set s ∙ rw (before, one) (sym (list_any_more (λ f. meets_at f h m s) fs i d within))

in_either : (a b x y : Bool) → (a ≡ true → x ≡ true) → (b ≡ true → y ≡ true) → (a || b) ≡ true → (x || y) ≡ true
in_either true b x y p q h = rw (p refl) refl
in_either false true x y p q h = rw (q refl) (or_true x)
  where
    or_true : (x : Bool) → (x || true) ≡ true
    or_true true = refl
    or_true false = refl
in_either false false x y p q h = absurd cc

pub any_always : (fs : List ClockFields) (i : ℕ) (d : ClockFields) (met set h m s : ℕ) → i < length fs → (has_bit met s ≡ true → any_meets_at (take i fs) h m s ≡ true) → (has_bit set s ≡ true → meets_at (get_or fs i d) h m s ≡ true)
    → has_bit (bit_or met set) s ≡ true → any_meets_at (take (i + 1) fs) h m s ≡ true
any_always fs i d met set h m s within before one bit =
    list_any_more (λ f. meets_at f h m s) fs i d within ∙ in_either (has_bit met s) (has_bit set s) _ _ before one (sym (bit_of_either met set s) ∙ bit)

-- a second of the day by its minute
record IsSecond (m s : ℕ) : Type 0 where
  pub hour : (m * 60 + s) / 3600 ≡ m / 60
  pub minute : (m * 60 + s) % 3600 / 60 ≡ m % 60
  pub second : (m * 60 + s) % 3600 % 60 ≡ s

second : (minute s : ℕ) → s < 60 → IsSecond minute s
second minute s lt = record { hour = omega arith; minute = omega arith; second = omega arith }

at_second : (fs : List ClockFields) (minute s : ℕ) → s < 60 → any_meets fs (minute * 60 + s) ≡ any_meets_at fs (minute / 60) (minute % 60) s
at_second fs minute s lt = let p = second minute s lt in rw (p.hour, p.minute, p.second) refl

abbrev pub IsUnmet : List ClockFields → ℕ → Bool
IsUnmet fs s = not (any_meets fs s)

in_minute : (fs : List ClockFields) (minute k : ℕ) → minute * 60 ≤ k → k < minute * 60 + 60 → IsUnmet fs k ≡ not (any_meets_at fs (minute / 60) (minute % 60) (k - minute * 60))
in_minute fs minute k low high =
    let at : minute * 60 + (k - minute * 60) ≡ k = omega arith in
    ap not (ap (any_meets fs) (sym at) ∙ at_second fs minute (k - minute * 60) (omega arith))

-- none in the minute from `low` on
pub minute_none : (fs : List ClockFields) (from minute low : ℕ) → minute * 60 + low ≡ max from (minute * 60) → NoneIn (IsUnmet fs) from (minute * 60)
    → NoneIn (λ s. not (any_meets_at fs (minute / 60) (minute % 60) s)) low 60 → NoneIn (IsUnmet fs) from ((minute + 1) * 60)
minute_none fs from minute low starts before none k a b =
    elim (cases_lt k (minute * 60)) [
      | inl lt ↦ before k a lt
      | inr ge ↦ in_minute fs minute k ge (omega arith) ∙ none (k - minute * 60) (omega arith) (omega arith)
    ]

pub minute_first : (fs : List ClockFields) (from minute low s : ℕ) → minute < 1440 → minute * 60 + low ≡ max from (minute * 60) → NoneIn (IsUnmet fs) from (minute * 60)
    → IsLeastIn (λ s. not (any_meets_at fs (minute / 60) (minute % 60) s)) low 60 s → IsLeastIn (IsUnmet fs) from 86400 (minute * 60 + s)
minute_first fs from minute low s within starts before first =
    let from_low = first.low in
    let below = first.high in
    record {
      low = omega arith;
      high = omega arith;
      passes = ap not (at_second fs minute s below) ∙ first.passes;
      none = λ k a b. elim (cases_lt k (minute * 60)) [
        | inl lt ↦ before k a lt
        | inr ge ↦ in_minute fs minute k ge (omega arith) ∙ first.none (k - minute * 60) (omega arith) (omega arith)
      ];
    }
