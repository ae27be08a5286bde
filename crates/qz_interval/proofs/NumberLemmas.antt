-- Days and their numbers, and turns by numbers.
use Rattle.std.proofs.Common.{◌≡◌, ℕ, ◌+◌, ◌*◌, ◌/◌, ◌<◌, ◌≤◌, inl, inr, sym, ◌∙◌, ap, arith, rules, Option, Some, None, IsSome, IfNone}
use Rattle.std.proofs.lemmas.Bool.{cases_lt}
use Rattle.std.proofs.lemmas.Nat.{mul-le}
use Rattle.qz_civil.specs.declared.occurrences.Occurrence.{Occurrence}
use Rattle.qz_civil.specs.Months.{day_in_month, month_number}
use Rattle.qz_civil.specs.Occurrences.{IsOccurrence}
use Rattle.qz_civil.proofs.MonthLemmas.{month_of-rises, month_of-last, date_of-same}
use Rattle.qz_interval.specs.declared.turns.Count.{Count}
use Rattle.qz_interval.specs.declared.turns.Count.TheVariants.{Days, Months}
use Rattle.qz_interval.specs.declared.turns.Turns.{Turns}
use Rattle.qz_interval.specs.Turns.{number_of, HasNumber, IsClockAt, IsTurnOf}

-- Days by their numbers.

pub number_of-rises : (c : Count) (d e : ℕ) → d ≤ e → number_of c d ≤ number_of c e
number_of-rises Days d e le = le
number_of-rises (Months of_month) d e le = month_of-rises d e le

pub month_number-day_in_month : (n d : ℕ) → month_number (day_in_month n d) ≡ n
month_number-day_in_month n d = omega arith

pub has_number : (c : Count) (n day : ℕ) → HasNumber c n day → number_of c day ≡ n
has_number Days n day h = h
has_number (Months of_month) n day h = ap month_number h ∙ month_number-day_in_month n of_month

pub has_number-same : (c : Count) (n d e : ℕ) → HasNumber c n d → HasNumber c n e → d ≡ e
has_number-same Days n d e h k = h ∙ sym k
has_number-same (Months of_month) n d e h k = date_of-same d e (h ∙ sym k)

-- from February 2200 on a day is late
pub late_month : (number of_month day : ℕ) → 26401 ≤ number → HasNumber (Months of_month) number day → 84008 ≤ day
late_month number of_month day le h = elim (cases_lt day 84008) [
  | inl lt ↦ absurd (omega (arith, month_of-last day (omega arith), has_number (Months of_month) number day h))
  | inr ge ↦ ge
]

-- Turns by their places.

pub has_turn : (first step from : ℕ) (o : Option Occurrence) → 1 ≤ step → IfNone o ((j : ℕ) → from ≤ first + j * step → ⊥) → IsSome o
has_turn first step from None some none = absurd (none from (omega (arith, mul-le from 1 from step (omega arith) some)))
has_turn first step from (Some turn) some none = search rules

pub before_turn : (first step from place k : ℕ) → IsOccurrence first step from place → k < place → first + k * step < from
before_turn first step from place k turn lt = elim (cases_lt (first + k * step) from) [
  | inl under ↦ under
  | inr over ↦ absurd (omega (arith, turn.first k over))
]

pub from_turn : (first step from place k : ℕ) → IsOccurrence first step from place → place ≤ k → from ≤ first + k * step
from_turn first step from place k turn le = omega (arith, turn.reached, mul-le place step k step le (omega arith))

pub places_rise : (first step j k : ℕ) → 1 ≤ step → j < k → first + j * step < first + k * step
places_rise first step j k some lt =
    let e : (j + 1) * step ≡ j * step + step = grind arith in
    omega (arith, e, mul-le (j + 1) step k step (omega arith) (omega arith))

-- Clocks at turns.

pub clock-number : (turns : Turns) (n m : ℕ) → IsClockAt turns n m → number_of turns.count (m / 86400000) ≡ n
clock-number turns n m h = has_number turns.count n (m / 86400000) h.day

-- a turn in an earlier month, or on an earlier day, shows less than the clock does
pub clock-earlier : (turns : Turns) (n m clock : ℕ) → IsClockAt turns n m → n < number_of turns.count (clock / 86400000) → m < clock
clock-earlier turns n m clock h lt = elim (cases_lt (m / 86400000) (clock / 86400000)) [
  | inl before ↦ omega arith
  | inr ge ↦ absurd (omega (arith, clock-number turns n m h, number_of-rises turns.count (clock / 86400000) (m / 86400000) ge))
]

pub clocks_rise : (turns : Turns) (a b m n : ℕ) → IsClockAt turns a m → IsClockAt turns b n → a < b → m < n
clocks_rise turns a b m n h k lt = clock-earlier turns a m n h (omega (arith, clock-number turns b n k))

pub clock-same : (turns : Turns) (a m n : ℕ) → IsClockAt turns a m → IsClockAt turns a n → m ≡ n
clock-same turns a m n h k =
    let day = has_number-same turns.count a (m / 86400000) (n / 86400000) h.day k.day in
    let time = h.time ∙ sym k.time in
    omega arith

pub turns_rise : (turns : Turns) (j k m n : ℕ) → IsTurnOf turns j m → IsTurnOf turns k n → j < k → m < n
turns_rise turns j k m n h i lt = clocks_rise turns _ _ m n h i (places_rise turns.first turns.step j k turns.steps lt)
