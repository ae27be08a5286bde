-- The least fire time after a timestamp, as a function.
use Rattle.std.proofs.Common.{◌≡◌, refl, ℕ, zero, suc, ◌+◌, ◌-◌, inl, inr, Bool, true, false, ℤ, pos, negsuc, ◌+ℤ◌, ◌<ℤ◌, ◌≤ℤ◌, unsigned_abs, List, Option, Some, None, arith}
use Rattle.std.proofs.lemmas.Bool.{cases_Bool}
use Rattle.std.specs.Bool.{Decides}
use Rattle.std.proofs.lemmas.Int.{ints, by_lt_z}
use Rattle.qz_civil.specs.declared.limits.TheConstants.{LAST}
use Rattle.qz_civil.specs.declared.stretches.Stretch.{Stretch}
use Rattle.qz_civil.specs.declared.timings.Timing.{Timing}
use Rattle.qz_civil.specs.Least.{IsLeast, IsNext}
use Rattle.qz_calendar.specs.Chains.{ZonedCalendar}
use Rattle.qz_plan.specs.FireTimes.{IsFireTime}
use Rattle.qz_plan.specs.Plan.{first_from, fire_time_after, is_fire_time}

-- what is known of the first of so many timestamps from t on that passes
record IsFound (passes : ℤ → Bool) (n : ℕ) (t s : ℤ) : Type 0 where
  low : t ≤ℤ s
  high : s <ℤ (t +ℤ pos n)
  passed : passes s ≡ true
  first : (u : ℤ) → passes u ≡ true → t ≤ℤ u → s ≤ℤ u

here : (passes : ℤ → Bool) (n : ℕ) (t s : ℤ) → passes t ≡ true → t ≡ s → IsFound passes (suc n) t s
here passes n t s holds same = record {
  low = omega (arith, ints);
  high = omega (arith, ints);
  passed = rw (← same) holds;
  first = λ u passed le. omega (arith, ints);
}

-- what passes from t on passes later, where t doesn't
after : (passes : ℤ → Bool) (t u : ℤ) → passes t ≡ false → passes u ≡ true → t ≤ℤ u → (t +ℤ pos 1) ≤ℤ u
after passes t u fails holds le = by_lt_z t u (λ lt. omega (arith, ints)) (λ ge. let same : t ≡ u = omega (arith, ints) in let passed : passes u ≡ false = rw same at fails in cc)

later : (passes : ℤ → Bool) (n : ℕ) (t s : ℤ) → passes t ≡ false → IsFound passes n (t +ℤ pos 1) s → IsFound passes (suc n) t s
later passes n t s fails found = record {
  low = omega (arith, ints, found.low);
  high = omega (arith, ints, found.high);
  passed = found.passed;
  first = λ u passed le. found.first u passed (after passes t u fails passed le);
}

first_from-found : (passes : ℤ → Bool) (n : ℕ) (t s : ℤ) → first_from passes n t ≡ Some s → IsFound passes n t s
first_from-found passes zero t s is = cc
first_from-found passes (suc n) t s is = elim (cases_Bool (passes t)) [
  | inl holds ↦ (let same : Some t ≡ Some s = rw holds at is in here passes n t s holds cc)
  | inr fails ↦ (let rest : first_from passes n (t +ℤ pos 1) ≡ Some s = rw fails at is in later passes n t s fails (first_from-found passes n (t +ℤ pos 1) s rest))
]

first_from-none : (passes : ℤ → Bool) (n : ℕ) (t : ℤ) → first_from passes n t ≡ None → (u : ℤ) → passes u ≡ true → t ≤ℤ u → u <ℤ (t +ℤ pos n) → ⊥
first_from-none passes zero t is u holds low high = omega (arith, ints)
first_from-none passes (suc n) t is u holds low high = elim (cases_Bool (passes t)) [
  | inl passed ↦ (let same : Some t ≡ None = rw passed at is in cc)
  | inr fails ↦ (let rest : first_from passes n (t +ℤ pos 1) ≡ None = rw fails at is in first_from-none passes n (t +ℤ pos 1) rest u holds (after passes t u fails holds low) (omega (arith, ints)))
]

-- the fire time comes after t, and up to LAST
pub fire_time_within : (timing : Timing) (zone : List Stretch) (chain : List ZonedCalendar) (t s : ℤ) → negsuc 0 ≤ℤ t → fire_time_after timing zone chain t ≡ Some s → (t <ℤ s) × (s ≤ℤ LAST)
unfolding fire_time_after
fire_time_within timing zone chain t s low is =
    let found = first_from-found (is_fire_time timing zone chain) (unsigned_abs LAST + 1 - unsigned_abs (t +ℤ pos 1)) (t +ℤ pos 1) s is in
    (omega (arith, ints, found.low), omega (arith, ints, found.high))

-- The first that passes is the next of a set, where the test decides the timestamps of the set.

abbrev pub DecidesTimestamps : (ℤ → Bool) → (ℤ → Type 0) → Type 0
DecidesTimestamps passes Member = (u : ℤ) → pos 0 ≤ℤ u → u ≤ℤ LAST → Decides (passes u) (Member u)

least_found : (passes : ℤ → Bool) (Member : ℤ → Type 0) (n : ℕ) (t s : ℤ) → DecidesTimestamps passes Member → negsuc 0 ≤ℤ t → s ≤ℤ LAST → IsFound passes n (t +ℤ pos 1) s → IsLeast LAST Member t s
least_found passes Member n t s decides low high found = record {
  member = (decides s (omega (arith, ints, found.low)) high).0 found.passed;
  later = omega (arith, ints, found.low);
  within = high;
  least = λ u member over. by_lt_z LAST u
      (λ past. omega (arith, ints))
      (λ known. found.first u ((decides u (omega (arith, ints)) known).1 member) (omega (arith, ints)));
}

next_found : (passes : ℤ → Bool) (Member : ℤ → Type 0) (n : ℕ) (t : ℤ) (r : Option ℤ) → DecidesTimestamps passes Member → negsuc 0 ≤ℤ t → n ≡ unsigned_abs LAST + 1 - unsigned_abs (t +ℤ pos 1) → first_from passes n (t +ℤ pos 1) ≡ r → IsNext LAST Member t r
next_found passes Member n t None decides low many is = λ u member over known.
    first_from-none passes n (t +ℤ pos 1) is u ((decides u (omega (arith, ints)) known).1 member) (omega (arith, ints)) (omega (arith, ints))
next_found passes Member n t (Some s) decides low many is =
    let found = first_from-found passes n (t +ℤ pos 1) s is in
    least_found passes Member n t s decides low (omega (arith, ints, found.low, found.high)) found

pub fire_time_least : (timing : Timing) (zone : List Stretch) (chain : List ZonedCalendar) (t : ℤ) → DecidesTimestamps (is_fire_time timing zone chain) (IsFireTime timing zone chain) → negsuc 0 ≤ℤ t → IsNext LAST (IsFireTime timing zone chain) t (fire_time_after timing zone chain t)
unfolding fire_time_after
fire_time_least timing zone chain t decides low = next_found _ _ _ t _ decides low refl refl
