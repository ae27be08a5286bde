-- The first value of a set of bits, of a set in words and of the years.
use Rattle.std.proofs.Common.{◌≡◌, ℕ, ◌+◌, ◌-◌, ◌*◌, ◌/◌, ◌%◌, ◌^◌, ◌<◌, ◌≤◌, Bool, true, false, ◌==◌, ◌&&◌, List, slice_index, inl, inr, refl, ap, ◌∙◌, arith, w64, max}
use Rattle.std.specs.Int.{bit_at, trailing_zeros, IsInRange}
use Rattle.std.proofs.lemmas.Bool.{and_parts, cases_lt}
use Rattle.std.proofs.lemmas.Nat.{shr-shr}
use Rattle.std.proofs.lemmas.Nat.Bits.{bit_at-zero, bit_at-trailing_zeros}
use Rattle.qz_civil.specs.declared.fields.CronFields.{CronFields}
use Rattle.qz_civil.specs.declared.limits.TheConstants.{LAST_YEAR}
use Rattle.qz_civil.specs.Fields.{has_bit, has_word, in_years, is_value, least, greatest, size}
use Rattle.qz_civil.specs.Least.{NoneIn, IsLeastIn}
use Rattle.qz_cron.specs.declared.months.TheConstants.{END_MONTH, END_YEAR, FIRST_MONTH, YEARS}
use Rattle.qz_cron.specs.Search.{meets_month}

has-bit : (set i bit : ℕ) → bit_at set i ≡ bit → has_bit set i ≡ (bit == 1)
unfolding has_bit
has-bit set i bit e = ap (λ b. b == 1) e

has-shifted : (set from k : ℕ) → from ≤ k → has_bit set k ≡ has_bit (set / 2 ^ from) (k - from)
unfolding has_bit
has-shifted set from k le =
    let e : from + (k - from) ≡ k = omega arith in
    rw (shr-shr set from (k - from), e) refl

-- what is left of a set from a place on is 0
pub none_left : (set from to : ℕ) → set / 2 ^ from ≡ 0 → NoneIn (has_bit set) from to
none_left set from to e k low high =
    has-shifted set from k low ∙ (rw e (has-bit 0 (k - from) 0 (bit_at-zero (k - from))))

pub first_left : (set from : ℕ) → 0 < set / 2 ^ from → set / 2 ^ from < 2 ^ 64 → IsLeastIn (has_bit set) from (from + 64) (from + trailing_zeros w64 (set / 2 ^ from))
first_left set from some fits =
    let rest : ℕ = set / 2 ^ from in
    let t : ℕ = trailing_zeros w64 rest in
    let low = bit_at-trailing_zeros w64 rest some fits in
    let place : from + t - from ≡ t = omega arith in
    record {
      low = omega arith;
      high = omega (arith, low.0);
      passes = has-shifted set from (from + t) (omega arith) ∙ (rw place (has-bit rest t 1 low.1));
      none = λ k a b. has-shifted set from k a ∙ has-bit rest (k - from) 0 (low.2 (k - from) (omega arith));
    }

-- sets in words

of_word : (words : List ℕ) (word k : ℕ) → k / 64 ≡ word → has_word words k ≡ has_bit (slice_index words word) (k % 64)
unfolding has_word
of_word words word k e = rw e refl

pub none_in_word : (words : List ℕ) (word low : ℕ) → low / 64 ≡ word → NoneIn (has_bit (slice_index words word)) (low % 64) 64 → NoneIn (has_word words) low (word * 64 + 64)
none_in_word words word low e none k from to = of_word words word k (omega arith) ∙ none (k % 64) (omega arith) (omega arith)

pub first_in_word : (words : List ℕ) (word low bit : ℕ) → low / 64 ≡ word → word < 4 → IsLeastIn (has_bit (slice_index words word)) (low % 64) 64 bit → IsLeastIn (has_word words) low 256 (word * 64 + bit)
first_in_word words word low bit e small f =
    let a = f.low in
    let b = f.high in
    let place : (word * 64 + bit) % 64 ≡ bit = omega arith in
    record {
      low = omega arith;
      high = omega arith;
      passes = of_word words word (word * 64 + bit) (omega arith) ∙ (rw place f.passes);
      none = λ k from to. of_word words word k (omega arith) ∙ f.none (k % 64) (omega arith) (omega arith);
    }

-- years

years_of : (f : CronFields) (place : ℕ) → place < YEARS → in_years f (1970 + place) ≡ has_word f.years place
unfolding in_years is_value least greatest size
years_of f place lt = let back : 1970 + place - 1970 ≡ place = omega arith in rw back (grind arith)

years_before : (f : CronFields) (y : ℕ) → y < 1970 → in_years f y ≡ false
unfolding in_years is_value least greatest size
years_before f y lt = grind arith

pub none_of_years : (f : CronFields) (from : ℕ) → NoneIn (has_word f.years) (max from 1970 - 1970) YEARS → NoneIn (in_years f) from END_YEAR
none_of_years f from none y low high =
    elim (cases_lt y 1970) [
      | inl lt ↦ years_before f y lt
      | inr ge ↦
          let is : 1970 + (y - 1970) ≡ y = omega arith in
          rw is at (years_of f (y - 1970) (omega arith) ∙ none (y - 1970) (omega arith) (omega arith))
    ]

pub first_of_years : (f : CronFields) (from place : ℕ) → IsLeastIn (has_word f.years) (max from 1970 - 1970) YEARS place → IsLeastIn (in_years f) from END_YEAR (1970 + place)
first_of_years f from place first =
    let a = first.low in
    let b = first.high in
    record {
      low = omega arith;
      high = omega arith;
      passes = years_of f place b ∙ first.passes;
      none = λ y low high. elim (cases_lt y 1970) [
        | inl lt ↦ years_before f y lt
        | inr ge ↦
            let is : 1970 + (y - 1970) ≡ y = omega arith in
            rw is at (years_of f (y - 1970) (omega arith) ∙ first.none (y - 1970) (omega arith) (omega arith))
      ];
    }

pub year-range : (f : CronFields) (y : ℕ) → in_years f y ≡ true → IsInRange 1970 LAST_YEAR y
unfolding in_years is_value least greatest size
year-range f y h = grind arith

pub month-range : (f : CronFields) (number : ℕ) → meets_month f number ≡ true → IsInRange FIRST_MONTH (END_MONTH - 1) number
month-range f number h =
    let year = year-range f (number / 12) (and_parts _ _ h).0 in
    omega (arith, year.0, year.1)

pub has_year : (f : CronFields) (y : ℕ) (low : Bool) → (in_years f y && low) ≡ true → y < END_YEAR
has_year f y low h = let year = year-range f y (and_parts _ _ h).0 in omega (arith, year.1)
