-- The first second of a local clock, day by day.
use Rattle.std.proofs.Common.{◌≡◌, ℕ, ◌+◌, ◌-◌, ◌*◌, ◌/◌, ◌%◌, ◌<◌, ◌≤◌, inl, inr, refl, sym, ap, ◌∙◌, ◌&&◌, arith}
use Rattle.std.proofs.lemmas.Bool.{cases_lt}
use Rattle.qz_civil.specs.declared.limits.TheConstants.{DAY_SECONDS}
use Rattle.qz_civil.specs.Dates.{weekday_of}
use Rattle.qz_civil.specs.Least.{IsLeastIn, NoneIn}
use Rattle.qz_daily.specs.declared.patterns.Pattern.{Pattern}
use Rattle.qz_daily.specs.Search.{has_day, is_second}
use Rattle.qz_daily.specs.Timestamps.{is_time, is_weekday}

-- the time of the day is found, as its second
at-time : (p : Pattern) (day time : ℕ) → time < DAY_SECONDS → is_second p (day * DAY_SECONDS + time) ≡ (has_day p day && is_time p time)
at-time p day time lt =
    let d : (day * DAY_SECONDS + time) / DAY_SECONDS ≡ day = omega arith in
    let t : (day * DAY_SECONDS + time) % DAY_SECONDS ≡ time = omega arith in
    rw (d, t) refl

-- after eight days the weekdays and times have all been looked at
pub none-ever : (p : Pattern) (floor : ℕ) → NoneIn (is_second p) floor ((floor / DAY_SECONDS + 8) * DAY_SECONDS) → (end : ℕ) → NoneIn (is_second p) floor end
none-ever p floor none end s from to =
    elim (cases_lt s ((floor / DAY_SECONDS + 8) * DAY_SECONDS)) [
      | inl lt ↦ none s from lt
      | inr ge ↦
          let first : ℕ = floor / DAY_SECONDS + 1 in
          let day : ℕ = first + (s / DAY_SECONDS - first) % 7 in
          let again : weekday_of day ≡ weekday_of (s / DAY_SECONDS) = omega arith in
          let same : is_second p (day * DAY_SECONDS + s % DAY_SECONDS) ≡ is_second p s = at-time p day (s % DAY_SECONDS) (omega arith) ∙ ap (λ w. is_weekday p w && is_time p (s % DAY_SECONDS)) again in
          sym same ∙ none (day * DAY_SECONDS + s % DAY_SECONDS) (omega arith) (omega arith)
    ]

-- cut at the end of a span
pub first-in : (p : Pattern) (floor shift end second n : ℕ) → IsLeastIn (is_second p) (floor + shift) (second + 1) second → second ≡ n + shift → n < end → IsLeastIn (λ s. is_second p (s + shift)) floor end n
first-in p floor shift end second n first at lt = record {
  low = (let low = first.low in omega arith);
  high = lt;
  passes = ap (is_second p) (sym at) ∙ first.passes;
  none = λ s from to. first.none (s + shift) (omega arith) (omega arith);
}

pub none-in : (p : Pattern) (floor shift end second : ℕ) → IsLeastIn (is_second p) (floor + shift) (second + 1) second → end + shift ≤ second → NoneIn (λ s. is_second p (s + shift)) floor end
none-in p floor shift end second first late s from to = first.none (s + shift) (omega arith) (omega arith)
