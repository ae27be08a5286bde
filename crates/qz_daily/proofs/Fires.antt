-- From the seconds of a zone to the timestamps of a trigger.
use Rattle.std.proofs.Common.{◌≡◌, ℕ, ◌+◌, ◌*◌, ◌/◌, ◌%◌, ◌<◌, ◌≤◌, inl, inr, true, false, refl, sym, ap, ◌∙◌, ◌&&◌, arith, ℤ, pos, ◌<ℤ◌, ◌≤ℤ◌, List, Option, Some, None, IfSome, IfNone}
use Rattle.std.proofs.lemmas.Bool.{cases_lt}
use Rattle.std.proofs.lemmas.Int.{ints}
use Rattle.qz_civil.specs.declared.limits.TheConstants.{DAY_MS, DAY_SECONDS, LAST, SECONDS}
use Rattle.qz_civil.specs.declared.stretches.Stretch.{Stretch}
use Rattle.qz_civil.specs.Dates.{civil_of}
use Rattle.qz_civil.specs.Least.{IsLeastIn, IsNext, NoneIn}
use Rattle.qz_civil.specs.Occurrences.{IsBefore, IsPast}
use Rattle.qz_civil.specs.Zones.{civil, local}
use Rattle.qz_daily.specs.declared.patterns.Pattern.{Pattern}
use Rattle.qz_daily.specs.Search.{is_at, is_second}
use Rattle.qz_daily.specs.Timestamps.{IsDaily, is_time, is_weekday}

-- a second of the zone is one of its local clock
at-shift : (p : Pattern) (zone : List Stretch) (s x : ℕ) → local zone (pos (s * 1000)) ≡ x * 1000 → is_at p zone s ≡ is_second p x
at-shift p zone s x shown =
    let day : x * 1000 / DAY_MS ≡ x / DAY_SECONDS = omega arith in
    let time : x * 1000 % DAY_MS / 1000 ≡ x % DAY_SECONDS = omega arith in
    ap (λ n. is_weekday p (civil_of n).weekday && is_time p (civil_of n).second) shown ∙ rw (day, time) refl

-- the local clock runs on evenly from one second to another
abbrev IsEven : List Stretch → ℕ → ℕ → ℕ → Type 0
IsEven zone shift from end = (s : ℕ) → from ≤ s → s < end → local zone (pos (s * 1000)) ≡ (s + shift) * 1000

pub none-there : (p : Pattern) (zone : List Stretch) (floor start shift end : ℕ) → IsEven zone shift start end → NoneIn (is_at p zone) floor start → NoneIn (λ s. is_second p (s + shift)) start end → NoneIn (is_at p zone) floor end
none-there p zone floor start shift end even before none s from to =
    elim (cases_lt s start) [
      | inl lt ↦ before s from lt
      | inr ge ↦ at-shift p zone s (s + shift) (even s ge to) ∙ none s ge to
    ]

pub first-there : (p : Pattern) (zone : List Stretch) (floor start shift end last second : ℕ) → IsEven zone shift start end → floor ≤ start → end ≤ last → NoneIn (is_at p zone) floor start → IsLeastIn (λ s. is_second p (s + shift)) start end second → IsLeastIn (is_at p zone) floor last second
first-there p zone floor start shift end last second even le ends before first =
    let low = first.low in
    let high = first.high in
    record {
      low = omega arith;
      high = omega arith;
      passes = at-shift p zone second (second + shift) (even second first.low first.high) ∙ first.passes;
      none = none-there p zone floor start shift second (λ s a b. even s a (omega arith)) before first.none;
    }

-- The first second from a floor on gives the least timestamp.

in-time : (p : Pattern) (zone : List Stretch) (start : ℤ) (end : Option ℤ) (t : ℤ) → (d : IsDaily start end p zone t) → is_at p zone d.second ≡ false → ⊥
in-time p zone start end t d e =
    let both : is_weekday p (civil zone t).weekday && is_time p (civil zone t).second ≡ true = rw (d.day, d.time) refl in
    let yes : is_at p zone d.second ≡ true = ap (λ u. is_weekday p (civil zone u).weekday && is_time p (civil zone u).second) (sym d.whole) ∙ both in
    cc

-- the second that the floor is of: none before it begins at `start` or later and after `after`
abbrev IsFloor : ℤ → ℤ → ℕ → Type 0
IsFloor start after floor = (s : ℕ) → start ≤ℤ pos (s * 1000) → after <ℤ pos (s * 1000) → floor ≤ s

pub none-later : (p : Pattern) (zone : List Stretch) (start : ℤ) (end : Option ℤ) (after : ℤ) (floor : ℕ) → IsFloor start after floor → NoneIn (is_at p zone) floor SECONDS → IsNext LAST (IsDaily start end p zone) after None
none-later p zone start end after floor least none t d later within =
    let whole = d.whole in
    let started = d.started in
    in-time p zone start end t d (none d.second (least d.second (omega (arith, ints)) (omega (arith, ints))) (omega (arith, ints)))

pub least-later : (p : Pattern) (zone : List Stretch) (start : ℤ) (end : Option ℤ) (after : ℤ) (floor second : ℕ) (result : Option ℤ) → start ≤ℤ pos (floor * 1000) → after <ℤ pos (floor * 1000) → IsFloor start after floor → IsLeastIn (is_at p zone) floor SECONDS second → IfSome result (λ t. (t ≡ pos (second * 1000)) × (t ≤ℤ LAST) × IsBefore end t) → IfNone result (IsPast end (second * 1000)) → IsNext LAST (IsDaily start end p zone) after result
least-later p zone start end after floor second None begun behind least first kept gone = λ t d later within.
    let whole = d.whole in
    let started = d.started in
    elim (cases_lt d.second second) [
      | inl lt ↦ in-time p zone start end t d (first.none d.second (least d.second (omega (arith, ints)) (omega (arith, ints))) lt)
      | inr ge ↦ gone t (omega (arith, ints)) within d.before
    ]
least-later p zone start end after floor second (Some t) begun behind least first kept gone =
    let low = first.low in
    let at : t ≡ pos (second * 1000) = kept.0 in
    let passes : is_weekday p (civil zone t).weekday && is_time p (civil zone t).second ≡ true = rw at first.passes in
    record {
      member = record { second = second; whole = kept.0; day = grind arith; time = grind arith; started = omega (arith, ints); before = kept.2 };
      later = omega (arith, ints);
      within = kept.1;
      least = λ u d late.
          let whole = d.whole in
          let started = d.started in
          elim (cases_lt d.second second) [
            | inl lt ↦ absurd (in-time p zone start end u d (first.none d.second (least d.second (omega (arith, ints)) (omega (arith, ints))) lt))
            | inr ge ↦ omega (arith, ints)
          ];
    }
