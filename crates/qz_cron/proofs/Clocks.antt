-- Seconds of a zone as seconds of its local clock.
use Rattle.std.proofs.Common.{◌≡◌, ℕ, suc, ◌+◌, ◌-◌, ◌*◌, ◌/◌, ◌%◌, ◌≤◌, inl, inr, Bool, true, false, refl, sym, ap, ◌∙◌, arith, ℤ, pos, negsuc, neg_ℤ, ◌+ℤ◌, ◌*ℤ◌, ◌<ℤ◌, ◌≤ℤ◌, unsigned_abs, max, nat_le, List, Some, None}
use Rattle.std.proofs.lemmas.Bool.{cases_lt}
use Rattle.std.proofs.lemmas.Int.{ints}
use Rattle.qz_civil.specs.declared.fields.CronFields.{CronFields}
use Rattle.qz_civil.specs.declared.limits.TheConstants.{DAY_MS, DAY_SECONDS, GREATEST_SHIFT_SECONDS, LAST, LEAST_SHIFT_SECONDS, OFFSET_LIMIT, SECONDS}
use Rattle.qz_civil.specs.declared.stretches.Stretch.{Stretch}
use Rattle.qz_civil.specs.Dates.{civil_of, date_of}
use Rattle.qz_civil.specs.Fields.{meets}
use Rattle.qz_civil.specs.Least.{NoneIn, IsLeastIn, IsNext}
use Rattle.qz_civil.specs.Zones.{bad_zone, civil, local, offset_at, stretch_at}
use Rattle.qz_civil.proofs.ZoneLemmas.{offset_of-bound}
use Rattle.qz_cron.specs.declared.seconds.TheConstants.{END_SECOND}
use Rattle.qz_cron.specs.Moments.{IsMatch}
use Rattle.qz_cron.specs.Search.{IsShiftOf, meets_at, meets_second}
use Rattle.qz_cron.proofs.Firsts.{none_then}

-- a whole second of the local clock meets the fields where its day and its time do
meets-second : (f : CronFields) (x : ℕ) → meets f (civil_of (x * 1000)) ≡ meets_second f x
meets-second f x =
    let day : x * 1000 / DAY_MS ≡ x / DAY_SECONDS = omega arith in
    let time : x * 1000 % DAY_MS / 1000 ≡ x % DAY_SECONDS = omega arith in
    let year : nat_le 0 (date_of (x / DAY_SECONDS)).year ≡ true = grind arith in
    rw (day, time, year) refl

-- where the local clock shows that second, its test is that of the local second
pub meets_at-shown : (f : CronFields) (zone : List Stretch) (s x : ℕ) → local zone (pos (s * 1000)) ≡ x * 1000 → meets_at f zone s ≡ meets_second f x
meets_at-shown f zone s x same = ap (λ n. meets f (civil_of n)) same ∙ meets-second f x

clock : (s shift : ℕ) (offset : ℤ) → pos shift ≡ offset +ℤ pos DAY_SECONDS → unsigned_abs (pos (s * 1000) +ℤ pos DAY_MS +ℤ offset *ℤ pos 1000) ≡ (s + shift) * 1000
clock s shift offset e = grind (arith, ints)

shift_of : (offset : ℤ) → neg_ℤ OFFSET_LIMIT ≤ℤ offset → offset ≤ℤ OFFSET_LIMIT → (shift : ℕ) × (LEAST_SHIFT_SECONDS ≤ shift) × (shift ≤ GREATEST_SHIFT_SECONDS) × (pos shift ≡ offset +ℤ pos DAY_SECONDS)
shift_of (pos n) low high = (n + DAY_SECONDS, omega arith, omega (arith, ints), refl)
shift_of (negsuc n) low high = (DAY_SECONDS - suc n, omega (arith, ints), omega arith, omega (arith, ints))

pub meets_at-shifts : (f : CronFields) (zone : List Stretch) → bad_zone zone ≡ None → IsShiftOf (meets_second f) (meets_at f zone)
meets_at-shifts f zone h s =
    let offset : ℤ = offset_at zone (pos (s * 1000)) in
    let b = offset_of-bound zone (stretch_at zone (pos (s * 1000))) h in
    let shift = shift_of offset b.0 b.1 in
    (shift.0, shift.1, shift.2, meets_at-shown f zone s (s + shift.0) (clock s shift.0 offset shift.3))

-- no local second from `from + shift` to before `to` passes: then none passes of the seconds that surely show these
quiet : (p q : ℕ → Bool) (low high : ℕ) → IsShiftOf p q → NoneIn p low high → NoneIn q (low - LEAST_SHIFT_SECONDS) (high - GREATEST_SHIFT_SECONDS)
quiet p q low high shifts none s from to =
    let shift = shifts s in
    shift.3 ∙ none (s + shift.0) (let a = shift.1 in omega arith) (let b = shift.2 in omega arith)

pub none_resumed : (p q : ℕ → Bool) (start shift end local : ℕ) → IsShiftOf p q → start + shift ≤ end + LEAST_SHIFT_SECONDS → NoneIn p (start + shift) local → NoneIn q start end → NoneIn q start (max end (local - GREATEST_SHIFT_SECONDS))
none_resumed p q start shift end local shifts near none here =
    elim (cases_lt end (local - GREATEST_SHIFT_SECONDS)) [
      | inl lt ↦
          let e : max end (local - GREATEST_SHIFT_SECONDS) ≡ local - GREATEST_SHIFT_SECONDS = omega arith in
          rw e (none_then q start end (local - GREATEST_SHIFT_SECONDS) here (λ k a b. quiet p q (start + shift) local shifts none k (omega arith) b))
      | inr ge ↦ let e : max end (local - GREATEST_SHIFT_SECONDS) ≡ end = omega arith in rw e here
    ]

pub none_ended : (p q : ℕ → Bool) (start shift end : ℕ) → IsShiftOf p q → start + shift ≤ end + LEAST_SHIFT_SECONDS → NoneIn p (start + shift) END_SECOND → NoneIn q start end → NoneIn q start SECONDS
none_ended p q start shift end shifts near none here =
    none_then q start end SECONDS here (λ k a b. quiet p q (start + shift) END_SECOND shifts none k (omega arith) (omega arith))

-- from seconds to moments

at_second : (f : CronFields) (zone : List Stretch) (t : ℤ) (s : ℕ) → t ≡ pos (s * 1000) → meets f (civil zone t) ≡ meets_at f zone s
at_second f zone t s e = ap (λ u. meets f (civil zone u)) e

no_match : (f : CronFields) (zone : List Stretch) (t : ℤ) → (m : IsMatch f zone t) → meets_at f zone m.second ≡ false → ⊥
no_match f zone t m e =
    let yes : meets_at f zone m.second ≡ true = sym (at_second f zone t m.second m.whole) ∙ m.met in
    cc

pub none_later : (f : CronFields) (zone : List Stretch) (after : ℤ) (from : ℕ) → pos (from * 1000) ≤ℤ (after +ℤ pos 1000) → NoneIn (meets_at f zone) from SECONDS → IsNext LAST (IsMatch f zone) after None
none_later f zone after from at none t m later within =
    let whole = m.whole in
    no_match f zone t m (none m.second (omega (arith, ints)) (omega (arith, ints)))

pub next_is : (f : CronFields) (zone : List Stretch) (after : ℤ) (from v : ℕ) → pos (from * 1000) ≤ℤ (after +ℤ pos 1000) → after <ℤ pos (from * 1000) → IsLeastIn (meets_at f zone) from SECONDS v → IsNext LAST (IsMatch f zone) after (Some (pos (v * 1000)))
next_is f zone after from v at behind first =
    let low = first.low in
    let high = first.high in
    record {
      member = record { second = v; whole = refl; met = first.passes };
      later = omega (arith, ints);
      within = omega (arith, ints);
      least = λ t m later.
          let whole = m.whole in
          elim (cases_lt m.second v) [
            | inl lt ↦ absurd (no_match f zone t m (first.none m.second (omega (arith, ints)) lt))
            | inr ge ↦ omega (arith, ints)
          ];
    }
