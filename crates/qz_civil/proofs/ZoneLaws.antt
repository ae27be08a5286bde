-- How the earliest timestamps follow each other.
use Rattle.std.proofs.Common.{◌≡◌, ℕ, ◌<◌, inl, inr, sym, ap, subst, ◌∙◌, arith, ℤ, pos, neg_ℤ, ◌+ℤ◌, ◌-ℤ◌, ◌*ℤ◌, ◌<ℤ◌, ◌≤ℤ◌, List, Option, Some, None, slice_get, IsTrue}
use Rattle.std.proofs.lemmas.Bool.{cases_order}
use Rattle.std.proofs.lemmas.Int.{ints, by_lt_z}
use Rattle.std.proofs.lemmas.Option.{slice_get-get_or}
use Rattle.jiff_core.proofs.SignedLemmas.{signed_arith}
use Rattle.qz_civil.specs.declared.limits.TheConstants.{DAY_MS, OFFSET_LIMIT, STRETCH_LENGTH}
use Rattle.qz_civil.specs.declared.stretches.Stretch.{Stretch}
use Rattle.qz_civil.specs.Instants.{IsShownAt, IsEarliest, AreMembers}
use Rattle.qz_civil.specs.Timings.{is_timestamp}
use Rattle.qz_civil.specs.Zones.{bad_zone, stretch_at, offset_of, offset_at, local}
use Rattle.qz_civil.proofs.InstantLemmas.{timestamp_low, timestamp_high, to_timestamp, local-clock}
use Rattle.qz_civil.proofs.ZoneLemmas.{stretch_in, begins_apart, begun-up, has-begun, begun-past, stretch_at-last, offset_of-bound, zone-table}

-- The first of the timestamps of a local time is its earliest.
pub members-earliest : (Member : ℤ → Type 0) (first : ℤ) (second : Option ℤ) → AreMembers Member (Some first) second → IsEarliest Member first
members-earliest Member first None m = record {
  member = m.first_in;
  earliest = λ s h. elim (m.all s h) [
    | inl same ↦ (let e : first ≡ s = cc in omega (arith, ints))
    | inr none ↦ cc
  ];
}
members-earliest Member first (Some later) m = record {
  member = m.first_in;
  earliest = λ s h. let up = m.ascending in elim (m.all s h) [
    | inl same ↦ (let e : first ≡ s = cc in omega (arith, ints))
    | inr other ↦ (let e : later ≡ s = cc in omega (arith, ints))
  ];
}

nowhere : Stretch
nowhere = record { from = pos 0; offset = pos 0 }

-- the timestamp at a's offset that shows what b shows
abbrev pub back : List Stretch → ℤ → ℤ → ℤ
back zs a b = a -ℤ (pos (local zs a) -ℤ pos (local zs b))

-- it lies in a's stretch, which began 48 hours or more before b's
back_by : (a b from_a from_b offset_a offset_b la lb : ℤ) → la ≡ a +ℤ pos DAY_MS +ℤ offset_a *ℤ pos 1000 → lb ≡ b +ℤ pos DAY_MS +ℤ offset_b *ℤ pos 1000 → offset_a ≤ℤ OFFSET_LIMIT → neg_ℤ OFFSET_LIMIT ≤ℤ offset_b → (from_a +ℤ STRETCH_LENGTH) ≤ℤ from_b → from_b ≤ℤ b → from_a ≤ℤ (a -ℤ (la -ℤ lb))
back_by a b from_a from_b offset_a offset_b la lb ea eb high low apart begins = omega (arith, signed_arith)

shows_by : (a la lb offset : ℤ) → la ≡ a +ℤ pos DAY_MS +ℤ offset *ℤ pos 1000 → (a -ℤ (la -ℤ lb)) +ℤ pos DAY_MS +ℤ offset *ℤ pos 1000 ≡ lb
shows_by a la lb offset e = omega (arith, signed_arith)

forward_by : (a b la lb offset : ℤ) → la ≡ a +ℤ pos DAY_MS +ℤ offset *ℤ pos 1000 → lb ≡ b +ℤ pos DAY_MS +ℤ offset *ℤ pos 1000 → a <ℤ b → la <ℤ lb
forward_by a b la lb offset ea eb lt = omega (arith, signed_arith)

same_stretch : (zs : List Stretch) (a b : ℤ) → bad_zone zs ≡ None → pos 0 ≤ℤ a → a <ℤ b → stretch_at zs a ≡ stretch_at zs b → local zs a < local zs b
same_stretch zs a b h low lt same =
    let offset : offset_at zs b ≡ offset_at zs a = ap (λ k. offset_of (slice_get zs k)) (sym same) in
    let ea = local-clock zs a h low in
    let eb = local-clock zs b h (omega (arith, ints)) ∙ ap (λ (z : ℤ). b +ℤ pos DAY_MS +ℤ z *ℤ pos 1000) offset in
    let up = forward_by a b (pos (local zs a)) (pos (local zs b)) (offset_at zs a) ea eb lt in
    omega (arith, ints)

later_stretch : (zs : List Stretch) (a b : ℤ) → bad_zone zs ≡ None → IsTrue (is_timestamp a) → IsTrue (is_timestamp b) → local zs b < local zs a → stretch_at zs a < stretch_at zs b → IsShownAt zs (local zs b) (back zs a b)
later_stretch zs a b h ka kb falls lt =
    let table = zone-table zs h in
    let here = slice_get-get_or zs (stretch_at zs a) nowhere (stretch_at-last zs a h).within in
    let there = slice_get-get_or zs (stretch_at zs b) nowhere (stretch_at-last zs b h).within in
    let apart = begins_apart None zs (stretch_at zs a) (stretch_at zs b) _ _ table lt here there in
    let begins = has-begun zs b (stretch_at zs b) _ (omega arith) there in
    let limits = stretch_in None zs (stretch_at zs a) _ table here in
    let la = local-clock zs a h (timestamp_low a ka) in
    let lb = local-clock zs b h (timestamp_low b kb) in
    let ba = offset_of-bound zs (stretch_at zs a) h in
    let bb = offset_of-bound zs (stretch_at zs b) h in
    let since = back_by a b _ _ (offset_at zs a) (offset_at zs b) (pos (local zs a)) (pos (local zs b)) la lb ba.1 bb.0 apart begins in
    let low = limits.from_low in
    let high = timestamp_high a ka in
    let first = begun-past zs (back zs a b) (stretch_at zs a) _ h here since in
    let up = begun-up zs (back zs a b) a (omega (arith, ints)) in
    let place : stretch_at zs (back zs a b) ≡ stretch_at zs a = omega arith in
    let offset : offset_at zs (back zs a b) ≡ offset_at zs a = ap (λ k. offset_of (slice_get zs k)) place in
    let begun_low : pos 0 ≤ℤ back zs a b = omega (arith, ints) in
    let shows = local-clock zs (back zs a b) h begun_low ∙ (ap (λ (z : ℤ). back zs a b +ℤ pos DAY_MS +ℤ z *ℤ pos 1000) offset ∙ shows_by a (pos (local zs a)) (pos (local zs b)) (offset_at zs a) la) in
    (to_timestamp (back zs a b) begun_low (omega (arith, ints)), cc)

-- where a later timestamp shows an earlier local time, an earlier one showed it before
pub rises : (zs : List Stretch) (a b : ℤ) → bad_zone zs ≡ None → IsTrue (is_timestamp a) → IsTrue (is_timestamp b) → a <ℤ b → local zs b < local zs a → IsShownAt zs (local zs b) (back zs a b) × (back zs a b <ℤ a)
rises zs a b h ka kb lt falls =
    let up = begun-up zs a b (omega (arith, ints)) in
    elim (cases_order (stretch_at zs a) (stretch_at zs b)) [
      | inl same ↦ absurd (let rise = same_stretch zs a b h (timestamp_low a ka) lt same in omega arith)
      | inr (inl under) ↦ (later_stretch zs a b h ka kb falls under, omega (arith, ints))
      | inr (inr over) ↦ absurd (omega arith)
    ]

-- so the earliest timestamps rise with the local time
pub earliest-rises : (zs : List Stretch) (n m : ℕ) (a b : ℤ) → bad_zone zs ≡ None → IsEarliest (IsShownAt zs n) a → IsEarliest (IsShownAt zs m) b → n < m → a <ℤ b
earliest-rises zs n m a b h ea eb lt =
    let shows_a = ea.member.1 in
    let shows_b = eb.member.1 in
    by_lt_z a b (λ rise. rise) (λ ge. by_lt_z b a
    (λ under.
    let before = rises zs b a h eb.member.0 ea.member.0 under (omega arith) in
    let shown = subst (λ k. IsShownAt zs k (back zs b a)) shows_a before.0 in
    let over = ea.earliest (back zs b a) shown in
    absurd (omega (arith, ints, before.1)))
    (λ le.
    let same : a ≡ b = omega (arith, ints) in
    let clock : local zs a ≡ local zs b = ap (local zs) same in
    absurd (omega arith)))
