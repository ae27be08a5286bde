-- The first timestamp that shows a local time, stretch by stretch.
use Rattle.std.proofs.Common.{◌≡◌, ℕ, ◌-◌, ◌∙◌, refl, sym, ap, subst, arith, ℤ, pos, ◌+ℤ◌, ◌-ℤ◌, ◌*ℤ◌, ◌<ℤ◌, ◌≤ℤ◌, List, Option, Some, None, IsTrue, IfSome}
use Rattle.std.proofs.lemmas.Int.{ints, by_lt_z}
use Rattle.jiff_core.proofs.SignedLemmas.{signed_arith}
use Rattle.qz_civil.specs.declared.stretches.Stretch.{Stretch}
use Rattle.qz_civil.specs.declared.limits.TheConstants.{DAY_MS, GREATEST_SHIFT_MS, LEAST_SHIFT_MS}
use Rattle.qz_civil.specs.Earliest.{HasEarliest}
use Rattle.qz_civil.specs.Instants.{IsShownAt}
use Rattle.qz_civil.specs.Timings.{is_timestamp}
use Rattle.qz_civil.specs.Zones.{bad_zone, offset_at, local}
use Rattle.qz_civil.proofs.InstantLemmas.{timestamp_low, timestamp_high, to_timestamp, local-clock, local-near, clock_on}

-- no timestamp before that one shows n
abbrev pub NoneBefore : List Stretch → ℕ → ℤ → Type 0
NoneBefore zs n from = (t : ℤ) → IsShownAt zs n t → from ≤ℤ t

-- the offset from `from` on, until the next stretch begins
abbrev pub Stays : List Stretch → ℤ → ℤ → Option ℤ → Type 0
Stays zs from offset next = (t : ℤ) → from ≤ℤ t → IfSome next (λ start. t <ℤ start) → offset_at zs t ≡ offset

-- a local clock is 6 to 42 hours ahead
pub none_early : (zs : List Stretch) (n : ℕ) → bad_zone zs ≡ None → NoneBefore zs n (pos (n - GREATEST_SHIFT_MS))
none_early zs n h t shown =
    let low = timestamp_low t shown.0 in
    let near = local-near zs t h low in
    let clock = shown.1 in
    omega (arith, signed_arith, near.1)

none_late : (zs : List Stretch) (n : ℕ) (start : ℤ) → bad_zone zs ≡ None → NoneBefore zs n start → pos n <ℤ (start +ℤ pos LEAST_SHIFT_MS) → (t : ℤ) → IsShownAt zs n t → ⊥
none_late zs n start h none over t shown =
    let low = timestamp_low t shown.0 in
    let near = local-near zs t h low in
    let clock = shown.1 in
    omega (arith, signed_arith, near.0, none t shown)

clock_back : (n : ℕ) (t offset : ℤ) → pos n ≡ t +ℤ pos DAY_MS +ℤ offset *ℤ pos 1000 → t ≡ pos n -ℤ pos DAY_MS -ℤ offset *ℤ pos 1000
clock_back n t offset e = omega (arith, signed_arith)

-- with that offset it is shown at that moment alone
shown_only : (zs : List Stretch) (n : ℕ) (t ms offset : ℤ) → bad_zone zs ≡ None → ms ≡ pos n -ℤ pos DAY_MS -ℤ offset *ℤ pos 1000 → offset_at zs t ≡ offset → IsShownAt zs n t → t ≡ ms
shown_only zs n t ms offset h e same shown =
    let clock = local-clock zs t h (timestamp_low t shown.0) in
    clock_back n t offset (rw (shown.1, same) at clock) ∙ sym e

shown_then : (zs : List Stretch) (n : ℕ) (ms offset : ℤ) → bad_zone zs ≡ None → ms ≡ pos n -ℤ pos DAY_MS -ℤ offset *ℤ pos 1000 → offset_at zs ms ≡ offset → IsTrue (is_timestamp ms) → IsShownAt zs n ms
shown_then zs n ms offset h e same known =
    let clock = local-clock zs ms h (timestamp_low ms known) in
    let meant = clock_on n ms offset e in
    let shows : pos (local zs ms) ≡ pos n = clock ∙ (ap (λ (z : ℤ). ms +ℤ pos DAY_MS +ℤ z *ℤ pos 1000) same ∙ sym meant) in
    (known, cc)

until_earlier : (next : Option ℤ) (s t : ℤ) → s ≤ℤ t → IfSome next (λ start. t <ℤ start) → IfSome next (λ start. s <ℤ start)
until_earlier None s t le h = tt
until_earlier (Some start) s t le h = omega (arith, ints)

-- where that moment lies in the stretch, it is the first
pub found_in : (zs : List Stretch) (n from : ℕ) (ms offset : ℤ) (next r : Option ℤ) → bad_zone zs ≡ None → NoneBefore zs n (pos from) → Stays zs (pos from) offset next → ms ≡ pos n -ℤ pos DAY_MS -ℤ offset *ℤ pos 1000 → pos from ≤ℤ ms → IfSome next (λ start. ms <ℤ start) → IfSome r (λ t. (t ≡ ms) × IsTrue (is_timestamp ms)) → (r ≡ None → IsTrue (is_timestamp ms) → ⊥) → HasEarliest (IsShownAt zs n) r
found_in zs n from ms offset next None h none stays e begun before some unknown =
    λ t shown. by_lt_z ms t
    (λ over. unknown refl (to_timestamp ms (omega (arith, ints, timestamp_low t shown.0, begun, none t shown)) (omega (arith, ints, timestamp_high t shown.0))))
    (λ le. let same = shown_only zs n t ms offset h e (stays t (none t shown) (until_earlier next t ms le before)) shown in unknown refl (subst (λ u. IsTrue (is_timestamp u)) same shown.0))
found_in zs n from ms offset next (Some t) h none stays e begun before some unknown = record {
  member = subst (λ u. IsShownAt zs n u) (sym some.0) (shown_then zs n ms offset h e (stays ms begun before) some.1);
  earliest = λ s shown. by_lt_z s t
      (λ under. absurd (let same = shown_only zs n s ms offset h e (stays s (none s shown) (until_earlier next s ms (omega (arith, ints, some.0)) before)) shown in omega (arith, ints, some.0)))
      (λ ge. ge);
}

-- and where it doesn't, none of the stretch shows n
pub none_in : (zs : List Stretch) (n : ℕ) (from ms offset : ℤ) (next : Option ℤ) → bad_zone zs ≡ None → NoneBefore zs n from → Stays zs from offset next → ms ≡ pos n -ℤ pos DAY_MS -ℤ offset *ℤ pos 1000 → ((from ≤ℤ ms) × IfSome next (λ start. ms <ℤ start) → ⊥) → (t : ℤ) → IsShownAt zs n t → IfSome next (λ start. t <ℤ start) → ⊥
none_in zs n from ms offset next h none stays e outside t shown before =
    let same = shown_only zs n t ms offset h e (stays t (none t shown) before) shown in
    outside (subst (λ u. (from ≤ℤ u) × IfSome next (λ start. u <ℤ start)) same (none t shown, before))

pub none_before_next : (zs : List Stretch) (n : ℕ) (from ms offset start : ℤ) → bad_zone zs ≡ None → NoneBefore zs n from → Stays zs from offset (Some start) → ms ≡ pos n -ℤ pos DAY_MS -ℤ offset *ℤ pos 1000 → ((from ≤ℤ ms) × (ms <ℤ start) → ⊥) → NoneBefore zs n start
none_before_next zs n from ms offset start h none stays e outside t shown =
    by_lt_z t start
    (λ under. absurd (none_in zs n from ms offset (Some start) h none stays e outside t shown under))
    (λ ge. ge)

-- and no later one where the next stretch begins too late
pub none_left : (zs : List Stretch) (n : ℕ) (from ms offset : ℤ) (next : Option ℤ) → bad_zone zs ≡ None → NoneBefore zs n from → Stays zs from offset next → ms ≡ pos n -ℤ pos DAY_MS -ℤ offset *ℤ pos 1000 → ((from ≤ℤ ms) × IfSome next (λ start. ms <ℤ start) → ⊥) → IfSome next (λ start. pos n <ℤ (start +ℤ pos LEAST_SHIFT_MS)) → (t : ℤ) → IsShownAt zs n t → ⊥
none_left zs n from ms offset None h none stays e outside late t shown = none_in zs n from ms offset None h none stays e outside t shown tt
none_left zs n from ms offset (Some start) h none stays e outside late t shown = none_late zs n start h (none_before_next zs n from ms offset start h none stays e outside) late t shown

pub later_than : (next : Option ℤ) (from start : ℤ) → IfSome next (λ s. from <ℤ s) → next ≡ Some start → from <ℤ start
later_than None from start h e = cc
later_than (Some s) from start h e = let same : s ≡ start = cc in subst (λ z. from <ℤ z) same h
