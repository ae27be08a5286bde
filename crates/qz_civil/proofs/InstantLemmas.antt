-- The timestamps at which a zone's local clock shows a number of milliseconds.
use Rattle.std.proofs.Common.{◌≡◌, ◌≢◌, ℕ, ◌+◌, ◌-◌, ◌*◌, ◌<◌, ◌⊎◌, inl, inr, Bool, true, false, ◌&&◌, ◌==◌, sym, ap, ◌∙◌, arith, ℤ, pos, ◌+ℤ◌, ◌-ℤ◌, ◌*ℤ◌, ◌<ℤ◌, ◌≤ℤ◌, List, Option, Some, None, slice_get, IsTrue, IfSome, IsSomeAnd}
use Rattle.std.proofs.lemmas.Bool.{cases_order}
use Rattle.std.proofs.lemmas.Int.{ints, by_lt_z}
use Rattle.jiff_core.proofs.SignedLemmas.{signed_arith}
use Rattle.qz_civil.specs.declared.dates.Civil.{Civil}
use Rattle.qz_civil.specs.declared.limits.TheConstants.{DAY_MS, GREATEST_SHIFT_MS, LAST, LAST_DAY, LEAST_SHIFT_MS}
use Rattle.qz_civil.specs.declared.stretches.Stretch.{Stretch}
use Rattle.qz_civil.specs.Dates.{civil_of}
use Rattle.qz_civil.specs.Instants.{IsInstant, IsShownAt, IsShownIn, IsOnly, AreMembers}
use Rattle.qz_civil.specs.Timings.{is_timestamp}
use Rattle.qz_civil.specs.Zones.{bad_zone, stretch_at, offset_of, offset_at, local}
use Rattle.qz_civil.proofs.DateLemmas.{civil_of-injective}
use Rattle.qz_civil.proofs.ZoneLemmas.{offset_of-bound, begun-up, begun-few}

-- What the local clock shows.

pub timestamp_low : (t : ℤ) → IsTrue (is_timestamp t) → pos 0 ≤ℤ t
timestamp_low t h = grind (arith, ints)

pub timestamp_high : (t : ℤ) → IsTrue (is_timestamp t) → t ≤ℤ LAST
timestamp_high t h = grind (arith, ints)

pub to_timestamp : (t : ℤ) → pos 0 ≤ℤ t → t ≤ℤ LAST → IsTrue (is_timestamp t)
to_timestamp t low high = grind (arith, ints)

-- the local clock is UTC and the offset, from 1969-12-31 on
pub local-clock : (zs : List Stretch) (t : ℤ) → bad_zone zs ≡ None → pos 0 ≤ℤ t → pos (local zs t) ≡ t +ℤ pos DAY_MS +ℤ offset_at zs t *ℤ pos 1000
local-clock zs t h low = let b = offset_of-bound zs (stretch_at zs t) h in grind (arith, signed_arith)

-- and at most 18 hours from UTC
pub local-near : (zs : List Stretch) (t : ℤ) → bad_zone zs ≡ None → pos 0 ≤ℤ t → ((t +ℤ pos LEAST_SHIFT_MS) ≤ℤ pos (local zs t)) × (pos (local zs t) ≤ℤ (t +ℤ pos GREATEST_SHIFT_MS))
local-near zs t h low =
    let b = offset_of-bound zs (stretch_at zs t) h in
    let e = local-clock zs t h low in
    (omega (arith, signed_arith), omega (arith, signed_arith))

pub local-bound : (zs : List Stretch) (t : ℤ) → bad_zone zs ≡ None → IsTrue (is_timestamp t) → local zs t < DAY_MS * LAST_DAY
local-bound zs t h known =
    let low = timestamp_low t known in
    let high = timestamp_high t known in
    let near = local-near zs t h low in
    omega (arith, signed_arith, near.1)

-- Which stretch they may lie in.

shown_places : (zs : List Stretch) (n : ℕ) (t : ℤ) → bad_zone zs ≡ None → IsShownAt zs n t → (stretch_at zs t ≡ stretch_at zs (pos (n - GREATEST_SHIFT_MS))) ⊎ (stretch_at zs t ≡ stretch_at zs (pos (n - GREATEST_SHIFT_MS)) + 1)
shown_places zs n t h shown =
    let low = timestamp_low t shown.0 in
    let near = local-near zs t h low in
    let clock = shown.1 in
    let up = begun-up zs (pos (n - GREATEST_SHIFT_MS)) t (omega (arith, signed_arith, near.1)) in
    let few = begun-few zs (pos (n - GREATEST_SHIFT_MS)) t h (omega (arith, signed_arith, near.0)) in
    elim (cases_order (stretch_at zs t) (stretch_at zs (pos (n - GREATEST_SHIFT_MS)))) [
      | inl same ↦ inl same
      | inr (inl under) ↦ absurd (omega arith)
      | inr (inr over) ↦ inr (omega arith)
    ]

only_some : (Member : ℤ → Type 0) (o : Option ℤ) (t : ℤ) → IsOnly Member o → Member t → o ≡ Some t
only_some Member None t h m = absurd (h t m)
only_some Member (Some s) t h m = ap Some (sym (h.1 t m))

only_in : (Member Whole : ℤ → Type 0) (o : Option ℤ) → ((t : ℤ) → Member t → Whole t) → IsOnly Member o → IfSome o Whole
only_in Member Whole None f h = tt
only_in Member Whole (Some t) f h = f t h.0

shown_in_at : (zs : List Stretch) (n place : ℕ) (t : ℤ) → IsShownIn zs n place t → IsShownAt zs n t
shown_in_at zs n place t shown = (shown.known, shown.clock)

-- a timestamp of the next stretch is later
ascending_by : (zs : List Stretch) (n place : ℕ) (s t : ℤ) → IsShownIn zs n place s → IsShownIn zs n (place + 1) t → s <ℤ t
ascending_by zs n place s t first second =
    by_lt_z s t
    (λ lt. lt)
    (λ ge. let up = begun-up zs t s ge in
    let here = first.stretch in
    let there = second.stretch in
    absurd (omega arith))

shown_pair : (zs : List Stretch) (n place : ℕ) (s : ℤ) (second : Option ℤ) → IsOnly (IsShownIn zs n place) (Some s) → IsOnly (IsShownIn zs n (place + 1)) second → IfSome second (λ t. IsSomeAnd (Some s) (λ s. s <ℤ t))
shown_pair zs n place s None first second = tt
shown_pair zs n place s (Some t) first second = ascending_by zs n place s t first.0 second.0

-- the local clock shows n only in the first stretch of those that may be, or in the next
pub shown-both : (zs : List Stretch) (n : ℕ) (s : ℤ) (second : Option ℤ) → bad_zone zs ≡ None → IsOnly (IsShownIn zs n (stretch_at zs (pos (n - GREATEST_SHIFT_MS)))) (Some s) → IsOnly (IsShownIn zs n (stretch_at zs (pos (n - GREATEST_SHIFT_MS)) + 1)) second → AreMembers (IsShownAt zs n) (Some s) second
shown-both zs n s second h first after =
    record {
      first_in = shown_in_at zs n _ s first.0;
      second_in = only_in _ (IsShownAt zs n) second (shown_in_at zs n (stretch_at zs (pos (n - GREATEST_SHIFT_MS)) + 1)) after;
      ascending = shown_pair zs n _ s second first after;
      all = λ t shown. elim (shown_places zs n t h shown) [
        | inl here ↦ inl (only_some _ (Some s) t first (record { known = shown.0; stretch = here; clock = shown.1 }))
        | inr next ↦ inr (only_some _ second t after (record { known = shown.0; stretch = next; clock = shown.1 }))
      ];
    }

pub shown-second : (zs : List Stretch) (n : ℕ) (second : Option ℤ) → bad_zone zs ≡ None → IsOnly (IsShownIn zs n (stretch_at zs (pos (n - GREATEST_SHIFT_MS)))) None → IsOnly (IsShownIn zs n (stretch_at zs (pos (n - GREATEST_SHIFT_MS)) + 1)) second → AreMembers (IsShownAt zs n) second None
shown-second zs n second h first after =
    record {
      first_in = only_in _ (IsShownAt zs n) second (shown_in_at zs n (stretch_at zs (pos (n - GREATEST_SHIFT_MS)) + 1)) after;
      second_in = tt;
      ascending = tt;
      all = λ t shown. elim (shown_places zs n t h shown) [
        | inl here ↦ absurd (first t (record { known = shown.0; stretch = here; clock = shown.1 }))
        | inr next ↦ inl (only_some _ second t after (record { known = shown.0; stretch = next; clock = shown.1 }))
      ];
    }

-- The one in a stretch.

clock_back : (n : ℕ) (t offset : ℤ) → pos n ≡ t +ℤ pos DAY_MS +ℤ offset *ℤ pos 1000 → t ≡ pos n -ℤ pos DAY_MS -ℤ offset *ℤ pos 1000
clock_back n t offset e = omega (arith, signed_arith)

pub clock_on : (n : ℕ) (t offset : ℤ) → t ≡ pos n -ℤ pos DAY_MS -ℤ offset *ℤ pos 1000 → pos n ≡ t +ℤ pos DAY_MS +ℤ offset *ℤ pos 1000
clock_on n t offset e = omega (arith, signed_arith)

-- it is the number less the offset
shown_is : (zs : List Stretch) (n place : ℕ) (t : ℤ) → bad_zone zs ≡ None → IsShownIn zs n place t → t ≡ pos n -ℤ pos DAY_MS -ℤ offset_of (slice_get zs place) *ℤ pos 1000
shown_is zs n place t h shown =
    let offset : offset_at zs t ≡ offset_of (slice_get zs place) = ap (λ k. offset_of (slice_get zs k)) shown.stretch in
    let e = local-clock zs t h (timestamp_low t shown.known) in
    clock_back n t (offset_of (slice_get zs place)) (rw (shown.clock, offset) at e)

both_tests : (p : Bool) (a b : ℕ) → (p && (a == b)) ≡ true → (p ≡ true) × (a ≡ b)
both_tests p a b h = grind arith

from_tests : (p : Bool) (a b : ℕ) → p ≡ true → a ≡ b → (p && (a == b)) ≡ true
from_tests p a b h e = grind arith

pub shown-in : (zs : List Stretch) (n place : ℕ) (t : ℤ) → bad_zone zs ≡ None → t ≡ pos n -ℤ pos DAY_MS -ℤ offset_of (slice_get zs place) *ℤ pos 1000 → (is_timestamp t && (stretch_at zs t == place)) ≡ true → IsOnly (IsShownIn zs n place) (Some t)
shown-in zs n place t h e tests =
    let parts = both_tests (is_timestamp t) (stretch_at zs t) place tests in
    let offset : offset_at zs t ≡ offset_of (slice_get zs place) = ap (λ k. offset_of (slice_get zs k)) parts.1 in
    let shown = local-clock zs t h (timestamp_low t parts.0) in
    let meant = clock_on n t (offset_of (slice_get zs place)) e in
    let clock : pos (local zs t) ≡ pos n = shown ∙ (ap (λ (z : ℤ). t +ℤ pos DAY_MS +ℤ z *ℤ pos 1000) offset ∙ sym meant) in
    (record { known = parts.0; stretch = parts.1; clock = cc }, (λ s other. shown_is zs n place s h other ∙ sym e))

pub not-shown-in : (zs : List Stretch) (n place : ℕ) (t : ℤ) → bad_zone zs ≡ None → t ≡ pos n -ℤ pos DAY_MS -ℤ offset_of (slice_get zs place) *ℤ pos 1000 → (is_timestamp t && (stretch_at zs t == place)) ≡ false → IsOnly (IsShownIn zs n place) None
not-shown-in zs n place t h e tests s shown =
    let same : s ≡ t = shown_is zs n place s h shown ∙ sym e in
    let known : is_timestamp t ≡ true = ap is_timestamp (sym same) ∙ shown.known in
    let stretch : stretch_at zs t ≡ place = ap (stretch_at zs) (sym same) ∙ shown.stretch in
    let both = from_tests (is_timestamp t) (stretch_at zs t) place known stretch in
    cc

-- From the local clock to civil times.

pub instants-shown : (zs : List Stretch) (n : ℕ) (c : Civil) (first second : Option ℤ) → civil_of n ≡ c → AreMembers (IsShownAt zs n) first second → AreMembers (IsInstant zs c) first second
instants-shown zs n c first second e m =
    record {
      first_in = for_some first m.first_in;
      second_in = for_some second m.second_in;
      ascending = m.ascending;
      all = λ t instant. m.all t (instant.0, civil_of-injective _ n (instant.1 ∙ sym e));
    }
  where
    for_some : (o : Option ℤ) → IfSome o (IsShownAt zs n) → IfSome o (IsInstant zs c)
    for_some None h = tt
    for_some (Some t) h = (h.0, ap civil_of h.1 ∙ e)

pub instants-none : (zs : List Stretch) (c : Civil) → bad_zone zs ≡ None → ((n : ℕ) → n < DAY_MS * (LAST_DAY + 1) → civil_of n ≢ c) → AreMembers (IsInstant zs c) None None
instants-none zs c h none =
    record {
      first_in = tt;
      second_in = tt;
      ascending = tt;
      all = λ t instant. absurd (none (local zs t) (let bound = local-bound zs t h instant.0 in omega arith) instant.1);
    }
