-- When a clock first shows a turn or more, and where a gap ends.
use Rattle.std.proofs.Common.{◌≡◌, ℕ, ◌-◌, ◌<◌, ◌≤◌, inl, inr, refl, sym, ap, subst, ◌∙◌, true, false, arith, ℤ, pos, ◌+ℤ◌, ◌-ℤ◌, ◌*ℤ◌, neg_ℤ, ◌<ℤ◌, ◌≤ℤ◌, int_le, unsigned_abs, Bool, List, [], ◌∷◌, Some, None, slice_get, option_map, IsTrue}
use Rattle.std.proofs.lemmas.Bool.{cases_lt, cases_order}
use Rattle.std.proofs.lemmas.Int.{ints, by_lt_z}
use Rattle.std.proofs.lemmas.Option.{slice_get-get_or}
use Rattle.std.specs.List.{prefix_len}
use Rattle.qz_civil.specs.declared.stretches.Stretch.{Stretch}
use Rattle.qz_civil.specs.declared.limits.TheConstants.{LAST, OFFSET_LIMIT}
use Rattle.qz_civil.specs.Instants.{IsEarliest, IsShownAt}
use Rattle.qz_civil.specs.Timings.{is_timestamp}
use Rattle.qz_civil.specs.Zones.{bad_zone, begun, fixed_offset, local, next_start, offset_at, offset_of, stretch_at}
use Rattle.qz_civil.proofs.InstantLemmas.{local-clock, local-near, timestamp_low, to_timestamp}
use Rattle.qz_civil.proofs.ZoneLaws.{back, rises}
use Rattle.qz_civil.proofs.ZoneLemmas.{begun-few, begun-past, begun-up, has-begun, offset_of-bound, stretch_at-last}
use Rattle.qz_interval.specs.declared.clocks.Clock.{Clock}
use Rattle.qz_interval.specs.declared.clocks.Clock.TheVariants.{Skipping, Waiting, Fixed}
use Rattle.qz_interval.specs.Clocks.{MomentBy, stretches}
use Rattle.qz_interval.specs.Interval.{IsGapEnd}

-- t is the first timestamp at which the clock shows m or more
pub record Reaches (zs : List Stretch) (m : ℕ) (t : ℤ) : Type 0 where
  pub known : IsTrue (is_timestamp t)
  pub shows : m ≤ local zs t
  pub first : (s : ℤ) → IsTrue (is_timestamp s) → s <ℤ t → local zs s < m

-- with one offset the later timestamp shows more
forward : (zs : List Stretch) (s t : ℤ) → bad_zone zs ≡ None → pos 0 ≤ℤ s → s <ℤ t → offset_at zs t ≡ offset_at zs s → local zs s < local zs t
forward zs s t h low lt same =
    let here = local-clock zs s h low in
    let there = local-clock zs t h (omega (arith, ints)) ∙ ap (λ (z : ℤ). t +ℤ pos 86400000 +ℤ z *ℤ pos 1000) same in
    omega (arith, ints, here, there)

begun_offset : (zs : List Stretch) (s t : ℤ) → begun zs t ≡ begun zs s → offset_at zs t ≡ offset_at zs s
begun_offset zs s t e = ap (λ n. offset_of (slice_get zs (n - 1))) e

-- the earliest timestamp that shows m is the first that shows m or more
pub earliest-reaches : (zs : List Stretch) (m : ℕ) (t : ℤ) → bad_zone zs ≡ None → IsEarliest (IsShownAt zs m) t → Reaches zs m t
earliest-reaches zs m t h e =
    let shows = e.member.1 in
    record {
      known = e.member.0;
      shows = omega arith;
      first = λ s known lt. elim (cases_order (local zs s) m) [
        | inl same ↦ absurd (let over = e.earliest s (known, same) in omega (arith, ints))
        | inr (inl under) ↦ under
        | inr (inr over) ↦ absurd (
            let before = rises zs s t h known e.member.0 lt (omega arith) in
            let least = e.earliest (back zs s t) (subst (λ k. IsShownAt zs k (back zs s t)) shows before.0) in
            omega (arith, ints, before.1))
      ];
    }

-- A gap's end.

-- what is earlier by a millisecond lies in the stretch before
gap_begins : (zs : List Stretch) (m : ℕ) (t : ℤ) → bad_zone zs ≡ None → pos 0 <ℤ t → IsGapEnd zs m t → begun zs (t -ℤ pos 1) < begun zs t
gap_begins zs m t h over gap =
    let up = begun-up zs (t -ℤ pos 1) t (omega (arith, ints)) in
    elim (cases_lt (begun zs (t -ℤ pos 1)) (begun zs t)) [
      | inl lt ↦ lt
      | inr ge ↦ absurd (
          let same = begun_offset zs (t -ℤ pos 1) t (omega arith) in
          let here = local-clock zs (t -ℤ pos 1) h (omega (arith, ints)) in
          let there = local-clock zs t h (omega (arith, ints)) ∙ ap (λ (z : ℤ). t +ℤ pos 86400000 +ℤ z *ℤ pos 1000) same in
          let before = gap.before in
          let after = gap.after in
          omega (arith, ints, here, there))
    ]

before_gap : (zs : List Stretch) (m : ℕ) (s t : ℤ) → bad_zone zs ≡ None → IsGapEnd zs m t → IsTrue (is_timestamp s) → s <ℤ (t -ℤ pos 1) → local zs s < local zs (t -ℤ pos 1)
before_gap zs m s t h gap known lt =
    let low = timestamp_low s known in
    by_lt_z t (s +ℤ pos 172800000)
    (λ soon.
    let few = begun-few zs s t h soon in
    let more = gap_begins zs m t h (omega (arith, ints)) gap in
    let up = begun-up zs s (t -ℤ pos 1) (omega (arith, ints)) in
    forward zs s (t -ℤ pos 1) h low lt (begun_offset zs s (t -ℤ pos 1) (omega arith)))
    (λ late.
    let here = local-near zs s h low in
    let there = local-near zs (t -ℤ pos 1) h (omega (arith, ints)) in
    omega (arith, ints, here.1, there.0))

-- the end of the gap is the first timestamp that shows more
pub gap-reaches : (zs : List Stretch) (m : ℕ) (t : ℤ) → bad_zone zs ≡ None → IsGapEnd zs m t → Reaches zs m t
gap-reaches zs m t h gap =
    let before = gap.before in
    let after = gap.after in
    record {
      known = gap.known;
      shows = omega arith;
      first = λ s known lt. by_lt_z s (t -ℤ pos 1)
          (λ under. let less = before_gap zs m s t h gap known under in omega arith)
          (λ ge. let same : s ≡ t -ℤ pos 1 = omega (arith, ints) in subst (λ (u : ℤ). local zs u < m) (sym same) before);
    }

-- it is the first stretch that begins after the earliest timestamp that could show m
pub gap-next : (zs : List Stretch) (m : ℕ) (t : ℤ) → bad_zone zs ≡ None → pos 0 <ℤ t → IsGapEnd zs m t → next_start zs (pos (m - 151200000)) ≡ Some t
gap-next zs m t h over gap =
    let before = gap.before in
    let after = gap.after in
    let here = local-near zs (t -ℤ pos 1) h (omega (arith, ints)) in
    let there = local-near zs t h (omega (arith, ints)) in
    let more = gap_begins zs m t h over gap in
    let up = begun-up zs (pos (m - 151200000)) (t -ℤ pos 1) (omega (arith, ints, there.1)) in
    let few = begun-few zs (pos (m - 151200000)) t h (omega (arith, ints, here.0)) in
    let place : stretch_at zs t ≡ begun zs (pos (m - 151200000)) = omega arith in
    let within = (stretch_at-last zs t h).within in
    let found = slice_get-get_or zs (begun zs (pos (m - 151200000))) (record { from = pos 0; offset = pos 0 }) (omega arith) in
    let begins = has-begun zs t (begun zs (pos (m - 151200000))) _ (omega arith) found in
    ap (option_map (λ s. s.from)) found ∙ ap Some (by_lt_z (t -ℤ pos 1) _
    (λ lt. omega (arith, ints))
    (λ ge. absurd (let early = begun-past zs (t -ℤ pos 1) (begun zs (pos (m - 151200000))) _ h found ge in omega arith)))

-- A fixed offset.

one_begun : (s : Stretch) (t : ℤ) (b : Bool) → int_le s.from t ≡ b → offset_of (slice_get (s ∷ []) (prefix_len (λ s. int_le s.from t) (s ∷ []) - 1)) ≡ s.offset
one_begun s t true e = rw e refl
one_begun s t false e = rw e refl

pub fixed-offset : (offset t : ℤ) → offset_at (fixed_offset offset) t ≡ offset
unfolding begun
fixed-offset offset t = one_begun (record { from = pos 0; offset = offset }) t _ refl

pub fixed-valid : (offset : ℤ) → neg_ℤ OFFSET_LIMIT ≤ℤ offset → offset ≤ℤ OFFSET_LIMIT → bad_zone (fixed_offset offset) ≡ None
unfolding bad_zone
fixed-valid offset low high = grind (arith, ints)

pub fixed-range : (offset : ℤ) → bad_zone (fixed_offset offset) ≡ None → (neg_ℤ OFFSET_LIMIT ≤ℤ offset) × (offset ≤ℤ OFFSET_LIMIT)
fixed-range offset h = offset_of-bound (fixed_offset offset) 0 h

-- at the start it shows what the zone's clock shows
pub fixed-local : (zs : List Stretch) (t : ℤ) → local (fixed_offset (offset_at zs t)) t ≡ local zs t
fixed-local zs t = ap (λ (z : ℤ). unsigned_abs (t +ℤ pos 86400000 +ℤ z *ℤ pos 1000)) (fixed-offset (offset_at zs t) t)

pub fixed-shows : (offset t : ℤ) → local (fixed_offset offset) t ≡ unsigned_abs (t +ℤ pos 86400000 +ℤ offset *ℤ pos 1000)
fixed-shows offset t = ap (λ (z : ℤ). unsigned_abs (t +ℤ pos 86400000 +ℤ z *ℤ pos 1000)) (fixed-offset offset t)

-- it shows what is that much ahead, and nothing else
pub fixed-shown : (offset : ℤ) (m : ℕ) (t : ℤ) → bad_zone (fixed_offset offset) ≡ None → pos 0 ≤ℤ t → t ≤ℤ LAST → t ≡ pos m -ℤ pos 86400000 -ℤ offset *ℤ pos 1000 → IsShownAt (fixed_offset offset) m t
fixed-shown offset m t h low high e =
    let clock = local-clock (fixed_offset offset) t h low ∙ ap (λ (z : ℤ). t +ℤ pos 86400000 +ℤ z *ℤ pos 1000) (fixed-offset offset t) in
    (to_timestamp t low high, omega (arith, ints, clock))

pub fixed-only : (offset : ℤ) (m : ℕ) (t : ℤ) → bad_zone (fixed_offset offset) ≡ None → IsShownAt (fixed_offset offset) m t → t ≡ pos m -ℤ pos 86400000 -ℤ offset *ℤ pos 1000
fixed-only offset m t h shown =
    let clock = local-clock (fixed_offset offset) t h (timestamp_low t shown.0) ∙ ap (λ (z : ℤ). t +ℤ pos 86400000 +ℤ z *ℤ pos 1000) (fixed-offset offset t) in
    let shows = shown.1 in
    omega (arith, ints, clock)

pub shown-reaches : (offset : ℤ) (m : ℕ) (t : ℤ) → bad_zone (fixed_offset offset) ≡ None → IsShownAt (fixed_offset offset) m t → Reaches (fixed_offset offset) m t
shown-reaches offset m t h shown =
    let shows = shown.1 in
    record {
      known = shown.0;
      shows = omega arith;
      first = λ s known lt.
          let less = forward (fixed_offset offset) s t h (timestamp_low s known) lt (fixed-offset offset t ∙ sym (fixed-offset offset s)) in
          omega arith;
    }

-- each moment is the first timestamp at which its clock shows the turn or more
pub moment-reaches : (clock : Clock) (m : ℕ) (t : ℤ) → bad_zone (stretches clock) ≡ None → MomentBy clock m t → Reaches (stretches clock) m t
moment-reaches (Skipping zone) m t h e = earliest-reaches zone.now m t h e
moment-reaches (Waiting zone) m t h (inl e) = earliest-reaches zone.now m t h e
moment-reaches (Waiting zone) m t h (inr gap) = gap-reaches zone.now m t h gap
moment-reaches (Fixed offset) m t h shown = shown-reaches offset m t h shown

-- so there is but one
pub moment-one : (clock : Clock) (m : ℕ) (s t : ℤ) → bad_zone (stretches clock) ≡ None → MomentBy clock m s → MomentBy clock m t → s ≡ t
moment-one clock m s t h a b =
    let here = moment-reaches clock m s h a in
    let there = moment-reaches clock m t h b in
    by_lt_z s t
    (λ lt. absurd (let less = there.first s here.known lt in let shows = here.shows in omega arith))
    (λ ge. by_lt_z t s
    (λ lt. absurd (let less = here.first t there.known lt in let shows = there.shows in omega arith))
    (λ le. omega (arith, ints)))
