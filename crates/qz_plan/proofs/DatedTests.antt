-- The test of a fire time on a later day decides `IsDated`, where the test of the day decides the turns.
use Rattle.std.proofs.Common.{◌≡◌, ◌⊎◌, refl, sym, ap, subst, ◌∙◌, ◌&&◌, ◌==◌, ℕ, ◌/◌, ◌%◌, ◌<◌, ◌≤◌, Bool, true, false, inl, inr, nat_lt, ℤ, pos, ◌-ℤ◌, ◌≤ℤ◌, unsigned_abs, List, Option, arith}
use Rattle.std.specs.Bool.{Decides}
use Rattle.std.proofs.lemmas.Bool.Decides.{Decides-and, Decides-or, Decides-not, Decides-below_or, Decides-eqb, Decides-int_eq, Decides-like, Decides-ltb}
use Rattle.std.proofs.lemmas.Int.{ints, by_lt_z}
use Rattle.qz_civil.specs.declared.limits.TheConstants.{DAY_MS, LAST}
use Rattle.qz_civil.specs.declared.stretches.Stretch.{Stretch}
use Rattle.qz_civil.specs.Instants.{IsEarliest, IsShownAt}
use Rattle.qz_civil.specs.Zones.{fixed_offset, local, offset_at}
use Rattle.qz_civil.proofs.InstantLemmas.{timestamp_low, to_timestamp}
use Rattle.qz_interval.specs.Interval.{IsClockOf, IsDated, IsGapEnd, IsLaterTurn, IsMoment}
use Rattle.qz_plan.specs.Plan.{is_before, is_between, is_dated_time, is_moment, is_shown_before, is_shown_first, is_turn}
use Rattle.qz_plan.proofs.TestLaws.{int_lt-decides, is_before-decides}

-- an earlier timestamp shows that too
abbrev IsShownBefore : List Stretch → ℕ → ℕ → Type 0
IsShownBefore zone clock n = (k : ℕ) × (k < n) × (local zone (pos k) ≡ clock)

is_shown_before-decides : (zone : List Stretch) (clock n : ℕ) → Decides (is_shown_before zone clock n) (IsShownBefore zone clock n)
is_shown_before-decides zone clock n =
    Decides-below_or (λ k. local zone (pos k) == clock) (λ k. local zone (pos k) ≡ clock) (is_shown_before zone clock) (λ k. Decides-eqb (local zone (pos k)) clock) refl (λ k. refl) n

-- t is the earliest timestamp with its local time, where no earlier one shows it
earliest : (zone : List Stretch) (t : ℤ) → pos 0 ≤ℤ t → t ≤ℤ LAST → (IsShownBefore zone (local zone t) (unsigned_abs t) → ⊥) → IsEarliest (IsShownAt zone (local zone t)) t
earliest zone t low high none = record {
  member = (to_timestamp t low high, refl);
  earliest = λ s shown. by_lt_z s t
      (λ lt. let known = timestamp_low s shown.0 in
      let same : s ≡ pos (unsigned_abs s) = omega (arith, ints) in
      absurd (none (unsigned_abs s, omega (arith, ints), sym (ap (local zone) same) ∙ shown.1)))
      (λ ge. ge);
}

none_before : (zone : List Stretch) (t : ℤ) → t ≤ℤ LAST → IsEarliest (IsShownAt zone (local zone t)) t → IsShownBefore zone (local zone t) (unsigned_abs t) → ⊥
none_before zone t high first before =
    let lt = before.1 in
    let known = timestamp_low t first.member.0 in
    let over = first.earliest (pos before.0) (to_timestamp (pos before.0) (omega (arith, ints)) (omega (arith, ints)), before.2) in
    omega (arith, ints)

-- a number between the two is in the set
abbrev IsBetween : (ℕ → Type 0) → ℕ → ℕ → Type 0
IsBetween Member low n = (k : ℕ) × (k < n) × ((low < k) × Member k)

is_between-decides : (passes : ℕ → Bool) (Member : ℕ → Type 0) → ((m : ℕ) → Decides (passes m) (Member m)) → (low n : ℕ) → Decides (is_between passes low n) (IsBetween Member low n)
is_between-decides passes Member each low n =
    Decides-below_or (λ k. nat_lt low k && passes k) (λ k. (low < k) × Member k) (is_between passes low) (λ k. Decides-and _ _ (Decides-ltb low k) (each k)) refl (λ k. refl) n

-- the moments of turns, where a test decides which local times are turns
module _ (passes : ℕ → Bool) (Turn : ℕ → ℕ → Type 0) (turns : (m : ℕ) → Decides (passes m) ((k : ℕ) × (1 ≤ k) × Turn k m)) (zone : List Stretch) (t : ℤ) (low : pos 0 ≤ℤ t) (high : t ≤ℤ LAST) where
  abbrev HasTurn : ℕ → Type 0
  HasTurn m = (k : ℕ) × (1 ≤ k) × Turn k m

  to_shown : HasTurn (local zone t) × (IsShownBefore zone (local zone t) (unsigned_abs t) → ⊥) → IsLaterTurn (λ m u. IsEarliest (IsShownAt zone m) u) Turn t
  to_shown h = record { place = h.0.0; counted = h.0.1; clock = local zone t; turn = h.0.2; at = earliest zone t low high h.1 }

  of_shown : IsLaterTurn (λ m u. IsEarliest (IsShownAt zone m) u) Turn t → HasTurn (local zone t) × (IsShownBefore zone (local zone t) (unsigned_abs t) → ⊥)
  of_shown h =
      let same : h.clock ≡ local zone t = sym h.at.member.1 in
      let turn : Turn h.place (local zone t) = subst (λ m. Turn h.place m) same h.turn in
      let at : IsEarliest (IsShownAt zone (local zone t)) t = subst (λ m. IsEarliest (IsShownAt zone m) t) same h.at in
      ((h.place, h.counted, turn), none_before zone t high at)

  shown-decides : Decides (is_shown_first zone passes t) (IsLaterTurn (λ m u. IsEarliest (IsShownAt zone m) u) Turn t)
  shown-decides =
      Decides-like _ to_shown of_shown
      (Decides-and _ _ (turns (local zone t)) (Decides-not _ (is_shown_before-decides zone (local zone t) (unsigned_abs t))))

  gap-decides : Decides (is_between passes (local zone (t -ℤ pos 1)) (local zone t)) (IsLaterTurn (IsGapEnd zone) Turn t)
  gap-decides =
      Decides-like _
      (λ h. record { place = h.2.1.0; counted = h.2.1.1; clock = h.0; turn = h.2.1.2; at = record { known = to_timestamp t low high; before = h.2.0; after = h.1 } })
      (λ h. (h.clock, h.at.after, (h.at.before, (h.place, h.counted, h.turn))))
      (is_between-decides passes HasTurn turns (local zone (t -ℤ pos 1)) (local zone t))

  fixed-decides : (offset : ℤ) → Decides (passes (local (fixed_offset offset) t)) (IsLaterTurn (IsShownAt (fixed_offset offset)) Turn t)
  fixed-decides offset =
      Decides-like _
      (λ h. record { place = h.0; counted = h.1; clock = local (fixed_offset offset) t; turn = h.2; at = (to_timestamp t low high, refl) })
      (λ h. (h.place, h.counted, subst (λ m. Turn h.place m) (sym h.at.1) h.turn))
      (turns (local (fixed_offset offset) t))

  to_either : IsLaterTurn (λ m u. IsEarliest (IsShownAt zone m) u) Turn t ⊎ IsLaterTurn (IsGapEnd zone) Turn t → IsLaterTurn (λ m u. IsEarliest (IsShownAt zone m) u ⊎ IsGapEnd zone m u) Turn t
  to_either (inl h) = record { place = h.place; counted = h.counted; clock = h.clock; turn = h.turn; at = inl h.at }
  to_either (inr h) = record { place = h.place; counted = h.counted; clock = h.clock; turn = h.turn; at = inr h.at }

  of_either : IsLaterTurn (λ m u. IsEarliest (IsShownAt zone m) u ⊎ IsGapEnd zone m u) Turn t → IsLaterTurn (λ m u. IsEarliest (IsShownAt zone m) u) Turn t ⊎ IsLaterTurn (IsGapEnd zone) Turn t
  of_either h = elim h.at [
    | inl shown ↦ inl (record { place = h.place; counted = h.counted; clock = h.clock; turn = h.turn; at = shown })
    | inr gap ↦ inr (record { place = h.place; counted = h.counted; clock = h.clock; turn = h.turn; at = gap })
  ]

  pub moment-decides : (preserve skip : Bool) (start : ℤ) → Decides (is_moment preserve skip zone passes start t) (IsLaterTurn (IsMoment preserve skip zone start) Turn t)
  moment-decides true true start = shown-decides
  moment-decides true false start = Decides-like _ to_either of_either (Decides-or _ _ shown-decides gap-decides)
  moment-decides false skip start = fixed-decides (offset_at zone start)

module _ (is_later : ℕ → ℕ → Bool) (Later : ℕ → ℕ → ℕ → Type 0) (days : (first day : ℕ) → Decides (is_later first day) ((k : ℕ) × (1 ≤ k) × Later k first day)) where
  -- the clock shows m some turns after l
  turn-decides : (l m : ℕ) → Decides (is_turn is_later l m) ((k : ℕ) × (1 ≤ k) × IsClockOf (Later k) l m)
  turn-decides l m =
      Decides-like _ (λ h. (h.1.0, h.1.1, record { day = h.1.2; time = h.0 })) (λ h. (h.2.time, (h.0, h.1, h.2.day)))
      (Decides-and _ _ (Decides-eqb (m % DAY_MS) (l % DAY_MS)) (days (l / DAY_MS) (m / DAY_MS)))

  pub dated-decides : (preserve skip : Bool) (zone : List Stretch) (start t : ℤ) (end : Option ℤ) → pos 0 ≤ℤ t → t ≤ℤ LAST → Decides (is_dated_time preserve skip zone is_later start t && is_before end t) (IsDated (IsMoment preserve skip zone start) (λ k m. IsClockOf (Later k) (local zone start) m) start end t)
  dated-decides preserve skip zone start t end low high =
      Decides-like _ (λ h. record { turn = h.0; before = h.1 }) (λ h. (h.turn, h.before))
      (Decides-and _ _
      (Decides-or _ _ (Decides-int_eq t start)
      (Decides-and _ _ (int_lt-decides start t)
      (moment-decides (is_turn is_later (local zone start)) (λ k m. IsClockOf (Later k) (local zone start) m) (turn-decides (local zone start)) zone t low high preserve skip start)))
      (is_before-decides end t))
