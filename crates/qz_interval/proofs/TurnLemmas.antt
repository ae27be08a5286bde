-- The moments of turns.
use Rattle.std.proofs.Common.{◌≡◌, ℕ, ◌+◌, ◌<◌, ◌≤◌, inl, inr, subst, arith, ℤ, ◌<ℤ◌, ◌≤ℤ◌, List, None, IsTrue}
use Rattle.std.proofs.lemmas.Bool.{cases_lt}
use Rattle.std.proofs.lemmas.Int.{ints, by_lt_z}
use Rattle.qz_civil.specs.declared.limits.TheConstants.{LAST}
use Rattle.qz_civil.specs.declared.stretches.Stretch.{Stretch}
use Rattle.qz_civil.specs.Least.{IsLeast, IsNext}
use Rattle.qz_civil.specs.Timings.{is_timestamp}
use Rattle.qz_civil.specs.Zones.{bad_zone, local}
use Rattle.qz_civil.proofs.InstantLemmas.{local-near, timestamp_low, timestamp_high}
use Rattle.qz_interval.specs.declared.clocks.Clock.{Clock}
use Rattle.qz_interval.specs.declared.turns.Turns.{Turns}
use Rattle.qz_interval.specs.Clocks.{MomentBy, stretches}
use Rattle.qz_interval.specs.Interval.{IsLaterTurn}
use Rattle.qz_interval.specs.Turns.{ArePassed, HasMoment, IsTurnOf}
use Rattle.qz_interval.proofs.ClockLemmas.{Reaches, moment-reaches}
use Rattle.qz_interval.proofs.NumberLemmas.{clock-same, turns_rise}

-- a clock that shows the turn or more at `after` reached it by then
reached_by : (zs : List Stretch) (after : ℤ) (m : ℕ) (s : ℤ) → IsTrue (is_timestamp after) → m ≤ local zs after → Reaches zs m s → s ≤ℤ after
reached_by zs after m s known le e = by_lt_z after s (λ lt. absurd (let less = e.first after known lt in omega arith)) (λ ge. ge)

-- what is less is reached by then
reach-rises : (zs : List Stretch) (m n : ℕ) (s t : ℤ) → m ≤ n → Reaches zs m s → Reaches zs n t → s ≤ℤ t
reach-rises zs m n s t le a b = let shows = b.shows in reached_by zs t m s b.known (omega arith) a

-- no timestamp shows a clock from 2200-01-02 on
never_reached : (zs : List Stretch) (m : ℕ) (s : ℤ) → bad_zone zs ≡ None → 7258291200000 ≤ m → Reaches zs m s → ⊥
never_reached zs m s h late e =
    let near = local-near zs s h (timestamp_low s e.known) in
    let high = timestamp_high s e.known in
    let shows = e.shows in
    omega (arith, ints, near.1)

module _ (clock : Clock) (valid : bad_zone (stretches clock) ≡ None) where
  -- a clock that shows the turn or more at `after` did so at the turn's moment
  pub shown_before : (after : ℤ) (m : ℕ) (s : ℤ) → IsTrue (is_timestamp after) → m ≤ local (stretches clock) after → MomentBy clock m s → s ≤ℤ after
  shown_before after m s known le e = reached_by (stretches clock) after m s known le (moment-reaches clock m s valid e)

  pub never_shown : (m : ℕ) (s : ℤ) → 7258291200000 ≤ m → MomentBy clock m s → ⊥
  never_shown m s late e = never_reached (stretches clock) m s valid late (moment-reaches clock m s valid e)

  module _ (turns : Turns) where
    -- the moments rise with the places, and two at one place are one
    later_moment : (j k : ℕ) (s t : ℤ) → HasMoment (MomentBy clock) turns j s → HasMoment (MomentBy clock) turns k t → j ≤ k → s ≤ℤ t
    later_moment j k s t a b le =
        let here = moment-reaches clock a.clock s valid a.at in
        let there = moment-reaches clock b.clock t valid b.at in
        elim (cases_lt j k) [
          | inl lt ↦ (let rise = turns_rise turns j k a.clock b.clock a.turn b.turn lt in reach-rises (stretches clock) a.clock b.clock s t (omega arith) here there)
          | inr ge ↦
              let place : j ≡ k = omega arith in
              let turn = subst (λ i. IsTurnOf turns i a.clock) place a.turn in
              let same = clock-same turns _ a.clock b.clock turn b.turn in
              reach-rises (stretches clock) a.clock b.clock s t (omega arith) here there
        ]

    place_of : (t : ℤ) → (h : IsLaterTurn (MomentBy clock) (IsTurnOf turns) t) → HasMoment (MomentBy clock) turns h.place t
    place_of t h = record { clock = h.clock; turn = h.turn; at = h.at }

    -- what holds of the moments of a turn's clock holds of the turn
    pub by_clock : (k m : ℕ) (after t : ℤ) → IsTurnOf turns k m → ((s : ℤ) → MomentBy clock m s → s ≤ℤ after) → HasMoment (MomentBy clock) turns k t → t ≤ℤ after
    by_clock k m after t here passed turn =
        let same = clock-same turns _ turn.clock m turn.turn here in
        passed t (subst (λ n. MomentBy clock n t) same turn.at)

    -- The search, place by place.

    -- the turns before the first place that may be later
    pub passed_first : (after : ℤ) (from first : ℕ) → IsTrue (is_timestamp after) → ((k m : ℕ) → k < from → IsTurnOf turns k m → m ≤ local (stretches clock) after) → ((j : ℕ) → 1 ≤ j → j < first → j < from) → ArePassed (MomentBy clock) turns after first
    passed_first after from first known before within j s one lt turn =
        shown_before after turn.clock s known (before j turn.clock (within j one lt) turn.turn) turn.at

    -- one more
    pub passed_next : (after : ℤ) (k : ℕ) → ArePassed (MomentBy clock) turns after k → ((t : ℤ) → HasMoment (MomentBy clock) turns k t → t ≤ℤ after) → ArePassed (MomentBy clock) turns after (k + 1)
    passed_next after k passed here j s one lt turn = elim (cases_lt j k) [
      | inl under ↦ passed j s one under turn
      | inr ge ↦ (let same : j ≡ k = omega arith in here s (subst (λ n. HasMoment (MomentBy clock) turns n s) same turn))
    ]

    -- the first that comes later is the least
    pub least_turn : (after t : ℤ) (k : ℕ) → 1 ≤ k → ArePassed (MomentBy clock) turns after k → HasMoment (MomentBy clock) turns k t → after <ℤ t → IsLeast LAST (IsLaterTurn (MomentBy clock) (IsTurnOf turns)) after t
    least_turn after t k one passed here lt = record {
      member = record { place = k; counted = one; clock = here.clock; turn = here.turn; at = here.at };
      later = lt;
      within = timestamp_high t (moment-reaches clock here.clock t valid here.at).known;
      least = λ s turn over. elim (cases_lt turn.place k) [
        | inl under ↦ absurd (omega (arith, ints, passed turn.place s turn.counted under (place_of s turn)))
        | inr above ↦ later_moment k turn.place t s here (place_of s turn) above
      ];
    }

    -- and there is none where all from a place on are late
    pub no_turn : (after : ℤ) (k : ℕ) → ArePassed (MomentBy clock) turns after k → ((j m : ℕ) → k ≤ j → IsTurnOf turns j m → 7258291200000 ≤ m) → IsNext LAST (IsLaterTurn (MomentBy clock) (IsTurnOf turns)) after None
    no_turn after k passed late s turn over within = elim (cases_lt turn.place k) [
      | inl under ↦ (let le = passed turn.place s turn.counted under (place_of s turn) in omega (arith, ints))
      | inr ge ↦ never_shown turn.clock s (late turn.place turn.clock ge turn.turn) turn.at
    ]
