-- The schedule is its start and the later turns.
use Rattle.std.proofs.Common.{◌≡◌, ◌↔◌, ℕ, inl, inr, ◌∙◌, sym, subst, arith, ℤ, pos, ◌<ℤ◌, ◌≤ℤ◌, Option, None, Some, IfSome, IfNone}
use Rattle.std.proofs.lemmas.Int.{ints}
use Rattle.qz_civil.specs.declared.limits.TheConstants.{LAST}
use Rattle.qz_civil.specs.Least.{IsLeast, IsNext}
use Rattle.qz_civil.specs.Occurrences.{IsBefore, IsPast}
use Rattle.qz_interval.specs.Interval.{IsDated, IsLaterTurn}

-- before the start, the start is next
pub start_next : (M : ℕ → ℤ → Type 0) (IsOccurrence : ℕ → ℕ → Type 0) (start : ℤ) (end : Option ℤ) (after : ℤ) (s : ℕ) (r : Option ℤ) → pos s ≡ start → after <ℤ start → IfSome r (λ t. (t ≡ pos s) × (t ≤ℤ LAST) × IsBefore end t) → IfNone r (IsPast end s) → IsNext LAST (IsDated M IsOccurrence start end) after r
start_next M IsOccurrence start end after s None e lt kept gone =
    λ t h over within. elim h.turn [
      | inl same ↦ gone t (omega (arith, ints)) within h.before
      | inr turn ↦ gone t (omega (arith, ints, turn.0)) within h.before
    ]
start_next M IsOccurrence start end after s (Some t) e lt kept gone = record {
  member = record { turn = inl (kept.0 ∙ e); before = kept.2 };
  later = omega (arith, ints, kept.0);
  within = kept.1;
  least = λ u h over. elim h.turn [
    | inl same ↦ omega (arith, ints, kept.0)
    | inr turn ↦ omega (arith, ints, kept.0, turn.0)
  ];
}

-- the same turns and moments by other words
other_turn : (M N : ℕ → ℤ → Type 0) (A B : ℕ → ℕ → Type 0) (t : ℤ) → ((m : ℕ) (u : ℤ) → M m u → N m u) → ((k m : ℕ) → A k m → B k m) → IsLaterTurn M A t → IsLaterTurn N B t
other_turn M N A B t g f h = record { place = h.place; counted = h.counted; clock = h.clock; turn = f h.place h.clock h.turn; at = g h.clock t h.at }

module _ (M N : ℕ → ℤ → Type 0) (A B : ℕ → ℕ → Type 0) (moments : (m : ℕ) (t : ℤ) → M m t ↔ N m t) (turns : (k n : ℕ) → A k n ↔ B k n) where
  to : (t : ℤ) → IsLaterTurn M A t → IsLaterTurn N B t
  to t h = other_turn M N A B t (λ m u. (moments m u).0) (λ k n. (turns k n).0) h

  from : (t : ℤ) → IsLaterTurn N B t → IsLaterTurn M A t
  from t h = other_turn N M B A t (λ m u. (moments m u).1) (λ k n. (turns k n).1) h

  -- from the start on, the next later turn is next
  pub turn_next : (start : ℤ) (end : Option ℤ) (after m : ℤ) (s : ℕ) (r : Option ℤ) → start ≤ℤ after → pos s ≡ m → IsLeast LAST (IsLaterTurn M A) after m → IfSome r (λ t. (t ≡ pos s) × (t ≤ℤ LAST) × IsBefore end t) → IfNone r (IsPast end s) → IsNext LAST (IsDated N B start end) after r
  turn_next start end after m s None le e next kept gone =
      λ t h over within. elim h.turn [
        | inl is ↦ omega (arith, ints)
        | inr turn ↦
            let least = next.least t (from t turn.1) over in
            gone t (omega (arith, ints)) within h.before
      ]
  turn_next start end after m s (Some t) le e next kept gone =
      let is : m ≡ t = sym (kept.0 ∙ e) in
      let turn = to t (subst (λ u. IsLaterTurn M A u) is next.member) in
      record {
        member = record { turn = inr (omega (arith, ints, next.later), turn); before = kept.2 };
        later = omega (arith, ints, next.later);
        within = kept.1;
        least = λ u h over. elim h.turn [
          | inl start_is ↦ absurd (omega (arith, ints))
          | inr other ↦ omega (arith, ints, next.least u (from u other.1) over)
        ];
      }

  -- and where no later turn comes, nothing does
  pub turn_none : (start : ℤ) (end : Option ℤ) (after : ℤ) → start ≤ℤ after → IsNext LAST (IsLaterTurn M A) after None → IsNext LAST (IsDated N B start end) after None
  turn_none start end after le none = λ t h over within. elim h.turn [
    | inl is ↦ omega (arith, ints)
    | inr turn ↦ none t (from t turn.1) over within
  ]
