-- The first turn behind a moment is the next fire time.
use Rattle.std.proofs.Common.{◌≡◌, ℕ, ◌+◌, ◌*◌, ◌≤◌, inl, inr, refl, arith, ℤ, pos, negsuc, IsTrue, ◌+ℤ◌, ◌*ℤ◌, ◌<ℤ◌, ◌≤ℤ◌, Option, None, Some, IfSome, IfNone}
use Rattle.std.proofs.lemmas.Int.{ints}
use Rattle.std.proofs.lemmas.Nat.{mul-le}
use Rattle.qz_civil.specs.declared.limits.TheConstants.{LAST, LONGEST}
use Rattle.qz_civil.specs.Least.{IsNext}
use Rattle.qz_civil.specs.Occurrences.{IsOccurrence, IsBefore, IsPast}
use Rattle.qz_civil.specs.Timings.{is_simple, is_span}
use Rattle.qz_simple.specs.Simple.{IsCounted, IsSimple}

-- the limits of the fields

pub span-bounds : (t : ℤ) → IsTrue (is_span t) → (pos 0 ≤ℤ t) × (t ≤ℤ LONGEST)
span-bounds t h = (grind (arith, ints), grind (arith, ints))

pub interval-bounds : (interval count : ℤ) → IsTrue (is_simple interval count) → (pos 0 ≤ℤ interval) × (interval ≤ℤ LONGEST)
interval-bounds interval count h = (grind (arith, ints), grind (arith, ints))

pub count-bounds : (interval count : ℤ) → IsTrue (is_simple interval count) → (negsuc 0 ≤ℤ count) × (count ≤ℤ pos 2147483647)
count-bounds interval count h = (grind (arith, ints), grind (arith, ints))

-- the turns

-- the turns at natural numbers: they begin at s, go by steps of i, and f is the first moment behind `after`
pub record AreNatural (start interval after : ℤ) (s i f : ℕ) : Type 0 where
  pub begins : pos s ≡ start
  pub steps : pos i ≡ interval
  pub from : pos f ≡ after +ℤ pos 1

at_place : (start interval after : ℤ) (s i f k : ℕ) → AreNatural start interval after s i f → start +ℤ pos k *ℤ interval ≡ pos (s + k * i)
at_place start interval after s i f k n = rw (← n.begins, ← n.steps) refl

-- a fire time behind `after` is the first turn or a later one
is_behind : (start : ℤ) (end : Option ℤ) (interval count after t : ℤ) (s i f k : ℕ) → AreNatural start interval after s i f → IsOccurrence s i f k → (h : IsSimple start end interval count t) → after <ℤ t → k ≤ h.place
is_behind start end interval count after t s i f k n turn h lt =
    turn.first h.place (omega (arith, ints, h.at, n.from, at_place start interval after s i f h.place n))

not_before : (start : ℤ) (end : Option ℤ) (interval count after t : ℤ) (s i f k : ℕ) → AreNatural start interval after s i f → IsOccurrence s i f k → IsSimple start end interval count t → after <ℤ t → pos (s + k * i) ≤ℤ t
not_before start end interval count after t s i f k n turn h lt =
    let le = is_behind start end interval count after t s i f k n turn h lt in
    omega (arith, ints, h.at, at_place start interval after s i f h.place n, mul-le k i h.place i le (omega arith))

-- where the first turn is counted, the answer is that turn before the end
pub cut_turn : (start : ℤ) (end : Option ℤ) (interval count after : ℤ) (s i f k m : ℕ) (r : Option ℤ) → AreNatural start interval after s i f → IsOccurrence s i f k → m ≡ s + k * i → IsCounted count k → IfSome r (λ t. (t ≡ pos m) × (t ≤ℤ LAST) × IsBefore end t) → IfNone r (IsPast end m) → IsNext LAST (IsSimple start end interval count) after r
cut_turn start end interval count after s i f k m None n turn at counted kept gone =
    λ t h lt within. gone t (omega (arith, ints, not_before start end interval count after t s i f k n turn h lt)) within h.before
cut_turn start end interval count after s i f k m (Some t) n turn at counted kept gone = record {
  member = record {
    place = k;
    at = omega (arith, ints, kept.0, at_place start interval after s i f k n);
    counted = counted;
    before = kept.2;
  };
  later = omega (arith, ints, kept.0, n.from, turn.reached);
  within = kept.1;
  least = λ u h lt. omega (arith, ints, kept.0, not_before start end interval count after u s i f k n turn h lt);
}

-- where it isn't, no later one is
pub not_counted : (start : ℤ) (end : Option ℤ) (interval count after : ℤ) (s i f k : ℕ) → AreNatural start interval after s i f → IsOccurrence s i f k → (IsCounted count k → ⊥) → IsNext LAST (IsSimple start end interval count) after None
not_counted start end interval count after s i f k n turn over t h lt within =
    let le = is_behind start end interval count after t s i f k n turn h lt in
    elim h.counted [
      | inl any ↦ over (inl any)
      | inr few ↦ over (inr (omega (arith, ints)))
    ]

-- where no turn comes behind `after`, no fire time does
pub no_turn : (start : ℤ) (end : Option ℤ) (interval count after : ℤ) (s i f : ℕ) → AreNatural start interval after s i f → ((j : ℕ) → f ≤ s + j * i → ⊥) → IsNext LAST (IsSimple start end interval count) after None
no_turn start end interval count after s i f n none t h lt within =
    none h.place (omega (arith, ints, h.at, n.from, at_place start interval after s i f h.place n))
