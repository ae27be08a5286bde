-- All fire times after one another: each is the next one after the one before, and after the last there is none.
use Rattle.std.proofs.Common.{◌≡◌, ℕ, zero, suc, ◌<◌, ℤ, ◌<ℤ◌, ◌≤ℤ◌, List, [], ◌∷◌, length, get_or, None, arith}
use Rattle.std.specs.Prelude.{AllPairs, Contains}
use Rattle.std.proofs.lemmas.Int.{ints, by_lt_z}
use Rattle.std.proofs.lemmas.List.Elements.{All-nil, All-cons, All-head, All-get_or}
use Rattle.qz_civil.specs.Least.{IsLeast, IsNext}
use Rattle.qz_plan.specs.FireTimes.{AreAllAfter}

module _ (horizon : ℤ) (Member : ℤ → Type 0) where
  abbrev Later : ℤ → ℤ → Type 0
  Later after t = Member t × (after <ℤ t) × (t ≤ℤ horizon)

  pub all-none : (after : ℤ) → IsNext horizon Member after None → AreAllAfter horizon Member after []
  all-none after none = record {
    ascending = λ i j d lt within. absurd (omega arith);
    only = All-nil (Later after);
    all = λ t member later within. absurd (none t member later within);
  }

  pub all-empty : (after : ℤ) → AreAllAfter horizon Member after [] → IsNext horizon Member after None
  all-empty after are s member later within = let found = are.all s member later within in omega (arith, found.1)

  pairs : (after t : ℤ) (ts : List ℤ) → AreAllAfter horizon Member t ts → AllPairs (λ r s. r <ℤ s) (t ∷ ts)
  pairs after t ts rest zero zero d lt within = absurd (omega arith)
  pairs after t ts rest zero (suc j) d lt within = (All-get_or (Later t) ts j d (omega arith) rest.only).1
  pairs after t ts rest (suc i) zero d lt within = absurd (omega arith)
  pairs after t ts rest (suc i) (suc j) d lt within = rest.ascending i j d (omega arith) (omega arith)

  pub all-some : (after t : ℤ) (ts : List ℤ) → IsLeast horizon Member after t → AreAllAfter horizon Member t ts → AreAllAfter horizon Member after (t ∷ ts)
  all-some after t ts first rest = record {
    ascending = pairs after t ts rest;
    only = All-cons (Later after) t ts (first.member, first.later, first.within) (λ k d lt.
        let later = rest.only k d lt in
        let over = first.later in
        (later.0, omega (arith, ints, later.1), later.2));
    all = λ s member later within. by_lt_z t s
        (λ lt. let found = rest.all s member lt within in (suc found.0, omega (arith, found.1), found.2))
        (λ ge. let low = first.least s member later in let same : t ≡ s = omega (arith, ints) in (zero, omega arith, same));
  }

  -- what the list has isn't below its first number
  reach : (t s : ℤ) (ts : List ℤ) → AllPairs (λ r u. r <ℤ u) (t ∷ ts) → (k : ℕ) → k < length (t ∷ ts) → get_or (t ∷ ts) k s ≡ s → t ≤ℤ s
  reach t s ts pairs zero lt is = omega (arith, ints)
  reach t s ts pairs (suc k) lt is = let over = pairs zero (suc k) s (omega arith) lt in omega (arith, ints)

  pub all-head : (after t : ℤ) (ts : List ℤ) → AreAllAfter horizon Member after (t ∷ ts) → IsLeast horizon Member after t
  all-head after t ts are =
      let first = All-head (Later after) t ts are.only in
      record {
        member = first.0;
        later = first.1;
        within = first.2;
        least = λ s member later. by_lt_z horizon s
            (λ over. omega (arith, ints, first.2))
            (λ within. let found = are.all s member later within in reach t s ts are.ascending found.0 found.1 found.2);
      }

  -- what the list has and comes after its first number is in the rest
  in_rest : (t s : ℤ) (ts : List ℤ) → t <ℤ s → (k : ℕ) → k < length (t ∷ ts) → get_or (t ∷ ts) k s ≡ s → Contains ts s
  in_rest t s ts over zero lt is = absurd (omega (arith, ints))
  in_rest t s ts over (suc k) lt is = (k, omega arith, is)

  pub all-tail : (after t : ℤ) (ts : List ℤ) → AreAllAfter horizon Member after (t ∷ ts) → AreAllAfter horizon Member t ts
  all-tail after t ts are =
      let first = All-head (Later after) t ts are.only in
      record {
        ascending = λ i j d lt within. are.ascending (suc i) (suc j) d (omega arith) (omega arith);
        only = λ k d lt.
            let later = are.only (suc k) d (omega arith) in
            (later.0, are.ascending zero (suc k) d (omega arith) (omega arith), later.2);
        all = λ s member over within.
            let found = are.all s member (omega (arith, ints, first.1)) within in
            in_rest t s ts over found.0 found.1 found.2;
      }
