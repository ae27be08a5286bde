-- The first number of a range that passes a test: other ranges and other tests.
use Rattle.std.proofs.Common.{◌≡◌, ℕ, ◌<◌, ◌≤◌, ◌⊎◌, inl, inr, Bool, false, Option, Some, None, ◌∙◌, arith}
use Rattle.std.proofs.lemmas.Bool.{cases_lt}
use Rattle.qz_civil.specs.Least.{NoneIn, IsLeastIn, IsFirst}

-- ranges behind one another
pub none_then : (p : ℕ → Bool) (from mid to : ℕ) → NoneIn p from mid → NoneIn p mid to → NoneIn p from to
none_then p from mid to a b k low high =
    elim (cases_lt k mid) [
      | inl lt ↦ a k low lt
      | inr ge ↦ b k ge high
    ]

pub first_then : (p : ℕ → Bool) (from mid to v : ℕ) → from ≤ mid → NoneIn p from mid → IsLeastIn p mid to v → IsLeastIn p from to v
first_then p from mid to v le a f = record {
  low = (let low = f.low in omega arith);
  high = f.high;
  passes = f.passes;
  none = none_then p from mid v a f.none;
}

-- a range that ends elsewhere
pub first_before : (p : ℕ → Bool) (from end to v : ℕ) → IsLeastIn p from end v → v < to → IsLeastIn p from to v
first_before p from end to v f lt = record { low = f.low; high = lt; passes = f.passes; none = f.none }

pub none_before : (p : ℕ → Bool) (from end to v : ℕ) → IsLeastIn p from end v → to ≤ v → NoneIn p from to
none_before p from end to v f le k low high = f.none k low (omega arith)

-- a test that is the same in the range
pub none_same : (p q : ℕ → Bool) (from to : ℕ) → ((k : ℕ) → from ≤ k → k < to → q k ≡ p k) → NoneIn p from to → NoneIn q from to
none_same p q from to same none k low high = same k low high ∙ none k low high

pub first_same : (p q : ℕ → Bool) (from to : ℕ) (r : Option ℕ) → ((k : ℕ) → from ≤ k → k < to → q k ≡ p k) → IsFirst p from to r → IsFirst q from to r
first_same p q from to None same none = none_same p q from to same none
first_same p q from to (Some v) same f =
    let low = f.low in
    let high = f.high in
    record {
      low = f.low;
      high = f.high;
      passes = same v f.low f.high ∙ f.passes;
      none = none_same p q from v (λ k a b. same k a (omega arith)) f.none;
    }

-- a test that passes nowhere in the range but from `start` to before `end`
pub first_within : (p q : ℕ → Bool) (from start end to : ℕ) (r : Option ℕ) → from ≤ start → end ≤ to → ((k : ℕ) → from ≤ k → k < to → (k < start) ⊎ (end ≤ k) → q k ≡ false) → ((k : ℕ) → start ≤ k → k < end → q k ≡ p k) → IsFirst p start end r → IsFirst q from to r
first_within p q from start end to None a b out same none =
    λ k low high. elim (cases_lt k start) [
      | inl lt ↦ out k low high (inl lt)
      | inr ge ↦ elim (cases_lt k end) [
        | inl lt ↦ same k ge lt ∙ none k ge lt
        | inr past ↦ out k low high (inr past)
      ]
    ]
first_within p q from start end to (Some v) a b out same f =
    let low = f.low in
    let high = f.high in
    record {
      low = omega arith;
      high = omega arith;
      passes = same v low high ∙ f.passes;
      none = λ k from_k to_k. elim (cases_lt k start) [
        | inl lt ↦ out k from_k (omega arith) (inl lt)
        | inr ge ↦ same k ge (omega arith) ∙ f.none k ge to_k
      ];
    }
