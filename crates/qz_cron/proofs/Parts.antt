-- The first number whose quotient and remainder pass.
use Rattle.std.proofs.Common.{◌≡◌, ℕ, ◌+◌, ◌*◌, ◌/◌, ◌%◌, ◌<◌, ◌≤◌, ◌⊎◌, inl, inr, Bool, true, ◌&&◌, ap, arith, mul-le-mul_left}
use Rattle.std.proofs.lemmas.Bool.{cases_order}
use Rattle.std.proofs.Math.Nat.{div-add-mod}
use Rattle.std.proofs.lemmas.Nat.{div-mul-add, mod-mul-add, div-add-mod'}
use Rattle.qz_civil.specs.Least.{IsLeastIn}
use Rattle.qz_cron.specs.Search.{both_parts}

-- a number from h * n + l on has a greater quotient, or this one and a remainder from l on
at_or_past : (n h l k : ℕ) → 0 < n → h * n + l ≤ k → (h < k / n) ⊎ ((k / n ≡ h) × (l ≤ k % n))
at_or_past n h l k some le =
    let parts = div-add-mod k n in
    let small : k % n < n = omega arith in
    elim (cases_order (k / n) h) [
      | inl same ↦ inr (same, (let e : n * (k / n) ≡ n * h = ap (λ x. n * x) same in omega arith))
      | inr (inl lt) ↦ absurd (let m : n * (k / n + 1) ≤ n * h = mul-le-mul_left n (omega arith) in omega arith)
      | inr (inr gt) ↦ inl gt
    ]

-- a number before h * n + s has a smaller quotient, or this one and a remainder before s
before : (n h s k : ℕ) → 0 < n → s ≤ n → k < h * n + s → (k / n < h) ⊎ ((k / n ≡ h) × (k % n < s))
before n h s k some fits lt =
    let parts = div-add-mod k n in
    elim (cases_order (k / n) h) [
      | inl same ↦ inr (same, (let e : n * (k / n) ≡ n * h = ap (λ x. n * x) same in omega arith))
      | inr (inl less) ↦ inl less
      | inr (inr gt) ↦ absurd (let m : n * (h + 1) ≤ n * (k / n) = mul-le-mul_left n (omega arith) in omega arith)
    ]

fits_end : (n h s e : ℕ) → h < e → s < n → h * n + s < e * n
fits_end n h s e lt small =
    let m : n * (h + 1) ≤ n * e = mul-le-mul_left n (omega arith) in omega arith

at_parts : (n : ℕ) (p q : ℕ → Bool) (h s : ℕ) → s < n → (p h && q s) ≡ true → both_parts n p q (h * n + s) ≡ true
at_parts n p q h s lt e = rw (div-mul-add h n s lt, mod-mul-add h n s lt) e

joined_here : (n : ℕ) (p q : ℕ → Bool) (h l e v : ℕ) → 0 < n → h < e → IsLeastIn (λ x. p h && q x) l n v → IsLeastIn (both_parts n p q) (h * n + l) (e * n) (h * n + v)
joined_here n p q h l e v some lt f = record {
  low = (let a = f.low in omega arith);
  high = fits_end n h v e lt f.high;
  passes = at_parts n p q h v f.high f.passes;
  none = λ k from to.
      let high = f.high in
      elim (before n h v k some (omega arith) to) [
        | inl less ↦ elim (at_or_past n h l k some from) [
          | inl gt ↦ absurd (omega arith)
          | inr same ↦ absurd (omega arith)
        ]
        | inr same ↦ elim (at_or_past n h l k some from) [
          | inl gt ↦ absurd (omega arith)
          | inr here ↦ rw same.0 (f.none (k % n) here.1 same.1)
        ]
      ];
}

-- the search from a number on: with its quotient, with a later one, and where there is none

pub first_here : (n : ℕ) (p q : ℕ → Bool) (from e v : ℕ) → 0 < n → from / n < e → IsLeastIn (λ x. p (from / n) && q x) (from % n) n v → IsLeastIn (both_parts n p q) from (e * n) (from / n * n + v)
first_here n p q from e v some lt f =
    let whole : from / n * n + from % n ≡ from = div-add-mod' from n in
    rw whole at (joined_here n p q (from / n) (from % n) e v some lt f)
