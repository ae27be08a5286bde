-- How often a seat can be split: each split leaves about half of the further numbers to either seat.
use Rattle.std.proofs.Common.{◌≡◌, ℕ, zero, suc, ◌+◌, ◌-◌, ◌*◌, ◌/◌, ◌^◌, ◌≤◌, arith, subst}
use Rattle.std.proofs.Math.Nat.{pow-succ'}
use Rattle.std.proofs.Math.Pow.{pow_mono}

one_at_least : (n : ℕ) → 1 ≤ 2 ^ n
one_at_least zero = omega arith
one_at_least (suc n) = let p = pow-succ' 2 n in let i = one_at_least n in omega arith

two_at_least : (n : ℕ) → 2 ≤ 2 ^ (n + 1)
two_at_least n =
    let p = pow-succ' 2 n in
    let i = one_at_least n in
    let more : 2 ≤ 2 ^ suc n = omega arith in
    let next : suc n ≡ n + 1 = omega arith in
    subst (λ m. 2 ≤ 2 ^ m) next more

half_of : (k p more : ℕ) → p ≡ 2 * k → 2 ≤ k → p ≤ more + 1 → (1 ≤ more) × (k ≤ more / 2 + 1) × (1 ≤ (more + 1) / 2 - 1)
half_of k p more is two most = (omega arith, omega arith, omega arith)

-- where there is enough for one node and the nodes after it, a split leaves enough for both
pub enough : (n more : ℕ) → 2 ^ (n + 2) ≤ more + 1 → (1 ≤ more) × (2 ^ (n + 1) ≤ more / 2 + 1) × (1 ≤ (more + 1) / 2 - 1)
enough n more most =
    let next : n + 2 ≡ suc (n + 1) = omega arith in
    half_of (2 ^ (n + 1)) (2 ^ suc (n + 1)) more (pow-succ' 2 (n + 1)) (two_at_least n) (subst (λ m. 2 ^ m ≤ more + 1) next most)

-- the nodes after the first are one fewer
pub enough_after : (all others more : ℕ) → all ≡ others + 1 → 2 ^ (all + 1) ≤ more + 1 → 2 ^ (others + 2) ≤ more + 1
enough_after all others more is most =
    let next : all + 1 ≡ others + 2 = omega arith in
    subst (λ m. 2 ^ m ≤ more + 1) next most

-- a first seat has enough for sixteen nodes
pub enough_for_all : (n : ℕ) → n ≤ 16 → 2 ^ (n + 1) ≤ 4294967295 + 1
enough_for_all n few = let p : 2 ^ (n + 1) ≤ 2 ^ 17 = pow_mono {i = n + 1} {j = 17} (omega arith) in omega (arith, p)
