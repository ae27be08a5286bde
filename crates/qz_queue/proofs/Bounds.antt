-- How far a pair can move in a heap.
use Rattle.std.proofs.Common.{◌≡◌, ℕ, zero, suc, ◌+◌, ◌*◌, ◌^◌, ◌≤◌, refl, subst, arith, pow_pos, add-one}
use Rattle.qz_queue.specs.Order.{IsLogarithmic}
use Rattle.std.proofs.Math.Nat.{mul-le-mul_left, mul-le-mul_right, pow-suc}

double : (s : ℕ) → 2 ^ suc s ≡ 2 ^ s + 2 ^ s
double s = omega (arith, pow-suc 2 s)

climbs_by : (w at p start : ℕ) → 2 * (p + 1) ≤ at + 1 → w * (at + 1) ≤ start + 1 → (w + w) * (p + 1) ≤ start + 1
climbs_by w at p start h k = let m : w * (2 * (p + 1)) ≤ w * (at + 1) = mul-le-mul_left w h in omega arith

pub climbs : (s at p start : ℕ) → 2 * (p + 1) ≤ at + 1 → 2 ^ s * (at + 1) ≤ start + 1 → 2 ^ (s + 1) * (p + 1) ≤ start + 1
climbs s at p start h k = rw (add-one s) (rw double (climbs_by (2 ^ s) at p start h k))

pub falls_more : (s at c start : ℕ) → 2 * (at + 1) ≤ c + 1 → 2 ^ s * (start + 1) ≤ at + 1 → 2 ^ (s + 1) * (start + 1) ≤ c + 1
falls_more s at c start h k = rw (add-one s) (rw double (omega arith))

stands_by : (w at : ℕ) → 1 ≤ w → (w + w) * (at + 1) ≤ at + 1 → ⊥
stands_by w at p h = let m : 1 * (at + 1) ≤ w * (at + 1) = mul-le-mul_right (at + 1) p in omega arith

pub stands : (s at : ℕ) → 2 ^ s * (at + 1) ≤ at + 1 → s ≡ 0
stands zero at h = refl
stands (suc s) at h = absurd (stands_by (2 ^ s) at (pow_pos s) (rw double at h))

pub at_most : (s n m : ℕ) → 2 ^ s * (n + 1) ≤ m → 2 ^ s ≤ m
at_most s n m h = let w = 2 ^ s in omega arith

pub cheap_both : (n s t at to a b c : ℕ) → to ≡ at → 2 ^ s * (to + 1) ≤ at + 1 → b ≤ a + s + 1 → 2 ^ t ≤ n → c ≤ b + 2 * t + 2 → IsLogarithmic n a c
cheap_both n s t at to a b c e up h down k =
    let z : s ≡ 0 = stands s at (subst (λ (m : ℕ). 2 ^ s * (m + 1) ≤ at + 1) e up) in
    let w : 2 ^ (t + 1) ≤ 2 * n + 1 = rw (add-one t) (rw double (omega arith)) in
    (t + 1, w, omega arith)

pub cheap_up : (n s at to a b : ℕ) → at + 1 ≤ 2 * n + 1 → 2 ^ s * (to + 1) ≤ at + 1 → b ≤ a + s + 1 → IsLogarithmic n a b
cheap_up n s at to a b h up k = let w : 2 ^ s ≤ 2 * n + 1 = at_most s to (2 * n + 1) (omega arith) in (s, w, omega arith)

pub cheap_more : (n m a b : ℕ) → n ≤ m → IsLogarithmic n a b → IsLogarithmic m a b
cheap_more n m a b h k = (k.0, omega arith, k.2)

pub cheap_none : (n a : ℕ) → IsLogarithmic n a a
cheap_none n a = (0, omega arith, omega arith)
