-- The first occurrence of an even stepping is found by division.
use Rattle.std.proofs.Common.{◌≡◌, ℕ, ◌+◌, ◌-◌, ◌*◌, ◌/◌, ◌<◌, ◌≤◌, inl, inr, refl, arith}
use Rattle.std.proofs.lemmas.Bool.{cases_lt}
use Rattle.std.proofs.lemmas.Nat.{mul-le, div-add-mod'}
use Rattle.qz_civil.specs.Occurrences.{IsOccurrence}

-- below the quotient and one, a multiple doesn't pass what was divided
below : (step d q j : ℕ) → q * step ≤ d → d < j * step → j < q + 1 → ⊥
below step d q j floor over h = omega (arith, mul-le j step q step (omega arith) (omega arith))

above : (step d : ℕ) → 0 < step → d < (d / step + 1) * step
above step d h =
    let e : (d / step + 1) * step ≡ d / step * step + step = grind arith in
    rw e (omega (arith, div-add-mod' d step))

under : (step d : ℕ) → d / step * step ≤ d
under step d = omega (arith, div-add-mod' d step)

pub occurrence_at : (start step from d q : ℕ) → start + d + 1 ≡ from → 0 < step → q ≡ d / step → IsOccurrence start step from (q + 1)
occurrence_at start step from d q total pos same =
    let a : d < (q + 1) * step = rw same (above step d pos) in
    let u : q * step ≤ d = rw same (under step d) in
    record {
      reached = omega arith;
      first = λ j reach. elim (cases_lt j (q + 1)) [
        | inl lt ↦ absurd (below step d q j u (omega arith) lt)
        | inr ge ↦ ge
      ];
    }

pub occurrence_at-place : (start step from : ℕ) → start < from → 0 < step → IsOccurrence start step from ((from - start - 1) / step + 1)
occurrence_at-place start step from below pos = occurrence_at start step from (from - start - 1) ((from - start - 1) / step) (omega arith) pos refl

-- where the first occurrence is
pub occurrence_at-bound : (start step from : ℕ) → start < from → 0 < step → start + ((from - start - 1) / step + 1) * step < from + step
occurrence_at-bound start step from lt pos =
    let e : ((from - start - 1) / step + 1) * step ≡ (from - start - 1) / step * step + step = grind arith in
    omega (arith, e, under step (from - start - 1))

pub ruleset occurrences = (occurrence_at-place, occurrence_at-bound)
