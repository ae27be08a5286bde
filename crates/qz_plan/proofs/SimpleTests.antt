-- The test of a simple trigger's fire time decides `IsSimple`; an interval in seconds, minutes or hours is one without end.
use Rattle.std.proofs.Common.{◌≡◌, ℕ, zero, suc, ◌*◌, ◌/◌, ◌%◌, ◌==◌, inl, inr, false, refl, ◌&&◌, ◌||◌, ℤ, pos, negsuc, ◌+ℤ◌, ◌-ℤ◌, ◌*ℤ◌, ◌≤ℤ◌, unsigned_abs, Option, arith}
use Rattle.std.specs.Prelude.{int_le}
use Rattle.std.specs.Bool.{Decides}
use Rattle.std.specs.Ordering.{int_eq}
use Rattle.std.proofs.Math.Nat.{mul-mod_left, mul-div_cancel}
use Rattle.std.proofs.lemmas.Bool.Decides.{Decides-and, Decides-or, Decides-int_eq, Decides-eqb, Decides-like}
use Rattle.std.proofs.lemmas.Int.{ints, by_lt_z}
use Rattle.std.proofs.lemmas.Nat.{div-add-mod'}
use Rattle.qz_simple.specs.Simple.{IsCounted, IsSimple}
use Rattle.qz_plan.specs.Plan.{is_before, is_counted, is_simple_time}
use Rattle.qz_plan.proofs.TestLaws.{int_le-decides, is_before-decides}

-- n is that many steps
record IsSteps (step : ℕ) (count : ℤ) (n : ℕ) : Type 0 where
  place : ℕ
  at : n ≡ place * step
  counted : IsCounted count place

counted-decides : (count : ℤ) (k : ℕ) → Decides (int_eq count (negsuc 0) || int_le (pos k) count) (IsCounted count k)
counted-decides count k = Decides-or _ _ (Decides-int_eq count (negsuc 0)) (int_le-decides (pos k) count)

-- a step of 0 stays at the start
still : (count : ℤ) (n : ℕ) → negsuc 0 ≤ℤ count → n ≡ 0 → IsSteps 0 count n
still count zero low is = by_lt_z count (pos 0)
    (λ under. let endless : count ≡ negsuc 0 = omega (arith, ints) in record { place = 0; at = refl; counted = inl endless })
    (λ over. record { place = 0; at = refl; counted = inr over })
still count (suc n) low is = cc

steps_of : (step : ℕ) (count : ℤ) (n : ℕ) → (n % suc step ≡ 0) × IsCounted count (n / suc step) → IsSteps (suc step) count n
steps_of step count n h = record { place = n / suc step; at = omega (arith, h.0, div-add-mod' n (suc step)); counted = h.1 }

of_steps : (step : ℕ) (count : ℤ) (n : ℕ) → IsSteps (suc step) count n → (n % suc step ≡ 0) × IsCounted count (n / suc step)
of_steps step count n h =
    let even : n % suc step ≡ 0 = rw h.at (mul-mod_left h.place (suc step)) in
    let place : h.place * suc step / suc step ≡ h.place = mul-div_cancel h.place (omega arith) in
    (even, rw (h.at, place) h.counted)

is_counted-decides : (step : ℕ) (count : ℤ) (n : ℕ) → negsuc 0 ≤ℤ count → Decides (is_counted step count n) (IsSteps step count n)
is_counted-decides zero count n low = Decides-like _ (still count n low) (λ h. let at = h.at in omega arith) (Decides-eqb n 0)
is_counted-decides (suc step) count n low =
    let some : (suc step == 0) ≡ false = grind arith in
    rw some (Decides-like _ (steps_of step count n) (of_steps step count n) (Decides-and _ _ (Decides-eqb (n % suc step) 0) (counted-decides count (n / suc step))))

-- t comes a number of intervals after the start
pub record IsTurn (start interval count t : ℤ) : Type 0 where
  pub place : ℕ
  pub at : t ≡ start +ℤ pos place *ℤ interval
  pub counted : IsCounted count place

turn_of : (start count t : ℤ) (i : ℕ) → (start ≤ℤ t) × IsSteps i count (unsigned_abs (t -ℤ start)) → IsTurn start (pos i) count t
turn_of start count t i h =
    let le = h.0 in
    let at = h.1.at in
    record { place = h.1.place; at = omega (arith, ints); counted = h.1.counted }

of_turn : (start count t : ℤ) (i : ℕ) → IsTurn start (pos i) count t → (start ≤ℤ t) × IsSteps i count (unsigned_abs (t -ℤ start))
of_turn start count t i h =
    let at = h.at in
    (omega (arith, ints), record { place = h.place; at = omega (arith, ints); counted = h.counted })

turn-decides : (start count t : ℤ) (i : ℕ) → negsuc 0 ≤ℤ count → Decides (is_simple_time start (pos i) count t) (IsTurn start (pos i) count t)
turn-decides start count t i low =
    Decides-like _ (turn_of start count t i) (of_turn start count t i) (Decides-and _ _ (int_le-decides start t) (is_counted-decides i count (unsigned_abs (t -ℤ start)) low))

pub simple-decides : (start : ℤ) (end : Option ℤ) (count t : ℤ) (i : ℕ) → negsuc 0 ≤ℤ count → Decides (is_simple_time start (pos i) count t && is_before end t) (IsSimple start end (pos i) count t)
simple-decides start end count t i low =
    Decides-like _
    (λ h. record { place = h.0.place; at = h.0.at; counted = h.0.counted; before = h.1 })
    (λ h. (record { place = h.place; at = h.at; counted = h.counted }, h.before))
    (Decides-and _ _ (turn-decides start count t i low) (is_before-decides end t))
