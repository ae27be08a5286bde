-- What the nearest weekday is.
use Rattle.std.proofs.Common.{◌≡◌, ℕ, ◌+◌, ◌-◌, ◌<◌, ◌≤◌, inl, inr, true, false, sym, subst, arith, ◌==◌}
use Rattle.std.specs.Int.{IsInRange}
use Rattle.std.proofs.lemmas.Bool.{cases_order}
use Rattle.qz_civil.specs.Fields.{weekday_at, nearest}

-- how far a is from b
abbrev gap : ℕ → ℕ → ℕ
gap a b = (a - b) + (b - a)

-- d is a day of the month from Monday to Friday, and none is nearer to a, whose weekday is w
pub record IsNearest (length a w d : ℕ) : Type 0 where
  pub in_month : IsInRange 1 length d
  pub workday : IsInRange 2 6 (weekday_at a w d)
  pub nearer : (k : ℕ) → IsInRange 1 length k → IsInRange 2 6 (weekday_at a w k) → gap a d ≤ gap a k

saturday_first : (length : ℕ) → 28 ≤ length → length ≤ 31 → IsNearest length 1 7 3
saturday_first length low high = record {
  in_month = (omega arith, omega arith);
  workday = (omega arith, omega arith);
  nearer = λ k inside day. omega (arith, inside.0, inside.1, day.0, day.1);
}

saturday : (length a : ℕ) → length ≤ 31 → 2 ≤ a → a ≤ length → IsNearest length a 7 (a - 1)
saturday length a high low inside = record {
  in_month = (omega arith, omega arith);
  workday = (omega arith, omega arith);
  nearer = λ k within day. omega (arith, within.0, within.1, day.0, day.1);
}

sunday_last : (length : ℕ) → 28 ≤ length → length ≤ 31 → IsNearest length length 1 (length - 2)
sunday_last length low high = record {
  in_month = (omega arith, omega arith);
  workday = (omega arith, omega arith);
  nearer = λ k within day. omega (arith, within.0, within.1, day.0, day.1);
}

sunday : (length a : ℕ) → length ≤ 31 → 1 ≤ a → a < length → IsNearest length a 1 (a + 1)
sunday length a high low inside = record {
  in_month = (omega arith, omega arith);
  workday = (omega arith, omega arith);
  nearer = λ k within day. omega (arith, within.0, within.1, day.0, day.1);
}

workday : (length a w : ℕ) → length ≤ 31 → 1 ≤ a → a ≤ length → 2 ≤ w → w ≤ 6 → IsNearest length a w a
workday length a w high low inside first last = record {
  in_month = (omega arith, omega arith);
  workday = (omega arith, omega arith);
  nearer = λ k within day. omega arith;
}

is_other : (a b : ℕ) → a < b → (a == b) ≡ false
is_other a b h = grind arith

is_over : (a b : ℕ) → b < a → (a == b) ≡ false
is_over a b h = grind arith

is_same : (a : ℕ) → (a == a) ≡ true
is_same a = grind arith

on_saturday : (length a : ℕ) → 28 ≤ length → length ≤ 31 → 1 ≤ a → a ≤ length → IsNearest length a 7 (nearest length a 7)
on_saturday length a low high first last =
    elim (cases_order a 1) [
      | inl same ↦ subst (λ x. IsNearest length x 7 (nearest length x 7)) (sym same) (saturday_first length low high)
      | inr (inl under) ↦ absurd (omega arith)
      | inr (inr over) ↦ rw (is_over a 1 over) (saturday length a high (omega arith) last)
    ]

on_sunday : (length a : ℕ) → 28 ≤ length → length ≤ 31 → 1 ≤ a → a ≤ length → IsNearest length a 1 (nearest length a 1)
on_sunday length a low high first last =
    elim (cases_order a length) [
      | inl same ↦ subst (λ x. IsNearest length x 1 (nearest length x 1)) (sym same) (rw (is_same length) (sunday_last length low high))
      | inr (inl under) ↦ rw (is_other a length under) (sunday length a high first under)
      | inr (inr over) ↦ absurd (omega arith)
    ]

-- the definition's formula gives the nearest weekday
pub nearest-is : (length a w : ℕ) → IsInRange 28 31 length → IsInRange 1 length a → IsInRange 1 7 w → IsNearest length a w (nearest length a w)
nearest-is length a w long inside week =
    elim (cases_order w 7) [
      | inl saturday ↦ subst (λ x. IsNearest length a x (nearest length a x)) (sym saturday) (on_saturday length a long.0 long.1 inside.0 inside.1)
      | inr (inl before) ↦ elim (cases_order w 1) [
        | inl sunday ↦ subst (λ x. IsNearest length a x (nearest length a x)) (sym sunday) (on_sunday length a long.0 long.1 inside.0 inside.1)
        | inr (inl under) ↦ absurd (omega (arith, week.0))
        | inr (inr over) ↦ rw (is_other w 7 before, is_over w 1 over) (workday length a w long.1 inside.0 inside.1 (omega arith) (omega arith))
      ]
      | inr (inr after) ↦ absurd (omega (arith, week.1))
    ]
