-- A set has one least later timestamp.
use Rattle.std.proofs.Common.{◌≡◌, ℤ, ◌≤ℤ◌, Option, Some, None, refl, ap, arith}
use Rattle.std.proofs.lemmas.Int.{ints}
use Rattle.qz_civil.specs.Least.{IsNext}

same_least : (s t : ℤ) → s ≤ℤ t → t ≤ℤ s → s ≡ t
same_least s t below above = omega (arith, ints)

pub same_next : (horizon : ℤ) (Member : ℤ → Type 0) (after : ℤ) (a b : Option ℤ) → IsNext horizon Member after a → IsNext horizon Member after b → a ≡ b
same_next horizon Member after None None first second = refl
same_next horizon Member after None (Some t) first second = absurd (first t second.member second.later second.within)
same_next horizon Member after (Some s) None first second = absurd (second s first.member first.later first.within)
same_next horizon Member after (Some s) (Some t) first second =
    ap (λ (u : ℤ). Some u) (same_least s t (first.least t second.member second.later) (second.least s first.member first.later))
