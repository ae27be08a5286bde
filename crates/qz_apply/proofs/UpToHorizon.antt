-- The least later timestamp of a set, up to a horizon.
use Rattle.std.proofs.Common.{◌≡◌, ℤ, int_le, ◌≤ℤ◌, ◌<ℤ◌, true, false, Option, Some, None, IfSome, if◌then◌else◌, refl, arith}
use Rattle.std.proofs.lemmas.Int.{ints}
use Rattle.qz_civil.specs.Least.{IsNext}
use Rattle.qz_civil.specs.declared.limits.TheConstants.{LAST}
use Rattle.qz_model.specs.Plan.{within}

pub up_to : (horizon : ℤ) (Member : ℤ → Type 0) (after : ℤ) (o : Option ℤ) → IsNext LAST Member after o → IsNext LAST (λ t. Member t × (t ≤ℤ horizon)) after (within horizon o)
up_to horizon Member after None none = λ s member later early. none s member.0 later early
up_to horizon Member after (Some t) least = elim (int_le t horizon) as (λ b. int_le t horizon ≡ b → IsNext LAST (λ s. Member s × (s ≤ℤ horizon)) after (if b then Some t else None)) [
  | true ↦ λ early. record { member = (least.member, grind (arith, ints)); later = least.later; within = least.within; least = λ s member over. least.least s member.0 over }
  | false ↦ λ late. λ s member over early. (let first = least.least s member.0 over in let near = member.1 in let past : horizon <ℤ t = grind (arith, ints) in omega (arith, ints))
] refl

-- what holds of a time holds of it where it isn't left out
pub within-too : (P : ℤ → Type 0) (horizon : ℤ) (o : Option ℤ) → IfSome o P → IfSome (within horizon o) P
within-too P horizon None known = tt
within-too P horizon (Some t) known = elim (int_le t horizon) as (λ b. IfSome (if b then Some t else None) P) [
  | true ↦ known
  | false ↦ tt
]
