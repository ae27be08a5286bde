-- Where a chain of refusals refuses nothing, each test of it fails.
use Rattle.std.proofs.Common.{◌≡◌, ℕ, ◌+◌, ◌≤◌, Bool, true, false, ◌&&◌, nat_le, Option, Some, None, IsSome, is_none, refl, arith}
use Rattle.std.proofs.lemmas.Bool.{leb-false}
use Rattle.qz_types.specs.declared.replies.Refusal.{Refusal}
use Rattle.qz_model.specs.Tests.{refuse_if, or_refusal}

-- the test fails, and the rest refuses nothing
pub not_refused : (b : Bool) (x : Refusal) (next : Option Refusal) → refuse_if b x next ≡ None → (b ≡ false) × (next ≡ None)
not_refused true x next none = absurd (cc)
not_refused false x next none = (refl, none)

pub no_first : (first next : Option Refusal) → or_refusal first next ≡ None → (first ≡ None) × (next ≡ None)
no_first None next none = (refl, none)
no_first (Some x) next none = absurd (cc)

-- there is room for a row, in place of the one that is stored or beside the others
pub both_room : {R : Type 0} (o : Option R) (limit all left : ℕ) → (is_none o && nat_le limit all) ≡ false → all ≤ limit → left ≤ all → (IsSome o → left + 1 ≤ all) → left + 1 ≤ limit
both_room None limit all left full within fewer stored = omega (arith, leb-false limit all full)
both_room (Some r) limit all left full within fewer stored = omega (arith, stored refl)
