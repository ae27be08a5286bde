-- What refuses a transaction, and that nothing else does.
use Rattle.std.proofs.Common.{◌≡◌, Option, Some, None, MatchOption, refl}
use Rattle.qz_types.specs.declared.replies.Refusal.{Refusal}
use Rattle.qz_types.specs.Outcomes.{Outcome, refused, unless, IsAccepted}

-- one refusal before what is accepted
pub of_one : (x : Option Refusal) (o : Outcome) → IsAccepted o → MatchOption x (IsAccepted (unless x o)) (λ r. unless x o ≡ refused r)
of_one None o is = is
of_one (Some r) o is = refl
