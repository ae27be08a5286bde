-- What refuses a transaction, and that nothing else does.
use Rattle.std.proofs.Common.{◌≡◌, ℕ, ℤ, Option, Some, None, MatchOption, refl}
use Rattle.qz_types.specs.Rows.{MemberData, FiredData}
use Rattle.qz_types.specs.Tables.{SchedulerTables}
use Rattle.qz_types.specs.declared.replies.Refusal.{Refusal}
use Rattle.qz_types.specs.Outcomes.{Outcome, refused, unless, IsAccepted}
use Rattle.qz_types.specs.Words.{fired_of}
use Rattle.qz_model.specs.Acquiring.{acquire_refusal, acquire, acquired_refusal, release}
use Rattle.qz_model.specs.Membership.{node_refusal}
use Rattle.qz_model.specs.Misfires.{misfires}
use Rattle.qz_model.specs.Tests.{or_refusal}
use Rattle.qz_model.proofs.KeptFiring.{clear_both}
use Rattle.qz_apply.proofs.Refused.{of_one}

pub of_misfires : (T : SchedulerTables) (m : ℤ) (me : MemberData) → MatchOption (node_refusal T me) (IsAccepted (misfires T m me)) (λ x. misfires T m me ≡ refused x)
of_misfires T m me = of_one (node_refusal T me) _ tt

pub of_acquire : (T : SchedulerTables) (m : ℤ) (me : MemberData) (no_later window : ℤ) (max : ℕ) → node_refusal T me ≡ None
    → MatchOption (acquire_refusal T max) (IsAccepted (acquire T m me no_later window max)) (λ x. acquire T m me no_later window max ≡ refused x)
of_acquire T m me no_later window max clear = rw clear (of_one (acquire_refusal T max) _ tt)

none_before : (x : Option Refusal) (o : Outcome) → IsAccepted (unless x o) → x ≡ None
none_before None o is = refl
none_before (Some r) o is = absurd is

-- an Acquire that is accepted is refused for neither reason
pub acquire_clear : (T : SchedulerTables) (m : ℤ) (me : MemberData) (no_later window : ℤ) (max : ℕ) → IsAccepted (acquire T m me no_later window max) → (node_refusal T me ≡ None) × (acquire_refusal T max ≡ None)
acquire_clear T m me no_later window max is = clear_both (node_refusal T me) (acquire_refusal T max) (none_before (or_refusal (node_refusal T me) (acquire_refusal T max)) _ is)

-- what refuses the row refuses the Release
pub of_release : (T : SchedulerTables) (m : ℤ) (me : MemberData) (entry : ℕ) (f : FiredData) → node_refusal T me ≡ None → fired_of entry T.fired ≡ Some f
    → MatchOption (acquired_refusal me f) (IsAccepted (release T m me entry)) (λ x. release T m me entry ≡ refused x)
of_release T m me entry f clear found = rw (clear, found) (of_one (acquired_refusal me f) _ tt)
