-- What a recovery comes to.
use Rattle.std.proofs.Common.{◌≡◌, ℕ, ℤ, List, Some, None, MatchOption}
use Rattle.qz_types.specs.Rows.{MemberData}
use Rattle.qz_types.specs.Tables.{SchedulerTables}
use Rattle.qz_types.specs.Outcomes.{refused, IsAccepted}
use Rattle.qz_types.specs.Words.{member_of}
use Rattle.qz_model.specs.Membership.{node_refusal}
use Rattle.qz_model.specs.Recovery.{recovery_refusal, recover}
use Rattle.qz_apply.proofs.Refused.{of_one}

-- what refuses the recovery of a stored member refuses the Recover
pub of_recover : (T : SchedulerTables) (m : ℤ) (me : MemberData) (node : List ℕ) (member : MemberData) → node_refusal T me ≡ None → member_of node T.members ≡ Some member
    → MatchOption (recovery_refusal T member) (IsAccepted (recover T m me node)) (λ r. recover T m me node ≡ refused r)
of_recover T m me node member clear found = rw (clear, found) (of_one (recovery_refusal T member) _ tt)
