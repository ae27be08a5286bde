-- What an accepted Release comes to.
use Rattle.std.proofs.Common.{◌≡◌, ℕ, ℤ, Option, Some, None, refl, ◌∙◌}
use Rattle.qz_types.specs.Rows.{MemberData, FiredData}
use Rattle.qz_types.specs.Tables.{SchedulerTables}
use Rattle.qz_types.specs.Outcomes.{IsAccepted}
use Rattle.qz_types.specs.Words.{fired_of}
use Rattle.qz_model.specs.Acquiring.{acquired_refusal, release_row, release}
use Rattle.qz_model.specs.Membership.{node_refusal}
use Rattle.qz_model.proofs.RowLaws.{fired_of-entry}
use Rattle.qz_apply.proofs.Accepted.{no_refusal, accepted_within}
use Rattle.qz_acquire.specs.Prepared.{committed}
use Rattle.qz_acquire.specs.declared.changes.Change.TheVariants.{Release}

-- an accepted Release is what its change comes to
one_as : (T : SchedulerTables) (m : ℤ) (me : MemberData) (entry : ℕ) (o : Option FiredData) → fired_of entry T.fired ≡ o → IsAccepted (release_row T m me o) → release_row T m me o ≡ committed T m (Release entry)
one_as T m me entry None found is = absurd is
one_as T m me entry (Some f) found is =
    let number : entry ≡ f.entry = fired_of-entry entry f T.fired found in
    no_refusal (acquired_refusal me f) _ is ∙ rw (found, ← number) refl

pub release_as : (T : SchedulerTables) (m : ℤ) (me : MemberData) (entry : ℕ) → IsAccepted (release T m me entry) → release T m me entry ≡ committed T m (Release entry)
release_as T m me entry is =
    no_refusal (node_refusal T me) (release_row T m me (fired_of entry T.fired)) is
    ∙ one_as T m me entry (fired_of entry T.fired) refl (accepted_within (node_refusal T me) (release_row T m me (fired_of entry T.fired)) is)
