use Rattle.std.proofs.Common.{length, nat_le, sym, subst}
use Rattle.std.specs.Prelude.{IsTrue}
use Rattle.qz_civil.specs.Timings.{is_name}
use Rattle.qz_types.specs.Rows.{is_key}
use Rattle.qz_types.specs.declared.limits.TheConstants.{PAYLOAD_LIMIT}
use Rattle.qz_values.proofs.Truths.{both_true, at_most}
use Rattle.qz_codec.proofs.jobs.job_of.Goals as goal

pub invariant_of-job : goal.invariant_of-job
invariant_of-job c =
    both_true _ _
    (both_true _ _
    (subst (λ key. IsTrue (is_key key)) (sym c.in_ok-key.ensures.key) c.in_ok-names.ensures.valid)
    (subst (λ class. IsTrue (is_name class)) (sym c.in_ok-key.ensures.texts.0) c.in_ok-class.ensures.valid))
    (subst (λ payload. IsTrue (nat_le (length payload) PAYLOAD_LIMIT)) (sym c.in_ok-key.ensures.texts.1) (at_most _ _ c.in_ok-payload.ensures.size.1))
