use Rattle.std.proofs.Common.{sym, subst, ◌∙◌}
use Rattle.std.proofs.lemmas.Result.{IfOk-at_ok}
use Rattle.std.specs.Prelude.{IsTrue}
use Rattle.qz_types.specs.Rows.{is_trigger_spec}
use Rattle.qz_values.proofs.Truths.{both_true, at_most}
use Rattle.qz_codec.proofs.triggers.trigger_of.Goals as goal

pub invariant_of-row : goal.invariant_of-row
invariant_of-row c =
    both_true _ _
    (subst (λ spec. IsTrue (is_trigger_spec spec))
    (sym (c.in_ok-spec-5.ensures.ok.0 ∙ c.in_ok-spec-4.ensures.ok.0 ∙ c.in_ok-spec-3.ensures.ok.0 ∙ c.in_ok-spec-2.ensures.ok.0))
    c.in_ok-spec.ensures.valid)
    (at_most _ _ (IfOk-at_ok _ c.in_ok-spec-4.ensures.ok.1 c.times_of.ensures.valid))
