use Rattle.qz_values.proofs.Truths.{both_true}
use Rattle.qz_values.proofs.kinds.daily_of.Goals as goal

pub returns-clause-valid : goal.returns-clause-valid
returns-clause-valid c =
    both_true _ _
    (both_true _ _ c.in_ok-every.ensures.valid c.in_ok-to.ensures.valid)
    (both_true _ _ c.in_ok-days.ensures.valid c.in_ok-zone.ensures.valid)
