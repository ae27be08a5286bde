use Rattle.std.proofs.Common.{refl}
use Rattle.qz_model.specs.Transaction.{transaction}
use Rattle.qz_trigger_store.proofs.Outcomes.{passes, by_cause, not_read, refused_unfit}
use Rattle.qz_follow.proofs.deciding.decide.Goals as goal

pub returns-in-Err-BadRecord-clause-unfit : goal.returns-in-Err-BadRecord-clause-unfit
returns-in-Err-BadRecord-clause-unfit c = (refl, λ e is _. not_read _ _ e c.in-Err-BadRecord.field-0-is (c.in-Err-BadRecord.ensures.only e is))

pub returns-in-Ok-prepare-clause-accepted : goal.returns-in-Ok-prepare-clause-accepted
returns-in-Ok-prepare-clause-accepted c = passes (transaction c.args.tables.now.tables c.in-Ok.entry) c.in-Ok-prepare.ensures.accepted

pub returns-in-Err-Refused-clause-unfit : goal.returns-in-Err-Refused-clause-unfit
returns-in-Err-Refused-clause-unfit c =
    (refl, λ e is. refused_unfit c.args.tables.now.tables e _ _ (c.in-Ok.ensures.only e is) (by_cause _ _ _ c.in-Err-Refused.field-0-is c.in-Err-Refused.ensures.cause))
