use Rattle.qz_trigger_store.proofs.Outcomes.{by_cause, not_read, refused_unfit}
use Rattle.qz_trigger_store.proofs.kinds.TriggersKind.take.Goals as goal

pub returns-in-Err-Refused-clause-unfit : goal.returns-in-Err-Refused-clause-unfit
returns-in-Err-Refused-clause-unfit c _ e is =
    refused_unfit c.args.self.now.tables.tables e _ _ (c.in-Ok.ensures.only e is) (by_cause _ _ _ c.in-Err-Refused.field-0-is c.in-Err-Refused.ensures.cause)

pub returns-in-Err-BadRecord-clause-unfit : goal.returns-in-Err-BadRecord-clause-unfit
returns-in-Err-BadRecord-clause-unfit c _ e is _ = not_read _ _ e c.in-Err-BadRecord.field-0-is (c.in-Err-BadRecord.ensures.only e is)
