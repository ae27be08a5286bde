use Rattle.qz_trigger_store.proofs.Outcomes.{not_read}
use Rattle.qz_history.proofs.Unfit.{none_accepted}
use Rattle.qz_history.proofs.tellers.tell.Goals as goal

pub returns-in-Err-BadRecord-clause-unfit : goal.returns-in-Err-BadRecord-clause-unfit
returns-in-Err-BadRecord-clause-unfit c _ e is _ = not_read _ _ e c.in-Err-BadRecord.field-0-is (c.in-Err-BadRecord.ensures.only e is)

pub returns-in-Err-clause-unfit : goal.returns-in-Err-clause-unfit
returns-in-Err-clause-unfit c unfit e is = none_accepted c.args.tables.now.tables e _ (c.in-Ok.ensures.only e is) (c.in-Err.ensures.refused unfit)
