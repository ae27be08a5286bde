use Rattle.std.proofs.Common.{◌≡◌, Err, ap}
use Rattle.qz_stores.specs.declared.kinds.TakeError.TheVariants as take_error
use Rattle.qz_checkin.specs.InMemory.{tables_in}
use Rattle.qz_checkin.proofs.Outcomes.{not_read, refused_unfit}
use Rattle.qz_checkin.proofs.kinds.StatesKind.take.Goals as goal

pub returns-in-Err-BadRecord-clause-unfit : goal.returns-in-Err-BadRecord-clause-unfit
returns-in-Err-BadRecord-clause-unfit c same e is = λ passes. not_read _ _ e c.in-Err-BadRecord.field-0-is (c.in-Err-BadRecord.ensures.only e is)

pub returns-in-Err-clause-unfit : goal.returns-in-Err-clause-unfit
returns-in-Err-clause-unfit c same e is =
    let error : c.in-Err.error ≡ take_error.Unfit = cc in
    refused_unfit (tables_in c.args.self.now) e c.in-Ok.entry (c.in-Ok.ensures.only e is) (c.in-Err.ensures.refused (ap Err error))
