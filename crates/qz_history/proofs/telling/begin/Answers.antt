use Rattle.qz_trigger_store.proofs.Snapshots.{none_taken}
use Rattle.qz_history.proofs.Unfit.{unbegun}
use Rattle.qz_history.proofs.telling.begin.Goals as goal

pub returns-in-Ok-None-clause-unfit : goal.returns-in-Ok-None-clause-unfit
returns-in-Ok-None-clause-unfit c _ = unbegun c.args.slot _ c.args.version c.args.payloads.now c.in-Some.is (none_taken c.args.payloads.now _ c.in-Ok-None.field-0-is c.in-Ok-None.ensures.none)
