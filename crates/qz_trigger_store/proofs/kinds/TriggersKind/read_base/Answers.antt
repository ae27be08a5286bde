use Rattle.qz_trigger_store.proofs.Snapshots.{none_taken}
use Rattle.qz_trigger_store.proofs.kinds.TriggersKind.read_base.Goals as goal

pub returns-in-None-clause-none : goal.returns-in-None-clause-none
returns-in-None-clause-none c = none_taken c.args.payloads.now _ c.in-None.is c.in_ok-tables.ensures.none
