use Rattle.qz_trigger_store.proofs.Old.{until_2099}
use Rattle.qz_trigger_store.proofs.laws.old_stores_fire_until_2099.Goals as goal

pub returns : goal.returns
returns c = until_2099
