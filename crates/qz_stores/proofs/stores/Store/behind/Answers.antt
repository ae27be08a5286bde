use Rattle.qz_stores.proofs.InUse.{next_opening}
use Rattle.qz_stores.proofs.stores.Store.behind.Goals as goal

pub returns-clause-next : goal.returns-clause-next
returns-clause-next g c honest opened w from = next_opening g.met.K.Kind.lawful c.args.self.now honest opened w from
