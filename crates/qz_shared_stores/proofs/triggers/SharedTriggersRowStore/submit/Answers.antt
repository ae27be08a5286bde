use Rattle.qz_shared_stores.proofs.GoingOn.{triggers_on}
use Rattle.qz_shared_stores.proofs.triggers.SharedTriggersRowStore.submit.Goals as goal

pub returns-clause-went : goal.returns-clause-went
returns-clause-went g c = λ first. triggers_on first.store c.args.self.now.store c.submit.new.self c.args.entry c.submit.result c.submit.ensures.one c.submit.ensures.opened c.submit.ensures.keeps c.submit.ensures.any_moment
