use Rattle.qz_shared_stores.proofs.GoingOn.{states_on}
use Rattle.qz_shared_stores.proofs.states.SharedStatesRowStore.submit.Goals as goal

pub returns-in-CheckIn-clause-went : goal.returns-in-CheckIn-clause-went
returns-in-CheckIn-clause-went g c = λ first. states_on first.store c.args.self.now.store c.check_in.new.self _ c.check_in.result c.check_in.ensures.one c.check_in.ensures.any_moment

pub returns-in-Forget-clause-went : goal.returns-in-Forget-clause-went
returns-in-Forget-clause-went g c = λ first. states_on first.store c.args.self.now.store c.forget.new.self _ c.forget.result c.forget.ensures.one c.forget.ensures.any_moment
