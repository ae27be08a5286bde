use Rattle.qz_open.proofs.Runs.{always_alone, always_spares}
use Rattle.qz_open.proofs.laws.open_executions_are_alone.Goals as goal

pub returns-clause-alone : goal.returns-clause-alone
returns-clause-alone c S ts answers states start done = always_alone ⊥ S ts answers states start done

pub returns-clause-spared : goal.returns-clause-spared
returns-clause-spared c S ts answers states start done = always_spares ⊥ S ts answers states start done
