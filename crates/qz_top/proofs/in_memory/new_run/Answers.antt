use Rattle.std.proofs.Common.{sym, subst}
use Rattle.qz_cluster.specs.View.{IsTold}
use Rattle.qz_top.proofs.in_memory.new_run.Goals as goal

pub returns-in-Ok-clause-told : goal.returns-in-Ok-clause-told
returns-in-Ok-clause-told c = subst IsTold (sym c.in-Ok.ensures.began) c.in_ok-cluster.ensures.told
