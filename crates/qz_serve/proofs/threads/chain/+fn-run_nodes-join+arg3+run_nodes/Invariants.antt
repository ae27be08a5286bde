use Rattle.std.proofs.Common.{◌+◌, ◌*◌, length}
use Rattle.qz_serve.proofs.threads.chain.+fn-run_nodes-join+arg3+run_nodes.Given as goal

abbrev pub decreases-run_nodes : goal.decreases-run_nodes
decreases-run_nodes g l = 2 * length l.members.now

abbrev pub decreases-join+arg3 : goal.decreases-join+arg3
decreases-join+arg3 g l = 2 * length l.others.now + 1
