use Rattle.std.proofs.Common.{◌≡◌, ◌++◌, drop}
use Rattle.qz_types.specs.Words.{without_member}
use Rattle.qz_cluster.proofs.held.others.Given as goal

abbrev pub invariant-loop-row : goal.invariant-loop-row
invariant-loop-row l = l.rows.items ++ without_member l.node (drop l.row-index l.held) ≡ without_member l.node l.held
