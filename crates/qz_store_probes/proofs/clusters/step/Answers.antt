use Rattle.std.proofs.Common.{rules}
use Rattle.qz_store_probes.proofs.clusters.step.Goals as goal

pub returns-clause-ok : goal.returns-clause-ok
returns-clause-ok g c = search rules

pub returns-clause-err : goal.returns-clause-err
returns-clause-err g c = search rules

pub returns-clause-keeps : goal.returns-clause-keeps
returns-clause-keeps g c = search rules

pub returns-clause-unchanged : goal.returns-clause-unchanged
returns-clause-unchanged g c = search rules

pub returns-clause-quiet : goal.returns-clause-quiet
returns-clause-quiet g c = search rules

pub returns-clause-any_moment : goal.returns-clause-any_moment
returns-clause-any_moment g c = search rules
