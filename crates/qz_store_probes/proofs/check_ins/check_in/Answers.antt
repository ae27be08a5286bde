use Rattle.std.proofs.Common.{rules}
use Rattle.qz_store_probes.proofs.check_ins.check_in.Goals as goal

pub returns-clause-one : goal.returns-clause-one
returns-clause-one g c = search rules

pub returns-clause-unchanged : goal.returns-clause-unchanged
returns-clause-unchanged g c = search rules

pub returns-clause-any_moment : goal.returns-clause-any_moment
returns-clause-any_moment g c = search rules
