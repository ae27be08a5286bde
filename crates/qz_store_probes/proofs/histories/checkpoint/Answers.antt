use Rattle.std.proofs.Common.{rules}
use Rattle.qz_store_probes.proofs.histories.checkpoint.Goals as goal

pub returns-clause-one : goal.returns-clause-one
returns-clause-one g c = search rules

pub returns-clause-unchanged : goal.returns-clause-unchanged
returns-clause-unchanged g c = search rules

pub returns-clause-no_room : goal.returns-clause-no_room
returns-clause-no_room g c = search rules

pub returns-clause-room : goal.returns-clause-room
returns-clause-room g c = search rules

pub returns-clause-opened : goal.returns-clause-opened
returns-clause-opened g c = search rules

pub returns-clause-behind : goal.returns-clause-behind
returns-clause-behind g c = search rules

pub returns-clause-any_moment : goal.returns-clause-any_moment
returns-clause-any_moment g c = search rules
