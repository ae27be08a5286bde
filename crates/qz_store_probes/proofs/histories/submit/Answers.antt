use Rattle.std.proofs.Common.{rules}
use Rattle.qz_store_probes.proofs.histories.submit.Goals as goal

pub returns-clause-one : goal.returns-clause-one
returns-clause-one g c = search rules

pub returns-clause-unchanged : goal.returns-clause-unchanged
returns-clause-unchanged g c = search rules

pub returns-clause-opened : goal.returns-clause-opened
returns-clause-opened g c = search rules

pub returns-clause-behind : goal.returns-clause-behind
returns-clause-behind g c = search rules

pub returns-clause-entries : goal.returns-clause-entries
returns-clause-entries g c = search rules

pub returns-clause-keeps : goal.returns-clause-keeps
returns-clause-keeps g c = search rules

pub returns-clause-recorded : goal.returns-clause-recorded
returns-clause-recorded g c = search rules

pub returns-clause-any_moment : goal.returns-clause-any_moment
returns-clause-any_moment g c = search rules

pub returns-clause-schedules : goal.returns-clause-schedules
returns-clause-schedules g c = search rules
