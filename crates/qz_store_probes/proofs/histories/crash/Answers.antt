use Rattle.std.proofs.Common.{rules}
use Rattle.qz_store_probes.proofs.histories.crash.Goals as goal

pub returns-clause-shut : goal.returns-clause-shut
returns-clause-shut g c = search rules

pub returns-clause-kept : goal.returns-clause-kept
returns-clause-kept g c = search rules

pub returns-clause-cause : goal.returns-clause-cause
returns-clause-cause g c = search rules

pub returns-clause-restarts : goal.returns-clause-restarts
returns-clause-restarts g c = search rules

pub returns-clause-any_moment : goal.returns-clause-any_moment
returns-clause-any_moment g c = search rules
