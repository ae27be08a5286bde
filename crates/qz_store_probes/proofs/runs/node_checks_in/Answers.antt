use Rattle.std.proofs.Common.{rules}
use Rattle.qz_store_probes.proofs.runs.node_checks_in.Goals as goal

pub returns-clause-accepted : goal.returns-clause-accepted
returns-clause-accepted g c = search rules

pub returns-clause-declined : goal.returns-clause-declined
returns-clause-declined g c = search rules

pub returns-clause-same : goal.returns-clause-same
returns-clause-same g c = search rules

pub returns-clause-origin : goal.returns-clause-origin
returns-clause-origin g c = search rules
