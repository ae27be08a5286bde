use Rattle.std.proofs.Common.{rules}
use Rattle.qz_value_probes.proofs.cron_texts.parse.Goals as goal

pub returns-clause-found : goal.returns-clause-found
returns-clause-found c = search rules

pub returns-clause-only : goal.returns-clause-only
returns-clause-only c = search rules

pub returns-clause-fault : goal.returns-clause-fault
returns-clause-fault c = search rules

pub returns-clause-only_fault : goal.returns-clause-only_fault
returns-clause-only_fault c = search rules

pub returns-clause-exact : goal.returns-clause-exact
returns-clause-exact c = search rules

pub returns-clause-valid : goal.returns-clause-valid
returns-clause-valid c = search rules
