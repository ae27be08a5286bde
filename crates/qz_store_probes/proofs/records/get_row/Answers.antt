use Rattle.std.proofs.Common.{rules}
use Rattle.qz_store_probes.proofs.records.get_row.Goals as goal

pub returns-clause-found : goal.returns-clause-found
returns-clause-found g c = search rules

pub returns-clause-only : goal.returns-clause-only
returns-clause-only g c = search rules

pub returns-clause-exact : goal.returns-clause-exact
returns-clause-exact g c = search rules
