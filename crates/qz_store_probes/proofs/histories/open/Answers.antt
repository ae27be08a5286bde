use Rattle.std.proofs.Common.{rules}
use Rattle.qz_store_probes.proofs.histories.open.Goals as goal

pub returns-clause-opens : goal.returns-clause-opens
returns-clause-opens g c = search rules

pub returns-clause-opened : goal.returns-clause-opened
returns-clause-opened g c = search rules

pub returns-clause-history : goal.returns-clause-history
returns-clause-history g c = search rules

pub returns-clause-found : goal.returns-clause-found
returns-clause-found g c = search rules

pub returns-clause-nothing_added : goal.returns-clause-nothing_added
returns-clause-nothing_added g c = search rules

pub returns-clause-stands : goal.returns-clause-stands
returns-clause-stands g c = search rules

pub returns-clause-disk : goal.returns-clause-disk
returns-clause-disk g c = search rules

pub returns-clause-any_moment : goal.returns-clause-any_moment
returns-clause-any_moment g c = search rules
