use Rattle.std.proofs.Common.{rules}
use Rattle.qz_store_probes.proofs.histories.check.Goals as goal

pub returns-clause-ok : goal.returns-clause-ok
returns-clause-ok g c = search rules

pub returns-clause-err : goal.returns-clause-err
returns-clause-err g c = search rules

pub returns-clause-decided : goal.returns-clause-decided
returns-clause-decided g c = search rules
