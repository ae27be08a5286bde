use Rattle.std.proofs.Common.{rules}
use Rattle.qz_value_probes.proofs.sorted.insert.Goals as goal

pub returns-clause-ok : goal.returns-clause-ok
returns-clause-ok g c = search rules

pub returns-clause-err : goal.returns-clause-err
returns-clause-err g c = search rules

pub returns-clause-value_returned : goal.returns-clause-value_returned
returns-clause-value_returned g c = search rules

pub returns-clause-succeeds : goal.returns-clause-succeeds
returns-clause-succeeds g c = search rules
