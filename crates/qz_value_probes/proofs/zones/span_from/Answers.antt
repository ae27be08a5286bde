use Rattle.std.proofs.Common.{rules}
use Rattle.qz_value_probes.proofs.zones.span_from.Goals as goal

pub returns-clause-begins : goal.returns-clause-begins
returns-clause-begins c = search rules

pub returns-clause-ends : goal.returns-clause-ends
returns-clause-ends c = search rules

pub returns-clause-lasts : goal.returns-clause-lasts
returns-clause-lasts c = search rules

pub returns-clause-least : goal.returns-clause-least
returns-clause-least c = search rules

pub returns-clause-greatest : goal.returns-clause-greatest
returns-clause-greatest c = search rules

pub returns-clause-clock : goal.returns-clause-clock
returns-clause-clock c = search rules

pub returns-clause-valid : goal.returns-clause-valid
returns-clause-valid c = search rules
