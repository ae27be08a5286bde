use Rattle.std.proofs.Common.{rules}
use Rattle.qz_value_probes.proofs.zones.offset_until.Goals as goal

pub returns-clause-offset : goal.returns-clause-offset
returns-clause-offset c = search rules

pub returns-clause-next : goal.returns-clause-next
returns-clause-next c = search rules

pub returns-clause-offset_low : goal.returns-clause-offset_low
returns-clause-offset_low c = search rules

pub returns-clause-offset_high : goal.returns-clause-offset_high
returns-clause-offset_high c = search rules

pub returns-clause-later : goal.returns-clause-later
returns-clause-later c = search rules

pub returns-clause-high : goal.returns-clause-high
returns-clause-high c = search rules

pub returns-clause-stays : goal.returns-clause-stays
returns-clause-stays c = search rules

pub returns-clause-valid : goal.returns-clause-valid
returns-clause-valid c = search rules
