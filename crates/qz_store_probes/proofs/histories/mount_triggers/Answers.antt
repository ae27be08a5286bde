use Rattle.std.proofs.Common.{rules}
use Rattle.qz_store_probes.proofs.histories.mount_triggers.Goals as goal

pub returns-clause-opened : goal.returns-clause-opened
returns-clause-opened g c = search rules

pub returns-clause-nothing_added : goal.returns-clause-nothing_added
returns-clause-nothing_added g c = search rules

pub returns-clause-keeps : goal.returns-clause-keeps
returns-clause-keeps g c = search rules

pub returns-clause-behind : goal.returns-clause-behind
returns-clause-behind g c = search rules

pub returns-clause-stands : goal.returns-clause-stands
returns-clause-stands g c = search rules

pub returns-clause-reads_tail : goal.returns-clause-reads_tail
returns-clause-reads_tail g c = search rules

pub returns-clause-reads : goal.returns-clause-reads
returns-clause-reads g c = search rules

pub returns-clause-reads_err : goal.returns-clause-reads_err
returns-clause-reads_err g c = search rules

pub returns-clause-refused : goal.returns-clause-refused
returns-clause-refused g c = search rules

pub returns-clause-whole : goal.returns-clause-whole
returns-clause-whole g c = search rules

pub returns-clause-later : goal.returns-clause-later
returns-clause-later g c = search rules

pub returns-clause-fault : goal.returns-clause-fault
returns-clause-fault g c = search rules
