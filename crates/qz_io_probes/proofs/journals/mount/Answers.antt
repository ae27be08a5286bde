use Rattle.std.proofs.Common.{rules}
use Rattle.qz_io_probes.proofs.journals.mount.Goals as goal

pub returns-clause-stands : goal.returns-clause-stands
returns-clause-stands g c = search rules

pub returns-clause-ground : goal.returns-clause-ground
returns-clause-ground g c = search rules

pub returns-clause-reads : goal.returns-clause-reads
returns-clause-reads g c = search rules

pub returns-clause-reads_ahead : goal.returns-clause-reads_ahead
returns-clause-reads_ahead g c = search rules

pub returns-clause-reads_err : goal.returns-clause-reads_err
returns-clause-reads_err g c = search rules

pub returns-clause-refused : goal.returns-clause-refused
returns-clause-refused g c = search rules

pub returns-clause-whole : goal.returns-clause-whole
returns-clause-whole g c = search rules

pub returns-clause-later : goal.returns-clause-later
returns-clause-later g c = search rules

pub returns-clause-fault : goal.returns-clause-fault
returns-clause-fault g c = search rules

pub returns-clause-slots : goal.returns-clause-slots
returns-clause-slots g c = search rules
