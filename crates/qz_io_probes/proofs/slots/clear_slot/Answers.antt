use Rattle.std.proofs.Common.{rules}
use Rattle.qz_io_probes.proofs.slots.clear_slot.Goals as goal

pub returns-clause-closed : goal.returns-clause-closed
returns-clause-closed g c = search rules

pub returns-clause-never_full : goal.returns-clause-never_full
returns-clause-never_full g c = search rules

pub returns-clause-fault : goal.returns-clause-fault
returns-clause-fault g c = search rules

pub returns-clause-later : goal.returns-clause-later
returns-clause-later g c = search rules

pub returns-clause-unchanged : goal.returns-clause-unchanged
returns-clause-unchanged g c = search rules

pub returns-clause-nothing_to_clear : goal.returns-clause-nothing_to_clear
returns-clause-nothing_to_clear g c = search rules

pub returns-clause-completes : goal.returns-clause-completes
returns-clause-completes g c = search rules

pub returns-clause-ok : goal.returns-clause-ok
returns-clause-ok g c = search rules

pub returns-clause-free : goal.returns-clause-free
returns-clause-free g c = search rules

pub returns-clause-slots_err : goal.returns-clause-slots_err
returns-clause-slots_err g c = search rules

pub returns-clause-same : goal.returns-clause-same
returns-clause-same g c = search rules

pub returns-clause-reads_nothing : goal.returns-clause-reads_nothing
returns-clause-reads_nothing g c = search rules

pub returns-clause-durable : goal.returns-clause-durable
returns-clause-durable g c = search rules

pub returns-clause-any_moment : goal.returns-clause-any_moment
returns-clause-any_moment g c = search rules

pub returns-clause-payloads : goal.returns-clause-payloads
returns-clause-payloads g c = search rules
