use Rattle.std.proofs.Common.{rules}
use Rattle.qz_io_probes.proofs.journals.append.Goals as goal

pub returns-clause-closed : goal.returns-clause-closed
returns-clause-closed g c = search rules

pub returns-clause-full : goal.returns-clause-full
returns-clause-full g c = search rules

pub returns-clause-fault : goal.returns-clause-fault
returns-clause-fault g c = search rules

pub returns-clause-later : goal.returns-clause-later
returns-clause-later g c = search rules

pub returns-clause-unchanged : goal.returns-clause-unchanged
returns-clause-unchanged g c = search rules

pub returns-clause-was_open : goal.returns-clause-was_open
returns-clause-was_open g c = search rules

pub returns-clause-same_kind : goal.returns-clause-same_kind
returns-clause-same_kind g c = search rules

pub returns-clause-completes : goal.returns-clause-completes
returns-clause-completes g c = search rules

pub returns-clause-ok : goal.returns-clause-ok
returns-clause-ok g c = search rules

pub returns-clause-same_place : goal.returns-clause-same_place
returns-clause-same_place g c = search rules

pub returns-clause-reads_nothing : goal.returns-clause-reads_nothing
returns-clause-reads_nothing g c = search rules

pub returns-clause-bytes : goal.returns-clause-bytes
returns-clause-bytes g c = search rules

pub returns-clause-stands : goal.returns-clause-stands
returns-clause-stands g c = search rules

pub returns-clause-durable : goal.returns-clause-durable
returns-clause-durable g c = search rules

pub returns-clause-content : goal.returns-clause-content
returns-clause-content g c = search rules

pub returns-clause-any_moment : goal.returns-clause-any_moment
returns-clause-any_moment g c = search rules

pub returns-clause-same_slots : goal.returns-clause-same_slots
returns-clause-same_slots g c = search rules

pub returns-clause-front : goal.returns-clause-front
returns-clause-front g c = search rules
