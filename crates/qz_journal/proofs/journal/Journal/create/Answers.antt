use Rattle.std.proofs.Common.{sym}
use Rattle.qz_journal.proofs.Creation.{new_slots}
use Rattle.qz_journal.proofs.journal.Journal.create.Goals as goal

pub invariant_of-result-clause-durable : goal.invariant_of-result-clause-durable
invariant_of-result-clause-durable g c honest is_open = (c.in-Ok.ensures.made honest).made.durable

pub invariant_of-result-clause-slot_a : goal.invariant_of-result-clause-slot_a
invariant_of-result-clause-slot_a g c honest is_open = sym (new_slots c.args.version c.args.kind _ (c.in-Ok.ensures.made honest).made.header).0

pub invariant_of-result-clause-slot_b : goal.invariant_of-result-clause-slot_b
invariant_of-result-clause-slot_b g c honest is_open = sym (new_slots c.args.version c.args.kind _ (c.in-Ok.ensures.made honest).made.header).1
