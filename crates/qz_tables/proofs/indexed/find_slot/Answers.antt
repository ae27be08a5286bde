use Rattle.std.proofs.Common.{sym}
use Rattle.qz_tables.proofs.Filled.{filled_at}
use Rattle.qz_tables.proofs.indexed.find_slot.Goals as goal

pub returns-in-Some-clause-found : goal.returns-in-Some-clause-found
returns-in-Some-clause-found g c = sym c.in-Some.ensures.found.row

pub returns-in-Some-clause-filled : goal.returns-in-Some-clause-filled
returns-in-Some-clause-filled g c = filled_at c.args.rows.now.slots c.args.order.now c.in-Some.at c.requires.filled c.in-Some.ensures.found.in_range
