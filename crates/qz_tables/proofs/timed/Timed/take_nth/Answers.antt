use Rattle.std.proofs.Common.{refl, sym, ◌∙◌}
use Rattle.qz_tables.proofs.Written.{taken_closed}
use Rattle.qz_tables.proofs.timed.Timed.take_nth.Goals as goal

pub invariant_of-self : goal.invariant_of-self
invariant_of-self c = λ t. taken_closed c.self.inside.rows.slots c.take_nth.new.self.slots c.leave.new.queue.pairs c.slot_nth-slot.result c.laws.ensures.apart (c.leave.ensures.others t) (c.leave.ensures.gone t) c.take_nth.result.0 c.take_nth.result.1 c.take_nth.result.1 (c.slot_nth-slot.ensures ∙ sym c.take_nth.ensures.row) c.take_nth.ensures.was refl c.take_nth.ensures.slot
