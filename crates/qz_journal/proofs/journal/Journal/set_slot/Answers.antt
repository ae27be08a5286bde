use Rattle.qz_journal.proofs.Marks.{leaves_payloads, free_none}
use Rattle.qz_journal.proofs.journal.Journal.set_slot.Goals as goal

pub returns-then-is_err-clause-payloads : goal.returns-then-is_err-clause-payloads
returns-then-is_err-clause-payloads g c h is_open version kind payloads holds =
    let s = c.args.self.now in
    leaves_payloads _ _ _ _ version kind payloads (c.open_on.ensures.any_moment h (s.durable h is_open) (free_none _ s.slots _ c.free-free.ensures (s.slot_a h is_open) (s.slot_b h is_open) c.requires.free)) holds

pub returns-clause-payloads : goal.returns-clause-payloads
returns-clause-payloads g c h is_open version kind payloads holds =
    let s = c.args.self.now in
    leaves_payloads _ _ _ _ version kind payloads (c.open_on.ensures.any_moment h (s.durable h is_open) (free_none _ s.slots _ c.free-free.ensures (s.slot_a h is_open) (s.slot_b h is_open) c.requires.free)) holds
