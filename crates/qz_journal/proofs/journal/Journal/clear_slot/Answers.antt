use Rattle.std.proofs.Common.{◌∙◌, ap, None, rules}
use Rattle.qz_disk.specs.Disk.{LeavesOnly}
use Rattle.qz_journal.specs.Slots.{free_slot, offset_in, IsSlotWrite, with_offset}
use Rattle.qz_journal.proofs.Marks.{leaves_payloads, cleared}
use Rattle.qz_journal.proofs.journal.Journal.clear_slot.Goals as goal

pub returns-then-is_err-clause-payloads : goal.returns-then-is_err-clause-payloads
returns-then-is_err-clause-payloads g c h is_open version kind payloads holds =
    let leaves : LeavesOnly (g.D.Disk.state c.args.self.now.disk) (g.D.Disk.state c.close.new.disk) (IsSlotWrite (free_slot c.args.self.now.slots) (offset_in c.args.self.now.slots (free_slot c.args.self.now.slots)) (g.D.Disk.state c.args.self.now.disk).content) = search rules in
    leaves_payloads _ _ _ _ version kind payloads leaves holds

pub returns-clause-payloads : goal.returns-clause-payloads
returns-clause-payloads g c h is_open version kind payloads holds =
    let leaves : LeavesOnly (g.D.Disk.state c.args.self.now.disk) (g.D.Disk.state c.close.new.disk) (IsSlotWrite (free_slot c.args.self.now.slots) (offset_in c.args.self.now.slots (free_slot c.args.self.now.slots)) (g.D.Disk.state c.args.self.now.disk).content) = search rules in
    leaves_payloads _ _ _ _ version kind payloads leaves holds

pub returns-clause-free : goal.returns-clause-free
returns-clause-free g c = let s = c.args.self.now.slots in let is = cleared s c.with-self.result (c.with-self.ensures ∙ ap (λ gate. with_offset gate None s) c.free-gate.ensures) in (is.free, is.closed)
