use Rattle.std.proofs.Common.{◌∙◌, sym, ap, arith}
use Rattle.qz_journal.specs.Slots.{slot}
use Rattle.qz_journal.proofs.Naming.{slots_stay}
use Rattle.qz_journal.proofs.journal.Journal.name.Goals as goal

pub invariant_of-self-2-clause-slot_a : goal.invariant_of-self-2-clause-slot_a
invariant_of-self-2-clause-slot_a g c h is_open =
    let s = c.args.self.now in
    let whole = g.met.D.Disk.whole h s.disk in
    s.slot_a h c.requires.ready ∙ sym (slots_stay c.args.kind (g.D.Disk.state s.disk).content (omega (arith, whole, s.inside c.requires.ready, s.after_header))).0 ∙ ap (slot 6) (sym (c.in_ok-put_through.ensures.told h).content)

pub invariant_of-self-2-clause-slot_b : goal.invariant_of-self-2-clause-slot_b
invariant_of-self-2-clause-slot_b g c h is_open =
    let s = c.args.self.now in
    let whole = g.met.D.Disk.whole h s.disk in
    s.slot_b h c.requires.ready ∙ sym (slots_stay c.args.kind (g.D.Disk.state s.disk).content (omega (arith, whole, s.inside c.requires.ready, s.after_header))).1 ∙ ap (slot 11) (sym (c.in_ok-put_through.ensures.told h).content)

pub invariant_of-self-2-clause-durable : goal.invariant_of-self-2-clause-durable
invariant_of-self-2-clause-durable g c h is_open = (c.in_ok-put_through.ensures.told h).durable

pub invariant_of-self-2-clause-inside : goal.invariant_of-self-2-clause-inside
invariant_of-self-2-clause-inside g c is_open = omega (arith, c.args.self.now.inside c.requires.ready, c.args.self.now.after_header, c.in_ok-put_through.ensures.length)
