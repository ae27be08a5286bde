use Rattle.std.proofs.Common.{ap, ◌∙◌}
use Rattle.qz_journal.specs.Slots.{free_slot}
use Rattle.qz_snapshot.proofs.Midway.{after_part, after_clearing, after_setting, holds_after, whatever, same_clearing, same_setting}
use Rattle.qz_snapshot.proofs.checkpoints.put_snapshot.Goals as goal

pub returns-in_err-append_each-clause-any_moment : goal.returns-in_err-append_each-clause-any_moment
returns-in_err-append_each-clause-any_moment g c h all holds gate_is =
    let j = c.args.journal.now in
    after_part _ _ j.gate j.slots _ all _ (record { a = j.slot_a h c.requires.ready; b = j.slot_b h c.requires.ready }) gate_is _ _ (c.append_each.ensures.any_moment h all holds gate_is)

pub returns-in_err-clear_free-clause-any_moment : goal.returns-in_err-clear_free-clause-any_moment
returns-in_err-clear_free-clause-any_moment g c h all holds gate_is =
    let j = c.args.journal.now in
    let e = c.in_ok-append_each.ensures in
    after_clearing _ _ j.gate j.slots _ all _ (record { a = j.slot_a h c.requires.ready; b = j.slot_b h c.requires.ready }) gate_is _ _ _ (e.any_moment h all holds gate_is) (g.met.D.Disk.lawful h c.append_each.new.journal.disk)
    (e.stands h all holds gate_is) (same_clearing _ _ _ _ e.same.2 (c.clear_free.ensures.any_moment h))

pub returns-clause-any_moment : goal.returns-clause-any_moment
returns-clause-any_moment g c h all holds gate_is =
    let j = c.args.journal.now in
    let e = c.in_ok-append_each.ensures in
    after_setting _ _ j.gate j.slots _ all _ (record { a = j.slot_a h c.requires.ready; b = j.slot_b h c.requires.ready }) gate_is _ _ _ (e.any_moment h all holds gate_is) (g.met.D.Disk.lawful h c.append_each.new.journal.disk)
    (e.stands h all holds gate_is) (same_clearing _ _ _ _ e.same.2 (c.clear_free.ensures.any_moment h)) _ (g.met.D.Disk.lawful h c.clear_free.new.journal.disk)
    (same_setting _ _ _ _ _ _ (c.in_ok-clear_free.ensures.free.0 ∙ ap free_slot e.same.2) c.gate-offset.ensures (c.set_free.ensures.any_moment h))

pub returns-clause-stands : goal.returns-clause-stands
returns-clause-stands g c h all holds gate_is =
    let j = c.args.journal.now in
    let e = c.in_ok-append_each.ensures in
    whatever _ _ (holds_after _ _ j.gate j.slots _ all _ (record { a = j.slot_a h c.requires.ready; b = j.slot_b h c.requires.ready }) gate_is _ _ _ (e.any_moment h all holds gate_is) (g.met.D.Disk.lawful h c.append_each.new.journal.disk)
    (e.stands h all holds gate_is) (same_clearing _ _ _ _ e.same.2 (c.clear_free.ensures.any_moment h)) _ (g.met.D.Disk.lawful h c.clear_free.new.journal.disk) (g.met.D.Disk.lawful h c.set_free.new.journal.disk)
    (same_setting _ _ _ _ _ _ (c.in_ok-clear_free.ensures.free.0 ∙ ap free_slot e.same.2) c.gate-offset.ensures (c.set_free.ensures.any_moment h)))
