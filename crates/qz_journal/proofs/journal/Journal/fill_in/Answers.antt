use Rattle.std.proofs.Common.{◌≡◌, ◌∙◌, ◌+◌, [], Some, None, sym, ap, subst}
use Rattle.qz_disk.specs.Disk.{LeavesOnly}
use Rattle.qz_disk.proofs.Moments.{then_leaves, content_among}
use Rattle.qz_journal.specs.Layout.{Holds, HoldFirst}
use Rattle.qz_journal.specs.Slots.{slot, free_slot, with_offset}
use Rattle.qz_journal.specs.declared.slots.Slots.{Slots}
use Rattle.qz_journal.proofs.Append.{on_ok}
use Rattle.qz_journal.proofs.Fills.{same_holds}
use Rattle.qz_journal.proofs.Naming.{after_first, after_slot, name_leads, name_leaves, same_first}
use Rattle.qz_journal.proofs.journal.Journal.fill_in.Goals as goal

pub returns-in_err-append_all-clause-any_moment : goal.returns-in_err-append_all-clause-any_moment
returns-in_err-append_all-clause-any_moment g c h holds =
    let s = c.args.self.now in
    let n = c.requires.new in
    after_first s.version c.args.kind c.args.payloads.now c.requires.kind _ _
    (same_first s.version s.kind [] c.args.payloads.now _ _ n.1 (c.append_all.ensures.any_moment h [] (same_holds _ _ _ _ _ _ (λ i. s.version) (sym n.1) holds) n.2))

pub returns-then-is_err-clause-any_moment : goal.returns-then-is_err-clause-any_moment
returns-then-is_err-clause-any_moment g c h holds =
    let s = c.args.self.now in
    let n = c.requires.new in
    let e = c.in_ok-append_all.ensures in
    let under : Holds (g.D.Disk.state s.disk).content s.version s.kind [] = same_holds _ _ _ _ _ _ (λ i. s.version) (sym n.1) holds in
    let there = same_holds _ _ _ _ _ _ (λ i. s.version) n.1 (e.stands h [] under n.2) in
    after_slot s.version c.args.kind c.args.payloads.now c.requires.kind _ _ _ (same_first s.version s.kind [] c.args.payloads.now _ _ n.1 (e.any_moment h [] under n.2))
    (c.set_slot.ensures.payloads h e.ok.0 s.version 0 c.args.payloads.now there)

pub returns-clause-leads : goal.returns-clause-leads
returns-clause-leads g c h holds =
    let s = c.args.self.now in
    let n = c.requires.new in
    let e = c.in_ok-append_all.ensures in
    let under : Holds (g.D.Disk.state s.disk).content s.version s.kind [] = same_holds _ _ _ _ _ _ (λ i. s.version) (sym n.1) holds in
    let there = same_holds _ _ _ _ _ _ (λ i. s.version) n.1 (e.stands h [] under n.2) in
    let j = c.set_slot.new.self in
    let set = on_ok c.set_slot.result _ (sym c.if-is_err.ensures.value) c.set_slot.ensures.ok in
    let held = content_among _ _ _ (g.met.D.Disk.lawful h j.disk) (c.set_slot.ensures.payloads h e.ok.0 s.version 0 c.args.payloads.now there) in
    let slots : j.slots ≡ record { a = Some 16; b = None } = set.2 ∙ ap (λ (x : Slots). with_offset (free_slot x) (Some 16) x) (e.same.2 ∙ n.4) in
    name_leads s.version c.args.kind c.args.payloads.now c.requires.kind c.name.result _ _ held (sym (j.slot_a h set.1) ∙ ap (λ (x : Slots). x.a) slots) (sym (j.slot_b h set.1) ∙ ap (λ (x : Slots). x.b) slots) (c.name.ensures.told h)

pub returns-clause-any_moment : goal.returns-clause-any_moment
returns-clause-any_moment g c h holds =
    let s = c.args.self.now in
    let n = c.requires.new in
    let e = c.in_ok-append_all.ensures in
    let under : Holds (g.D.Disk.state s.disk).content s.version s.kind [] = same_holds _ _ _ _ _ _ (λ i. s.version) (sym n.1) holds in
    let there = same_holds _ _ _ _ _ _ (λ i. s.version) n.1 (e.stands h [] under n.2) in
    let j = c.set_slot.new.self in
    let set = on_ok c.set_slot.result _ (sym c.if-is_err.ensures.value) c.set_slot.ensures.ok in
    let leaves = c.set_slot.ensures.payloads h e.ok.0 s.version 0 c.args.payloads.now there in
    let held = content_among _ _ _ (g.met.D.Disk.lawful h j.disk) leaves in
    let slots : j.slots ≡ record { a = Some 16; b = None } = set.2 ∙ ap (λ (x : Slots). with_offset (free_slot x) (Some 16) x) (e.same.2 ∙ n.4) in
    then_leaves _ _ _ _ _ _ (after_slot s.version c.args.kind c.args.payloads.now c.requires.kind _ _ _ (same_first s.version s.kind [] c.args.payloads.now _ _ n.1 (e.any_moment h [] under n.2)) leaves)
    (name_leaves s.version c.args.kind c.args.payloads.now c.requires.kind c.name.result _ _ held (sym (j.slot_a h set.1) ∙ ap (λ (x : Slots). x.a) slots) (sym (j.slot_b h set.1) ∙ ap (λ (x : Slots). x.b) slots) (c.name.ensures.told h) (j.durable h set.1))
    (λ b x. x) (λ b x. x)
