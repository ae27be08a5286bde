use Rattle.std.proofs.Common.{◌≡◌, ◌++◌, sym, subst, arith}
use Rattle.qz_disk.specs.Disk.{LeavesOnly}
use Rattle.qz_disk.proofs.Moments.{content_among}
use Rattle.qz_journal.specs.Slots.{slots_of}
use Rattle.qz_stores.specs.Bases.{HoldAll}
use Rattle.qz_stores.specs.Extending.{with_entries, HoldsFirst}
use Rattle.qz_stores.proofs.Appending.{images_of}
use Rattle.qz_stores.proofs.TakingOver
use Rattle.qz_stores.proofs.InUse.{appended_counts}
use Rattle.qz_stores.proofs.stores.Store.extended_by.Goals as goal

pub invariant_of-result-clause-counted : goal.invariant_of-result-clause-counted
invariant_of-result-clause-counted g c =
    let s = c.args.self in
    TakingOver.counted_all g.K.Kind.kind s.found.items s.added.items c.args.entries.now.items _ c.args.records.now s.base_count s.count _ c.joined.ensures c.requires.recorded s.counted (omega arith)

pub invariant_of-result-clause-legal : goal.invariant_of-result-clause-legal
invariant_of-result-clause-legal g c =
    let s = c.args.self in
    TakingOver.legal_all g.K.Kind.kind g.met.K.Kind.lawful (g.K.Kind.state s.base.value) (g.K.Kind.state s.state) s.found.items s.added.items c.args.entries.now.items _ c.joined.ensures s.replayed s.legal c.requires.legal

pub invariant_of-result-clause-replayed : goal.invariant_of-result-clause-replayed
invariant_of-result-clause-replayed g c =
    let s = c.args.self in
    TakingOver.replayed_all g.K.Kind.kind g.met.K.Kind.lawful (g.K.Kind.state s.base.value) (g.K.Kind.state s.state) (g.K.Kind.state c.args.state) s.found.items s.added.items c.args.entries.now.items _ c.joined.ensures s.replayed c.requires.state

pub invariant_of-result-clause-recorded : goal.invariant_of-result-clause-recorded
invariant_of-result-clause-recorded g c =
    let s = c.args.self in
    TakingOver.recorded_all g.K.Kind.kind s.found.items s.added.items c.args.entries.now.items _ c.args.records.now c.joined.ensures c.requires.recorded s.recorded

pub invariant_of-result-clause-stands : goal.invariant_of-result-clause-stands
invariant_of-result-clause-stands g c honest now start whole held =
    let s = c.args.self in
    let k = g.K.Kind.kind in
    let l = g.met.K.Kind.lawful in
    let en = c.args.entries.now.items in
    let o = c.requires.open in
    let here = s.stands honest o start whole held in
    let gated = s.gated honest o start whole held in
    let legal = TakingOver.legal_from k l s.version start s.base_count (g.K.Kind.state s.base.value) (g.K.Kind.state s.state) s.found.items s.added.items en whole _ s.replayed (s.ended honest start whole held) here c.requires.legal in
    let front = content_among _ _ _ (g.met.D.Disk.lawful honest c.append_all.new.self.disk) (c.append_all.ensures.front honest) in
    subst (HoldAll k s.version start (g.D.Disk.state c.append_all.new.self.disk).content) (sym (TakingOver.joined whole s.added.items en _ c.joined.ensures))
    (TakingOver.all_held k l s.version s.journal.version s.journal.kind s.journal.gate s.journal.count c.args.records.now en start (whole ++ s.added.items) (g.D.Disk.state s.journal.disk).content (s.in_version o) s.number c.requires.recorded here gated legal s.journal.after_header _ (c.in-Ok.ensures.stands honest) front)

pub invariant_of-result-clause-gated : goal.invariant_of-result-clause-gated
invariant_of-result-clause-gated g c honest now start whole held =
    let s = c.args.self in
    let k = g.K.Kind.kind in
    let l = g.met.K.Kind.lawful in
    let en = c.args.entries.now.items in
    let o = c.requires.open in
    let here = s.stands honest o start whole held in
    let gated = s.gated honest o start whole held in
    let legal = TakingOver.legal_from k l s.version start s.base_count (g.K.Kind.state s.base.value) (g.K.Kind.state s.state) s.found.items s.added.items en whole _ s.replayed (s.ended honest start whole held) here c.requires.legal in
    TakingOver.gate_after k l s.version s.journal.version s.journal.kind s.journal.gate s.journal.count c.args.records.now en start (whole ++ s.added.items) (g.D.Disk.state s.journal.disk).content (s.in_version o) s.number c.requires.recorded here gated legal s.journal.after_header _ _ _ c.in-Ok.ensures.ok.1 c.in-Ok.ensures.ok.2 (c.in-Ok.ensures.stands honest)

pub invariant_of-result-clause-marked : goal.invariant_of-result-clause-marked
invariant_of-result-clause-marked g c honest now start whole held payloads holds =
    let s = c.args.self in
    let k = g.K.Kind.kind in
    let l = g.met.K.Kind.lawful in
    let en = c.args.entries.now.items in
    let o = c.requires.open in
    let here = s.stands honest o start whole held in
    let gated = s.gated honest o start whole held in
    let legal = TakingOver.legal_from k l s.version start s.base_count (g.K.Kind.state s.base.value) (g.K.Kind.state s.state) s.found.items s.added.items en whole _ s.replayed (s.ended honest start whole held) here c.requires.legal in
    let new = (g.D.Disk.state c.append_all.new.self.disk).content in
    let slots : s.journal.slots ≡ slots_of (g.D.Disk.state s.journal.disk).content = λ i. record { a = s.journal.slot_a honest (s.ready o) i; b = s.journal.slot_b honest (s.ready o) i } in
    let after = TakingOver.all_there k l s.version s.journal.version s.journal.kind s.journal.gate s.journal.count c.args.records.now en start (whole ++ s.added.items) (g.D.Disk.state s.journal.disk).content (s.in_version o) s.number c.requires.recorded here gated legal s.journal.after_header new (c.in-Ok.ensures.stands honest) in
    appended_counts k l s.version s.snapshot start (g.D.Disk.state s.journal.disk).content new (whole ++ s.added.items) s.journal.slots c.append_all.new.self.slots here.store.0 c.args.records.now payloads here slots c.append_all.ensures.same.2 here.store.1 after holds
    (s.marked honest o start whole held here.store.0 here.store.1)

pub invariant_of-result-clause-images : goal.invariant_of-result-clause-images
invariant_of-result-clause-images g c honest start whole held =
    let s = c.args.self in
    images_of g.K.Kind.kind g.met.K.Kind.lawful s.version start _ s.undecided (g.D.Disk.state c.append_all.new.self.disk) (s.settled c.requires.open) (c.append_all.new.self.durable honest c.in-Ok.ensures.ok.0)
    (invariant_of-result-clause-stands g c honest c.requires.open start whole held)

pub returns-in-Ok-clause-extends : goal.returns-in-Ok-clause-extends
returns-in-Ok-clause-extends g c =
    let s = c.args.self in
    record {
      history = TakingOver.history_all g.K.Kind.kind g.met.K.Kind.lawful s.base_count (g.K.Kind.state s.base.value) s.found.items s.added.items c.args.entries.now.items _ c.joined.ensures;
      gate = c.in-Ok.ensures.ok.1;
      payloads = c.in-Ok.ensures.ok.2;
      is_open = c.requires.open;
      undecided = s.settled c.requires.open;
      later = c.append_all.ensures.later;
    }

pub returns-in-Ok-clause-has : goal.returns-in-Ok-clause-has
returns-in-Ok-clause-has g c honest w same given =
    let s = c.args.self in
    let k = g.K.Kind.kind in
    let l = g.met.K.Kind.lawful in
    let en = c.args.entries.now.items in
    let o = c.requires.open in
    let start = w.start in
    let whole = w.entries in
    let held = TakingOver.opened_as k l s.version w _ same given in
    let here = s.stands honest o start whole held in
    let gated = s.gated honest o start whole held in
    let legal = TakingOver.legal_from k l s.version start s.base_count (g.K.Kind.state s.base.value) (g.K.Kind.state s.state) s.found.items s.added.items en whole _ s.replayed (s.ended honest start whole held) here c.requires.legal in
    let front = content_among _ _ _ (g.met.D.Disk.lawful honest c.append_all.new.self.disk) (c.append_all.ensures.front honest) in
    TakingOver.has_all k l s.version w s.added.items en _ (g.D.Disk.state c.append_all.new.self.disk) same c.joined.ensures (c.append_all.new.self.durable honest c.in-Ok.ensures.ok.0)
    (subst (HoldAll k s.version start (g.D.Disk.state c.append_all.new.self.disk).content) (sym (TakingOver.joined whole s.added.items en _ c.joined.ensures))
    (TakingOver.all_held k l s.version s.journal.version s.journal.kind s.journal.gate s.journal.count c.args.records.now en start (whole ++ s.added.items) (g.D.Disk.state s.journal.disk).content (s.in_version o) s.number c.requires.recorded here gated legal s.journal.after_header _ (c.in-Ok.ensures.stands honest) front))

pub returns-in-Ok-clause-any_moment : goal.returns-in-Ok-clause-any_moment
returns-in-Ok-clause-any_moment g c honest w same given =
    let s = c.args.self in
    let k = g.K.Kind.kind in
    let l = g.met.K.Kind.lawful in
    let en = c.args.entries.now.items in
    let o = c.requires.open in
    let start = w.start in
    let whole = w.entries in
    let held = TakingOver.opened_as k l s.version w _ same given in
    let here = s.stands honest o start whole held in
    let gated = s.gated honest o start whole held in
    let legal = TakingOver.legal_from k l s.version start s.base_count (g.K.Kind.state s.base.value) (g.K.Kind.state s.state) s.found.items s.added.items en whole _ s.replayed (s.ended honest start whole held) here c.requires.legal in
    TakingOver.first_of k l s.version w s.added.items en _ _ same
    (TakingOver.leave_first k l s.version s.journal.version s.journal.kind s.journal.gate s.journal.count c.args.records.now en start (whole ++ s.added.items) (g.D.Disk.state s.journal.disk).content (s.in_version o) s.number c.requires.recorded here gated legal s.journal.after_header _ _ (c.append_all.ensures.any_moment honest) (c.append_all.ensures.front honest))

pub returns-clause-any_moment : goal.returns-clause-any_moment
returns-clause-any_moment g c honest w same given =
    let s = c.args.self in
    let k = g.K.Kind.kind in
    let l = g.met.K.Kind.lawful in
    let en = c.args.entries.now.items in
    let o = c.requires.open in
    let start = w.start in
    let whole = w.entries in
    let held = TakingOver.opened_as k l s.version w _ same given in
    let here = s.stands honest o start whole held in
    let gated = s.gated honest o start whole held in
    let legal = TakingOver.legal_from k l s.version start s.base_count (g.K.Kind.state s.base.value) (g.K.Kind.state s.state) s.found.items s.added.items en whole _ s.replayed (s.ended honest start whole held) here c.requires.legal in
    subst (λ d. LeavesOnly (g.D.Disk.state s.journal.disk) (g.D.Disk.state d) (HoldsFirst k (with_entries w s.added.items) en)) (sym c.into_disk.ensures)
    (TakingOver.first_of k l s.version w s.added.items en _ _ same
    (TakingOver.leave_first k l s.version s.journal.version s.journal.kind s.journal.gate s.journal.count c.args.records.now en start (whole ++ s.added.items) (g.D.Disk.state s.journal.disk).content (s.in_version o) s.number c.requires.recorded here gated legal s.journal.after_header _ _ (c.append_all.ensures.any_moment honest) (c.append_all.ensures.front honest)))
