use Rattle.std.proofs.Common.{◌≡◌, ◌∙◌, ℕ, List, ◌++◌, length, refl, sym, ap, subst, arith}
use Rattle.qz_disk.proofs.Moments.{content_among}
use Rattle.qz_journal.specs.Slots.{slots_of}
use Rattle.qz_stores.specs.Stores.{HasRoom}
use Rattle.qz_stores.specs.Kinds.{HasRecord, IsAccepted}
use Rattle.qz_stores.specs.View.{view}
use Rattle.qz_stores.proofs.Appending
use Rattle.qz_stores.proofs.Committing
use Rattle.qz_stores.proofs.Histories
use Rattle.qz_stores.proofs.InUse.{appended_counts}
use Rattle.qz_stores.proofs.stores.Store.commit.Goals as goal

-- where the record went to the disk

pub invariant_of-self-clause-counted : goal.invariant_of-self-clause-counted
invariant_of-self-clause-counted g c =
    let s = c.args.self.now in
    Appending.counted_with s.found.items s.added.items _ c.args.entry s.base_count s.count _ c.and.ensures s.counted refl

pub invariant_of-self-clause-placed : goal.invariant_of-self-clause-placed
invariant_of-self-clause-placed g c now = omega (arith, c.args.self.now.placed c.requires.open, c.in-Ok.ensures.ok.2)

pub invariant_of-self-clause-legal : goal.invariant_of-self-clause-legal
invariant_of-self-clause-legal g c =
    let s = c.args.self.now in
    Appending.legal_with g.K.Kind.kind g.met.K.Kind.lawful (g.K.Kind.state s.base.value) (g.K.Kind.state s.state) s.found.items s.added.items _ c.args.entry c.and.ensures s.replayed c.requires.accepted s.legal

pub invariant_of-self-clause-replayed : goal.invariant_of-self-clause-replayed
invariant_of-self-clause-replayed g c =
    let s = c.args.self.now in
    Appending.grown g.K.Kind.kind g.met.K.Kind.lawful (g.K.Kind.state s.base.value) (g.K.Kind.state s.state) _ (s.found.items ++ s.added.items) _ c.args.entry (Appending.more s.found.items s.added.items _ c.args.entry c.and.ensures) s.replayed
    c.commit-reply.ensures.state

pub invariant_of-self-clause-recorded : goal.invariant_of-self-clause-recorded
invariant_of-self-clause-recorded g c =
    let s = c.args.self.now in
    Appending.recorded_with (HasRecord g.K.Kind.kind) s.found.items s.added.items _ c.args.entry c.and.ensures s.recorded (c.args.ready.record, c.requires.record.0)

pub invariant_of-self-clause-passed : goal.invariant_of-self-clause-passed
invariant_of-self-clause-passed g c = Appending.none_follows g.K.Kind.kind _ _ (c.args.self.now.settled c.requires.open)

pub invariant_of-self-clause-stands : goal.invariant_of-self-clause-stands
invariant_of-self-clause-stands g c honest now start whole held =
    let s = c.args.self.now in
    let k = g.K.Kind.kind in
    let l = g.met.K.Kind.lawful in
    let front = content_among _ _ _ (g.met.D.Disk.lawful honest c.append.new.self.disk) (c.append.ensures.front honest (s.ready c.requires.open)) in
    Appending.whole_with k l s.version start whole s.added.items _ c.args.entry _ c.and.ensures
    (Appending.next_held k l s.version s.journal.version s.journal.kind s.journal.gate s.journal.count c.as_slice.result.now c.args.entry start (whole ++ s.added.items) _ (s.in_version c.requires.open) s.number
    (subst (λ (b : List ℕ). k.IsRecordOf b c.args.entry) (sym c.as_slice.ensures) c.requires.record.0) (s.stands honest c.requires.open start whole held) (s.gated honest c.requires.open start whole held)
    (subst (λ T. IsAccepted k T c.args.entry) (Appending.whole_leaves k l s.version start s.base_count (g.K.Kind.state s.base.value) (g.K.Kind.state s.state) s.found.items s.added.items whole s.replayed (s.ended honest start whole held)) c.requires.accepted)
    s.journal.after_header _ (c.in-Ok.ensures.stands honest) front)

pub invariant_of-self-clause-gated : goal.invariant_of-self-clause-gated
invariant_of-self-clause-gated g c honest now start whole held =
    let s = c.args.self.now in
    let k = g.K.Kind.kind in
    let l = g.met.K.Kind.lawful in
    Appending.next_gate k l s.version s.journal.version s.journal.kind s.journal.gate s.journal.count c.as_slice.result.now c.args.entry start (whole ++ s.added.items) _ (s.in_version c.requires.open) s.number
    (subst (λ (b : List ℕ). k.IsRecordOf b c.args.entry) (sym c.as_slice.ensures) c.requires.record.0) (s.stands honest c.requires.open start whole held) (s.gated honest c.requires.open start whole held)
    (subst (λ T. IsAccepted k T c.args.entry) (Appending.whole_leaves k l s.version start s.base_count (g.K.Kind.state s.base.value) (g.K.Kind.state s.state) s.found.items s.added.items whole s.replayed (s.ended honest start whole held)) c.requires.accepted)
    s.journal.after_header _ _ _ c.in-Ok.ensures.ok.1 c.in-Ok.ensures.ok.2 (c.in-Ok.ensures.stands honest)

pub invariant_of-self-clause-marked : goal.invariant_of-self-clause-marked
invariant_of-self-clause-marked g c honest now start whole held payloads holds =
    let s = c.args.self.now in
    let k = g.K.Kind.kind in
    let l = g.met.K.Kind.lawful in
    let here = s.stands honest c.requires.open start whole held in
    let gated = s.gated honest c.requires.open start whole held in
    let ps = here.store.0 in
    let slots : s.journal.slots ≡ slots_of (g.D.Disk.state s.journal.disk).content = λ i. record { a = s.journal.slot_a honest (s.ready c.requires.open) i; b = s.journal.slot_b honest (s.ready c.requires.open) i } in
    let after = Appending.as_held k l s.version s.journal.version s.journal.kind (g.D.Disk.state c.append.new.self.disk).content _ (s.in_version c.requires.open) s.number
    (c.in-Ok.ensures.stands honest ps (Appending.as_journal k l s.version s.journal.version s.journal.kind (g.D.Disk.state s.journal.disk).content ps (s.in_version c.requires.open) s.number here.store.1) (gated ps here.store.1).0) in
    appended_counts k l s.version s.snapshot start (g.D.Disk.state s.journal.disk).content (g.D.Disk.state c.append.new.self.disk).content (whole ++ s.added.items) s.journal.slots c.append.new.self.slots ps _ payloads here slots c.append.ensures.same_slots here.store.1 after holds
    (s.marked honest c.requires.open start whole held ps here.store.1)

pub invariant_of-self-clause-images : goal.invariant_of-self-clause-images
invariant_of-self-clause-images g c honest start whole held =
    let s = c.args.self.now in
    Appending.images_of g.K.Kind.kind g.met.K.Kind.lawful s.version start _ s.undecided (g.D.Disk.state c.append.new.self.disk) (s.settled c.requires.open) (c.in-Ok.ensures.durable honest)
    (invariant_of-self-clause-stands g c honest c.requires.open start whole held)

pub returns-in-Ok-clause-leaves : goal.returns-in-Ok-clause-leaves
returns-in-Ok-clause-leaves g c honest =
    let s = c.args.self.now in
    let k = g.K.Kind.kind in
    let l = g.met.K.Kind.lawful in
    Histories.either_left k l s.version s.base_count (g.K.Kind.state s.base.value) (g.D.Disk.state s.opened.value.disk).content s.found.items (s.ended honest) s.added.items c.and.result.items s.undecided s.undecided (g.D.Disk.state s.journal.disk) (g.D.Disk.state c.append.new.self.disk) (λ start whole held.
    let leaves = Appending.next_leaves k l s.version s.journal.version s.journal.kind s.journal.gate s.journal.count c.as_slice.result.now c.args.entry start (whole ++ s.added.items) _ (s.in_version c.requires.open) s.number
    (subst (λ (b : List ℕ). k.IsRecordOf b c.args.entry) (sym c.as_slice.ensures) c.requires.record.0) (s.stands honest c.requires.open start whole held) (s.gated honest c.requires.open start whole held)
    (subst (λ T. IsAccepted k T c.args.entry) (Appending.whole_leaves k l s.version start s.base_count (g.K.Kind.state s.base.value) (g.K.Kind.state s.state) s.found.items s.added.items whole s.replayed (s.ended honest start whole held)) c.requires.accepted)
    s.journal.after_header _ _ (c.append.ensures.any_moment honest (s.ready c.requires.open)) (c.append.ensures.front honest (s.ready c.requires.open)) in
    Appending.leaves_with k l s.version start whole s.added.items _ c.args.entry _ _ s.undecided s.undecided c.and.ensures (s.settled c.requires.open) (s.settled c.requires.open) leaves)

pub returns-in-Ok-clause-ok : goal.returns-in-Ok-clause-ok
returns-in-Ok-clause-ok g c =
    let k = g.K.Kind.kind in
    let lawful = g.met.K.Kind.lawful in
    let s = c.args.self.now in
    let ok = c.in-Ok.ensures.ok in
    let es = s.found.items ++ s.added.items in
    let done = Committing.appends k (g.K.Kind.state s.state) (view s) _ c.args.entry c.commit-reply.result c.args.ready.record c.as_slice.result.now (Committing.state_is k lawful s.base_count (g.K.Kind.state s.base.value) (g.K.Kind.state s.state) es s.replayed) c.commit-reply.ensures.accepted c.requires.record.0 c.as_slice.ensures c.requires.open c.requires.fits
    (ap (k.history s.base_count (g.K.Kind.state s.base.value)) (Appending.more s.found.items s.added.items _ c.args.entry c.and.ensures) ∙ sym (Committing.entry_more k lawful s.base_count (g.K.Kind.state s.base.value) es c.args.entry))
    ok.1 ok.2 c.requires.open (s.settled c.requires.open) c.append.ensures.later in
    (refl, done)

-- where the disk failed

pub returns-in-Err-clause-err : goal.returns-in-Err-clause-err
returns-in-Err-clause-err g c =
    let k = g.K.Kind.kind in
    let s = c.args.self.now in
    let es = s.found.items ++ s.added.items in
    let room : HasRoom (length c.as_slice.result.now) (view s) = subst (λ (b : List ℕ). HasRoom (length b) (view s)) (sym c.as_slice.ensures) c.requires.fits in
    let failed = Committing.fault_only c.in-Err.field-0 c.append.result s.journal.closed s.journal.gate s.journal.count (length c.as_slice.result.now) c.in-Err.is (s.ready c.requires.open) room c.append.ensures.closed c.append.ensures.full in
    let fails = Committing.fails k (g.K.Kind.state s.state) (view s) _ c.args.entry c.args.ready.record c.close.result (Committing.state_is k g.met.K.Kind.lawful s.base_count (g.K.Kind.state s.base.value) (g.K.Kind.state s.state) es s.replayed) c.requires.accepted c.requires.open c.requires.fits refl c.in-Err.ensures.same_place.0 c.in-Err.ensures.same_place.1 c.close.ensures.closed c.close.ensures.undecided
    (c.append.ensures.fault failed).0 c.append.ensures.later c.close.ensures.fault in
    (c.close.ensures.fault, fails)

pub invariant_of-self-in-Err-clause-passed : goal.invariant_of-self-in-Err-clause-passed
invariant_of-self-in-Err-clause-passed g c =
    Appending.one_follows g.K.Kind.kind (g.K.Kind.state c.args.self.now.state) _ c.args.entry c.close.ensures.undecided (c.args.ready.record, c.requires.record.0) c.requires.accepted

pub invariant_of-self-in-Err-clause-images : goal.invariant_of-self-in-Err-clause-images
invariant_of-self-in-Err-clause-images g c honest start whole held =
    let s = c.args.self.now in
    let k = g.K.Kind.kind in
    let l = g.met.K.Kind.lawful in
    let leaves = Appending.next_leaves k l s.version s.journal.version s.journal.kind s.journal.gate s.journal.count c.as_slice.result.now c.args.entry start (whole ++ s.added.items) _ (s.in_version c.requires.open) s.number
    (subst (λ (b : List ℕ). k.IsRecordOf b c.args.entry) (sym c.as_slice.ensures) c.requires.record.0) (s.stands honest c.requires.open start whole held) (s.gated honest c.requires.open start whole held)
    (subst (λ T. IsAccepted k T c.args.entry) (Appending.whole_leaves k l s.version start s.base_count (g.K.Kind.state s.base.value) (g.K.Kind.state s.state) s.found.items s.added.items whole s.replayed (s.ended honest start whole held)) c.requires.accepted)
    s.journal.after_header _ _ (c.append.ensures.any_moment honest (s.ready c.requires.open)) (c.append.ensures.front honest (s.ready c.requires.open)) in
    Appending.images_undecided k l s.version start (whole ++ s.added.items) _ c.args.entry _ _ c.close.ensures.undecided (g.met.D.Disk.lawful honest c.append.new.self.disk) leaves

pub returns-in-Err-clause-leaves : goal.returns-in-Err-clause-leaves
returns-in-Err-clause-leaves g c honest =
    let s = c.args.self.now in
    let k = g.K.Kind.kind in
    let l = g.met.K.Kind.lawful in
    Histories.either_left k l s.version s.base_count (g.K.Kind.state s.base.value) (g.D.Disk.state s.opened.value.disk).content s.found.items (s.ended honest) s.added.items s.added.items s.undecided c.close.new.undecided (g.D.Disk.state s.journal.disk) (g.D.Disk.state c.append.new.self.disk) (λ start whole held.
    let leaves = Appending.next_leaves k l s.version s.journal.version s.journal.kind s.journal.gate s.journal.count c.as_slice.result.now c.args.entry start (whole ++ s.added.items) _ (s.in_version c.requires.open) s.number
    (subst (λ (b : List ℕ). k.IsRecordOf b c.args.entry) (sym c.as_slice.ensures) c.requires.record.0) (s.stands honest c.requires.open start whole held) (s.gated honest c.requires.open start whole held)
    (subst (λ T. IsAccepted k T c.args.entry) (Appending.whole_leaves k l s.version start s.base_count (g.K.Kind.state s.base.value) (g.K.Kind.state s.state) s.found.items s.added.items whole s.replayed (s.ended honest start whole held)) c.requires.accepted)
    s.journal.after_header _ _ (c.append.ensures.any_moment honest (s.ready c.requires.open)) (c.append.ensures.front honest (s.ready c.requires.open)) in
    Appending.leaves_undecided k l s.version start (whole ++ s.added.items) c.args.entry _ _ s.undecided _ c.close.ensures.undecided leaves)
