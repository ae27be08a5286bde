use Rattle.std.proofs.Common.{◌≡◌, ◌∙◌, ◌++◌, length, Bool, true, false, Result, Ok, Err, sym, ap, subst}
use Rattle.qz_journal.specs.Layout.{Holds, end_of}
use Rattle.qz_journal.specs.Slots.{slots_of, slot_in_use}
use Rattle.qz_journal.specs.Tails.{start_of}
use Rattle.qz_disk.proofs.Moments.{content_among}
use Rattle.qz_stores.specs.Bases.{ComeBefore}
use Rattle.qz_stores.specs.Checkpoints.{IsMidway}
use Rattle.qz_stores.specs.declared.kinds.CheckpointError.{CheckpointError}
use Rattle.qz_stores.specs.declared.kinds.CheckpointError.TheVariants as checkpoint
use Rattle.qz_stores.proofs.InUse.{marked_counts}
use Rattle.qz_stores.proofs.Histories.{same_left}
use Rattle.qz_stores.proofs.Marking.{marked, marked_gate, settled_leaves, images_left}
use Rattle.qz_stores.proofs.Moments.{rests}
use Rattle.qz_stores.proofs.stores.Store.checkpoint.Goals as goal

ok_once : ◌≡◌ {A = Result Bool CheckpointError} (Ok false) (Ok true) → ⊥
ok_once same = cc

ok_err : {b : Bool} {e : CheckpointError} → ◌≡◌ {A = Result Bool CheckpointError} (Ok b) (Err e) → ⊥
ok_err same = cc

starved_once : ◌≡◌ {A = Result Bool CheckpointError} (Err checkpoint.NoMemory) (Err checkpoint.Fault) → ⊥
starved_once same = cc

pub returns-then-not-self-clause-leaves : goal.returns-then-not-self-clause-leaves
returns-then-not-self-clause-leaves g c honest =
    let s = c.args.self.now in
    rests g.met.K.Kind.lawful s (g.met.D.Disk.lawful honest s.journal.disk) honest

pub invariant_of-self-clause-stands : goal.invariant_of-self-clause-stands
invariant_of-self-clause-stands g c honest now start whole held =
    let k = g.K.Kind.kind in
    let l = g.met.K.Kind.lawful in
    let s = c.args.self.now in
    let m = c.checkpoint in
    let open_now : s.is_open ≡ true = c.if-not-self.false in
    let leaves = marked k l s.version s.journal.version s.journal.gate s.journal.count s.base_count s.count start (g.K.Kind.state s.base.value) (g.K.Kind.state s.state) s.found.items s.added.items whole (g.D.Disk.state s.journal.disk).content (g.D.Disk.state s.journal.disk) (g.D.Disk.state m.new.journal.disk)
    (s.in_version open_now) s.replayed s.counted (s.ended honest start whole held) (s.stands honest open_now start whole held) (s.gated honest open_now start whole held) (m.ensures.any_moment honest) in
    content_among (g.D.Disk.state s.journal.disk) (g.D.Disk.state m.new.journal.disk) _ (g.met.D.Disk.lawful honest m.new.journal.disk) leaves

pub invariant_of-self-clause-gated : goal.invariant_of-self-clause-gated
invariant_of-self-clause-gated g c honest now start whole held =
    let k = g.K.Kind.kind in
    let l = g.met.K.Kind.lawful in
    let s = c.args.self.now in
    let m = c.checkpoint in
    marked_gate k l s.version s.journal.version s.journal.gate s.journal.count m.new.journal.gate m.new.journal.count (k.snapshot_of (g.K.Kind.state s.state) s.journal.count s.count) (g.D.Disk.state s.journal.disk).content (g.D.Disk.state m.new.journal.disk).content start (whole ++ s.added.items)
    (s.in_version c.if-not-self.false) (s.stands honest c.if-not-self.false start whole held) (s.gated honest c.if-not-self.false start whole held) (λ ps holds at many. m.ensures.stands honest ps holds at many (c.in-Ok-true.is ∙ ap Ok c.in-Ok-true.field-0-test))

pub invariant_of-self-clause-marked : goal.invariant_of-self-clause-marked
invariant_of-self-clause-marked g c honest now start whole held payloads holds =
    let k = g.K.Kind.kind in
    let l = g.met.K.Kind.lawful in
    let s = c.args.self.now in
    let m = c.checkpoint in
    let open_now : s.is_open ≡ true = c.if-not-self.false in
    let here = s.stands honest open_now start whole held in
    let gated = s.gated honest open_now start whole held here.store.0 here.store.1 in
    let old = g.D.Disk.state s.journal.disk in
    let new = g.D.Disk.state m.new.journal.disk in
    let done : m.result ≡ Ok true = c.in-Ok-true.is ∙ ap Ok c.in-Ok-true.field-0-test in
    let midway = content_among old new _ (g.met.D.Disk.lawful honest m.new.journal.disk) (m.ensures.any_moment honest here.store.0 (subst (λ x. Holds old.content x k.number here.store.0) (sym (s.in_version open_now)) here.store.1) gated.0 gated.1) in
    let slots : m.new.journal.slots ≡ slots_of new.content = λ i. record { a = m.new.journal.slot_a honest (m.ensures.open done) i; b = m.new.journal.slot_b honest (m.ensures.open done) i } in
    marked_counts k l s.version s.journal.gate s.count start (g.K.Kind.state s.state) old.content new.content (whole ++ s.added.items) s.journal.slots m.new.journal.slots payloads here slots (m.ensures.slots done) gated.0
    (subst (λ x. IsMidway k x (g.K.Kind.state s.state) s.count old.content here.store.0 new.content) (s.in_version open_now) midway) holds

pub invariant_of-self-in-Ok-false-clause-marked : goal.invariant_of-self-in-Ok-false-clause-marked
invariant_of-self-in-Ok-false-clause-marked g c honest now start whole held payloads holds =
    let k = g.K.Kind.kind in
    let s = c.args.self.now in
    let m = c.checkpoint in
    let done : m.result ≡ Ok false = c.in-Ok-false.is ∙ ap Ok c.in-Ok-false.field-0-test in
    let same : m.new.journal ≡ s.journal = m.ensures.unchanged (λ made. ok_once (sym done ∙ made)) (λ failed. ok_err (sym done ∙ failed)) in
    subst (λ j. ComeBefore k (slot_in_use j.slots) (start_of j.slots) payloads s.snapshot) (sym same)
    (s.marked honest c.if-not-self.false start whole held payloads (subst (λ j. Holds (g.D.Disk.state j.disk).content s.version k.number payloads) same holds))

pub invariant_of-self-in-Err-NoMemory-clause-marked : goal.invariant_of-self-in-Err-NoMemory-clause-marked
invariant_of-self-in-Err-NoMemory-clause-marked g c honest now start whole held payloads holds =
    let k = g.K.Kind.kind in
    let s = c.args.self.now in
    let m = c.checkpoint in
    let done : m.result ≡ Err checkpoint.NoMemory = c.in-Err-NoMemory.is ∙ ap Err c.in-Err-NoMemory.field-0-is in
    let same : m.new.journal ≡ s.journal = m.ensures.unchanged (λ made. ok_err (sym made ∙ done)) (λ failed. starved_once (sym done ∙ failed)) in
    subst (λ j. ComeBefore k (slot_in_use j.slots) (start_of j.slots) payloads s.snapshot) (sym same)
    (s.marked honest c.if-not-self.false start whole held payloads (subst (λ j. Holds (g.D.Disk.state j.disk).content s.version k.number payloads) same holds))

pub invariant_of-self-clause-images : goal.invariant_of-self-clause-images
invariant_of-self-clause-images g c honest start whole held =
    let k = g.K.Kind.kind in
    let l = g.met.K.Kind.lawful in
    let s = c.args.self.now in
    let m = c.checkpoint in
    let open_now : s.is_open ≡ true = c.if-not-self.false in
    let leaves = marked k l s.version s.journal.version s.journal.gate s.journal.count s.base_count s.count start (g.K.Kind.state s.base.value) (g.K.Kind.state s.state) s.found.items s.added.items whole (g.D.Disk.state s.journal.disk).content (g.D.Disk.state s.journal.disk) (g.D.Disk.state m.new.journal.disk)
    (s.in_version open_now) s.replayed s.counted (s.ended honest start whole held) (s.stands honest open_now start whole held) (s.gated honest open_now start whole held) (m.ensures.any_moment honest) in
    images_left k l s.version start (whole ++ s.added.items) s.undecided (g.D.Disk.state s.journal.disk) (g.D.Disk.state m.new.journal.disk) (g.met.D.Disk.lawful honest m.new.journal.disk) (settled_leaves k l s.version start (whole ++ s.added.items) s.undecided (g.D.Disk.state s.journal.disk) (g.D.Disk.state m.new.journal.disk) (s.settled open_now) leaves)

pub invariant_of-self-in-Err-Fault-clause-images : goal.invariant_of-self-in-Err-Fault-clause-images
invariant_of-self-in-Err-Fault-clause-images g c honest start whole held =
    let k = g.K.Kind.kind in
    let l = g.met.K.Kind.lawful in
    let s = c.args.self.now in
    let m = c.checkpoint in
    let open_now : s.is_open ≡ true = c.if-not-self.false in
    let leaves = marked k l s.version s.journal.version s.journal.gate s.journal.count s.base_count s.count start (g.K.Kind.state s.base.value) (g.K.Kind.state s.state) s.found.items s.added.items whole (g.D.Disk.state s.journal.disk).content (g.D.Disk.state s.journal.disk) (g.D.Disk.state m.new.journal.disk)
    (s.in_version open_now) s.replayed s.counted (s.ended honest start whole held) (s.stands honest open_now start whole held) (s.gated honest open_now start whole held) (m.ensures.any_moment honest) in
    images_left k l s.version start (whole ++ s.added.items) s.undecided (g.D.Disk.state s.journal.disk) (g.D.Disk.state m.new.journal.disk) (g.met.D.Disk.lawful honest m.new.journal.disk) (settled_leaves k l s.version start (whole ++ s.added.items) s.undecided (g.D.Disk.state s.journal.disk) (g.D.Disk.state m.new.journal.disk) (s.settled open_now) leaves)

pub invariant_of-self-in-Err-NoMemory-clause-stands : goal.invariant_of-self-in-Err-NoMemory-clause-stands
invariant_of-self-in-Err-NoMemory-clause-stands g c honest now start whole held =
    let k = g.K.Kind.kind in
    let l = g.met.K.Kind.lawful in
    let s = c.args.self.now in
    let m = c.checkpoint in
    let open_now : s.is_open ≡ true = c.if-not-self.false in
    let leaves = marked k l s.version s.journal.version s.journal.gate s.journal.count s.base_count s.count start (g.K.Kind.state s.base.value) (g.K.Kind.state s.state) s.found.items s.added.items whole (g.D.Disk.state s.journal.disk).content (g.D.Disk.state s.journal.disk) (g.D.Disk.state m.new.journal.disk)
    (s.in_version open_now) s.replayed s.counted (s.ended honest start whole held) (s.stands honest open_now start whole held) (s.gated honest open_now start whole held) (m.ensures.any_moment honest) in
    content_among (g.D.Disk.state s.journal.disk) (g.D.Disk.state m.new.journal.disk) _ (g.met.D.Disk.lawful honest m.new.journal.disk) leaves

pub invariant_of-self-in-Err-NoMemory-clause-gated : goal.invariant_of-self-in-Err-NoMemory-clause-gated
invariant_of-self-in-Err-NoMemory-clause-gated g c honest now start whole held payloads =
    let k = g.K.Kind.kind in
    let s = c.args.self.now in
    let m = c.checkpoint in
    let is = c.in-Err-NoMemory.is ∙ ap Err c.in-Err-NoMemory.field-0-is in
    let same = m.ensures.unchanged (λ other. let both = sym other ∙ is in absurd (cc)) (λ other. let both = sym other ∙ is in absurd (cc)) in
    subst (λ j. Holds (g.D.Disk.state j.disk).content s.version k.number payloads → (j.gate ≡ end_of payloads) × (j.count ≡ length payloads)) (sym same) (s.gated honest now start whole held payloads)

pub invariant_of-self-in-Err-NoMemory-clause-images : goal.invariant_of-self-in-Err-NoMemory-clause-images
invariant_of-self-in-Err-NoMemory-clause-images g c honest start whole held =
    let k = g.K.Kind.kind in
    let l = g.met.K.Kind.lawful in
    let s = c.args.self.now in
    let m = c.checkpoint in
    let open_now : s.is_open ≡ true = c.if-not-self.false in
    let leaves = marked k l s.version s.journal.version s.journal.gate s.journal.count s.base_count s.count start (g.K.Kind.state s.base.value) (g.K.Kind.state s.state) s.found.items s.added.items whole (g.D.Disk.state s.journal.disk).content (g.D.Disk.state s.journal.disk) (g.D.Disk.state m.new.journal.disk)
    (s.in_version open_now) s.replayed s.counted (s.ended honest start whole held) (s.stands honest open_now start whole held) (s.gated honest open_now start whole held) (m.ensures.any_moment honest) in
    images_left k l s.version start (whole ++ s.added.items) s.undecided (g.D.Disk.state s.journal.disk) (g.D.Disk.state m.new.journal.disk) (g.met.D.Disk.lawful honest m.new.journal.disk) (settled_leaves k l s.version start (whole ++ s.added.items) s.undecided (g.D.Disk.state s.journal.disk) (g.D.Disk.state m.new.journal.disk) (s.settled open_now) leaves)

pub returns-in-Ok-true-clause-leaves : goal.returns-in-Ok-true-clause-leaves
returns-in-Ok-true-clause-leaves g c honest =
    let k = g.K.Kind.kind in
    let l = g.met.K.Kind.lawful in
    let s = c.args.self.now in
    let m = c.checkpoint in
    let open_now : s.is_open ≡ true = c.if-not-self.false in
    same_left k l s.version s.base_count (g.K.Kind.state s.base.value) (g.D.Disk.state s.opened.value.disk).content s.found.items (s.ended honest) s.added.items s.added.items s.undecided s.undecided (g.D.Disk.state s.journal.disk) (g.D.Disk.state m.new.journal.disk) (λ start whole held.
    let leaves = marked k l s.version s.journal.version s.journal.gate s.journal.count s.base_count s.count start (g.K.Kind.state s.base.value) (g.K.Kind.state s.state) s.found.items s.added.items whole (g.D.Disk.state s.journal.disk).content (g.D.Disk.state s.journal.disk) (g.D.Disk.state m.new.journal.disk)
    (s.in_version open_now) s.replayed s.counted (s.ended honest start whole held) (s.stands honest open_now start whole held) (s.gated honest open_now start whole held) (m.ensures.any_moment honest) in
    settled_leaves k l s.version start (whole ++ s.added.items) s.undecided (g.D.Disk.state s.journal.disk) (g.D.Disk.state m.new.journal.disk) (s.settled open_now) leaves)

pub returns-in-Ok-false-clause-leaves : goal.returns-in-Ok-false-clause-leaves
returns-in-Ok-false-clause-leaves g c honest =
    let k = g.K.Kind.kind in
    let l = g.met.K.Kind.lawful in
    let s = c.args.self.now in
    let m = c.checkpoint in
    let open_now : s.is_open ≡ true = c.if-not-self.false in
    same_left k l s.version s.base_count (g.K.Kind.state s.base.value) (g.D.Disk.state s.opened.value.disk).content s.found.items (s.ended honest) s.added.items s.added.items s.undecided s.undecided (g.D.Disk.state s.journal.disk) (g.D.Disk.state m.new.journal.disk) (λ start whole held.
    let leaves = marked k l s.version s.journal.version s.journal.gate s.journal.count s.base_count s.count start (g.K.Kind.state s.base.value) (g.K.Kind.state s.state) s.found.items s.added.items whole (g.D.Disk.state s.journal.disk).content (g.D.Disk.state s.journal.disk) (g.D.Disk.state m.new.journal.disk)
    (s.in_version open_now) s.replayed s.counted (s.ended honest start whole held) (s.stands honest open_now start whole held) (s.gated honest open_now start whole held) (m.ensures.any_moment honest) in
    settled_leaves k l s.version start (whole ++ s.added.items) s.undecided (g.D.Disk.state s.journal.disk) (g.D.Disk.state m.new.journal.disk) (s.settled open_now) leaves)

pub returns-in-Err-Fault-clause-leaves : goal.returns-in-Err-Fault-clause-leaves
returns-in-Err-Fault-clause-leaves g c honest =
    let k = g.K.Kind.kind in
    let l = g.met.K.Kind.lawful in
    let s = c.args.self.now in
    let m = c.checkpoint in
    let open_now : s.is_open ≡ true = c.if-not-self.false in
    same_left k l s.version s.base_count (g.K.Kind.state s.base.value) (g.D.Disk.state s.opened.value.disk).content s.found.items (s.ended honest) s.added.items s.added.items s.undecided s.undecided (g.D.Disk.state s.journal.disk) (g.D.Disk.state m.new.journal.disk) (λ start whole held.
    let leaves = marked k l s.version s.journal.version s.journal.gate s.journal.count s.base_count s.count start (g.K.Kind.state s.base.value) (g.K.Kind.state s.state) s.found.items s.added.items whole (g.D.Disk.state s.journal.disk).content (g.D.Disk.state s.journal.disk) (g.D.Disk.state m.new.journal.disk)
    (s.in_version open_now) s.replayed s.counted (s.ended honest start whole held) (s.stands honest open_now start whole held) (s.gated honest open_now start whole held) (m.ensures.any_moment honest) in
    settled_leaves k l s.version start (whole ++ s.added.items) s.undecided (g.D.Disk.state s.journal.disk) (g.D.Disk.state m.new.journal.disk) (s.settled open_now) leaves)

pub returns-in-Err-NoMemory-clause-leaves : goal.returns-in-Err-NoMemory-clause-leaves
returns-in-Err-NoMemory-clause-leaves g c honest =
    let k = g.K.Kind.kind in
    let l = g.met.K.Kind.lawful in
    let s = c.args.self.now in
    let m = c.checkpoint in
    let open_now : s.is_open ≡ true = c.if-not-self.false in
    same_left k l s.version s.base_count (g.K.Kind.state s.base.value) (g.D.Disk.state s.opened.value.disk).content s.found.items (s.ended honest) s.added.items s.added.items s.undecided s.undecided (g.D.Disk.state s.journal.disk) (g.D.Disk.state m.new.journal.disk) (λ start whole held.
    let leaves = marked k l s.version s.journal.version s.journal.gate s.journal.count s.base_count s.count start (g.K.Kind.state s.base.value) (g.K.Kind.state s.state) s.found.items s.added.items whole (g.D.Disk.state s.journal.disk).content (g.D.Disk.state s.journal.disk) (g.D.Disk.state m.new.journal.disk)
    (s.in_version open_now) s.replayed s.counted (s.ended honest start whole held) (s.stands honest open_now start whole held) (s.gated honest open_now start whole held) (m.ensures.any_moment honest) in
    settled_leaves k l s.version start (whole ++ s.added.items) s.undecided (g.D.Disk.state s.journal.disk) (g.D.Disk.state m.new.journal.disk) (s.settled open_now) leaves)
