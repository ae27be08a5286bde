use Rattle.std.proofs.Common.{◌≡◌, ◌∙◌, true, false, Ok, Err, Some, None, inr, refl, sym, ap}
use Rattle.qz_journal.specs.View.{version_of, kind_of, gate_of, count_of, slots_of}
use Rattle.qz_tables.specs.Contents.{TablesData}
use Rattle.qz_trigger_store.proofs.Snapshots.{made_or_failed, lack_as, have_as, stands_after, any_moment}
use Rattle.qz_trigger_store.proofs.kinds.TriggersKind.checkpoint.Goals as goal

pub unreachable-requires : goal.unreachable-requires
unreachable-requires g c =
    let shut = (c.checkpoint.ensures.closed c.in-Err-Closed.field-0-0).0 (c.in-Err-Closed.is ∙ ap Err c.in-Err-Closed.field-0-is) in
    let no : None ≡ Some c.in-Err-Closed.field-0-0 = sym c.requires.open ∙ shut in cc

pub returns-in-Ok-clause-no_room : goal.returns-in-Ok-clause-no_room
returns-in-Ok-clause-no_room g c declined _ =
    let j = c.args.journal.now in
    let no : c.in-Ok.made ≡ false = cc in
    lack_as c.args.self.now.tables.tables _ (count_of j) c.args.entries (gate_of j) (count_of j) (ap (λ (d : TablesData). d.tables) c.tables.ensures) (c.checkpoint.ensures.no_room (c.in-Ok.is ∙ ap Ok no))

pub returns-in-Ok-clause-room : goal.returns-in-Ok-clause-room
returns-in-Ok-clause-room g c done =
    let j = c.args.journal.now in
    have_as c.args.self.now.tables.tables _ (count_of j) c.args.entries (gate_of j) (count_of j) (ap (λ (d : TablesData). d.tables) c.tables.ensures) (c.checkpoint.ensures.room (made_or_failed c.in-Ok.made c.checkpoint.result c.in-Ok.is done))

pub returns-in-Err-Fault-clause-room : goal.returns-in-Err-Fault-clause-room
returns-in-Err-Fault-clause-room g c done =
    let j = c.args.journal.now in
    have_as c.args.self.now.tables.tables _ (count_of j) c.args.entries (gate_of j) (count_of j) (ap (λ (d : TablesData). d.tables) c.tables.ensures) (c.checkpoint.ensures.room (inr (c.in-Err-Fault.is ∙ ap Err c.in-Err-Fault.field-0-is)))

pub returns-in-Ok-clause-stands : goal.returns-in-Ok-clause-stands
returns-in-Ok-clause-stands g c honest payloads holds gate count made =
    let j = c.args.journal.now in
    let u = c.checkpoint.new.journal in
    let e = c.checkpoint.ensures in
    let yes : c.in-Ok.made ≡ true = cc in
    let is = c.in-Ok.is ∙ ap Ok yes in
    stands_after (version_of j) c.args.self.now.tables.tables (count_of j) c.args.entries _ payloads count holds _ (kind_of j) (ap (λ (d : TablesData). d.tables) c.tables.ensures) c.requires.number _ (gate_of j) (gate_of u) (count_of u) gate
    (λ h. e.stands honest payloads h gate is) (e.ok is).1.0 (e.ok is).1.1

pub returns-in-Ok-clause-any_moment : goal.returns-in-Ok-clause-any_moment
returns-in-Ok-clause-any_moment g c honest payloads holds gate count =
    let j = c.args.journal.now in
    let e = c.checkpoint.ensures in
    any_moment (version_of j) c.args.self.now.tables.tables (count_of j) c.args.entries _ payloads count holds _ (kind_of j) (ap (λ (d : TablesData). d.tables) c.tables.ensures) c.requires.number
    (slots_of j) (record { a = j.slot_a honest c.requires.open; b = j.slot_b honest c.requires.open }) (g.D.Disk.state j.disk) (g.D.Disk.state c.checkpoint.new.journal.disk) refl (g.met.D.Disk.lawful honest j.disk) (j.durable honest c.requires.open)
    c.checkpoint.result (λ no neither. ap (λ x. g.D.Disk.state x.disk) (e.unchanged no neither)) e.snapshot (λ h. e.any_moment honest c.requires.open payloads h gate)

pub returns-in-Err-NoMemory-clause-any_moment : goal.returns-in-Err-NoMemory-clause-any_moment
returns-in-Err-NoMemory-clause-any_moment g c honest payloads holds gate count =
    let j = c.args.journal.now in
    let e = c.checkpoint.ensures in
    any_moment (version_of j) c.args.self.now.tables.tables (count_of j) c.args.entries _ payloads count holds _ (kind_of j) (ap (λ (d : TablesData). d.tables) c.tables.ensures) c.requires.number
    (slots_of j) (record { a = j.slot_a honest c.requires.open; b = j.slot_b honest c.requires.open }) (g.D.Disk.state j.disk) (g.D.Disk.state c.checkpoint.new.journal.disk) refl (g.met.D.Disk.lawful honest j.disk) (j.durable honest c.requires.open)
    c.checkpoint.result (λ no neither. ap (λ x. g.D.Disk.state x.disk) (e.unchanged no neither)) e.snapshot (λ h. e.any_moment honest c.requires.open payloads h gate)

pub returns-in-Err-Fault-clause-any_moment : goal.returns-in-Err-Fault-clause-any_moment
returns-in-Err-Fault-clause-any_moment g c honest payloads holds gate count =
    let j = c.args.journal.now in
    let e = c.checkpoint.ensures in
    any_moment (version_of j) c.args.self.now.tables.tables (count_of j) c.args.entries _ payloads count holds _ (kind_of j) (ap (λ (d : TablesData). d.tables) c.tables.ensures) c.requires.number
    (slots_of j) (record { a = j.slot_a honest c.requires.open; b = j.slot_b honest c.requires.open }) (g.D.Disk.state j.disk) (g.D.Disk.state c.checkpoint.new.journal.disk) refl (g.met.D.Disk.lawful honest j.disk) (j.durable honest c.requires.open)
    c.checkpoint.result (λ no neither. ap (λ x. g.D.Disk.state x.disk) (e.unchanged no neither)) e.snapshot (λ h. e.any_moment honest c.requires.open payloads h gate)
