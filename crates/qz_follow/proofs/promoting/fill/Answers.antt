use Rattle.std.proofs.Common.{[], length, refl, sym, subst}
use Rattle.std.specs.Prelude.{Some}
use Rattle.qz_trigger_store.specs.View.{view, disk_state}
use Rattle.qz_trigger_store.specs.Bytes.{Whole}
use Rattle.qz_follow.specs.Promoting.{list_from, Fills}
use Rattle.qz_follow.specs.declared.promoting.PromoteFault.TheVariants as fault
use Rattle.qz_follow.proofs.Promoted.{are_sizes, are_records, has_room, full_as, full_by, filled, starved_by, failed_by}
use Rattle.qz_follow.proofs.promoting.fill.Goals as goal

pub extended-requires-clause-sizes : goal.extended-requires-clause-sizes
extended-requires-clause-sizes g c = are_sizes c.args.start.now.value.tables c.args.entries.now.items c.args.records.now c.requires.adoptable

pub extended-requires-clause-recorded : goal.extended-requires-clause-recorded
extended-requires-clause-recorded g c = are_records c.args.start.now.value.tables c.args.entries.now.items c.args.records.now c.requires.adoptable

pub returns-in-Err-clause-no_room : goal.returns-in-Err-clause-no_room
returns-in-Err-clause-no_room g c need room is few =
    let s = c.args.store in
    full_as c.args.records.now (view s).gate (view s).payloads c.args.end (length c.args.records.now) c.gate.result c.payloads.result need room c.in-Err.field-0.need c.in-Err.field-0.room is c.requires.end refl c.gate.ensures c.payloads.ensures c.in-Err.ensures.full few

pub extended-requires-clause-room : goal.extended-requires-clause-room
extended-requires-clause-room g c =
    let s = c.args.store in
    has_room c.args.records.now (view s).gate (view s).payloads c.args.end (length c.args.records.now) c.gate.result c.payloads.result c.requires.end refl c.gate.ensures c.payloads.ensures c.in_default.ensures.ok

pub returns-in-Err-clause-fills : goal.returns-in-Err-clause-fills
returns-in-Err-clause-fills g c honest whole =
    let s = c.args.store in
    let v = c.args.version in
    let st = c.args.start.now.value.tables in
    let es = c.args.entries.now.items in
    subst (λ d. Fills v st es (Some (fault.NoRoom c.in-Err.field-0.need c.in-Err.field-0.room)) (disk_state s) (g.D.Disk.state d)) (sym c.into_disk.ensures)
    (full_by v st es s c.requires.new c.in-Err.field-0.need c.in-Err.field-0.room honest (g.met.D.Disk.lawful honest s.store.journal.disk) whole)

pub returns-in-Ok-clause-fills : goal.returns-in-Ok-clause-fills
returns-in-Ok-clause-fills g c honest whole =
    let v = c.args.version in
    let st = c.args.start.now.value.tables in
    let w : Whole = list_from v st [] in
    let e = c.in-Ok.ensures in
    filled v st c.args.entries.now.items c.args.store c.requires.new (disk_state c.in-Ok.store) (e.has honest w (sym c.requires.new.version_is) whole) (e.any_moment honest w (sym c.requires.new.version_is) whole)

pub returns-in-Err-NoMemory-default-clause-fills : goal.returns-in-Err-NoMemory-default-clause-fills
returns-in-Err-NoMemory-default-clause-fills g c honest whole =
    let v = c.args.version in
    let st = c.args.start.now.value.tables in
    let w : Whole = list_from v st [] in
    let e = c.in-Err-NoMemory-default.ensures in
    starved_by v st c.args.entries.now.items c.args.store c.requires.new (g.D.Disk.state c.in-Err-NoMemory-default.disk) (e.had honest w (sym c.requires.new.version_is) whole c.in-Err-NoMemory-default.field-0-0-is) (e.any_moment honest w (sym c.requires.new.version_is) whole)

pub returns-in-Err-Fault-default-clause-fills : goal.returns-in-Err-Fault-default-clause-fills
returns-in-Err-Fault-default-clause-fills g c honest whole =
    let v = c.args.version in
    let st = c.args.start.now.value.tables in
    let w : Whole = list_from v st [] in
    let e = c.in-Err-Fault-default.ensures in
    failed_by v st c.args.entries.now.items c.args.store c.requires.new (g.D.Disk.state c.in-Err-Fault-default.disk) (e.any_moment honest w (sym c.requires.new.version_is) whole)
