use Rattle.std.proofs.Common.{[], ◌∙◌, inl, sym, subst, ap}
use Rattle.std.proofs.Math.Logic.{∥∥₁_map}
use Rattle.qz_journal.specs.Commits.{HaveRoom}
use Rattle.qz_journal.specs.Layout.{end_of}
use Rattle.qz_trigger_store.specs.View.{view, disk_state}
use Rattle.qz_follow.specs.Promoting.{AreAdoptable}
use Rattle.qz_follow.proofs.NewTables.{base_kept}
use Rattle.qz_follow.proofs.Promoted.{adoptable, ends_at, room_alone, lacks_each, no_room_each, promotes_each, long_each, fault_each, later_each}
use Rattle.qz_follow.proofs.holding.Taken.into_store.Goals as goal

pub begin-requires-clause-based : goal.begin-requires-clause-based
begin-requires-clause-based g c =
    let s = c.args.self in
    ∥∥₁_map s.based (base_kept s.version s.stage s.start.value.tables s.entries.items s.kept s.base c.requires.whole c.requires.kept)

pub fill-requires-clause-adoptable : goal.fill-requires-clause-adoptable
fill-requires-clause-adoptable g c =
    let s = c.args.self in
    subst (AreAdoptable s.start.value.tables s.entries.items) (sym c.as_slice-all.ensures) (adoptable s.start.value.tables s.end s.entries.items s.kept c.in-Some.records c.in-Some.is s.recorded s.legal)

pub fill-requires-clause-end : goal.fill-requires-clause-end
fill-requires-clause-end g c =
    let s = c.args.self in
    ends_at s.start.value.tables s.end s.entries.items s.kept c.in-Some.records c.in-Some.is s.recorded ∙ ap end_of (sym c.as_slice-all.ensures)

pub returns-in-Ok-clause-promotes : goal.returns-in-Ok-clause-promotes
returns-in-Ok-clause-promotes g c honest =
    let s = c.args.self in
    promotes_each s.version s.start.value.tables s.entries.items (g.D.Disk.state c.args.disk) (disk_state c.in-Ok.store) c.fill.result (c.in-Ok.ensures.begins honest) (c.fill.ensures.fills honest (c.in-Ok.ensures.whole honest))

pub returns-in-Ok-clause-goes_on : goal.returns-in-Ok-clause-goes_on
returns-in-Ok-clause-goes_on g c honest = c.fill.ensures.goes_on (c.in-Ok.ensures.goes_on honest)

pub returns-in-Ok-clause-no_room : goal.returns-in-Ok-clause-no_room
returns-in-Ok-clause-no_room g c need room =
    let s = c.args.self in
    let has = subst (λ l. HaveRoom l (end_of []) 0) (sym c.as_slice-all.ensures) (room_alone s.end s.count s.entries.items s.kept c.in-Some.records c.in-Some.is s.recorded s.counted s.few s.low) in
    no_room_each s.version s.start.value.tables c.as_slice-all.result.now c.in-Ok.store c.fill.result need room has c.in-Ok.ensures.plain (c.fill.ensures.no_room need room)

pub returns-in-Ok-clause-lacks : goal.returns-in-Ok-clause-lacks
returns-in-Ok-clause-lacks g c honest need room =
    let s = c.args.self in
    let start = s.start.value.tables in
    let has = subst (λ l. HaveRoom l (end_of []) 0) (sym c.as_slice-all.ensures) (room_alone s.end s.count s.entries.items s.kept c.in-Some.records c.in-Some.is s.recorded s.counted s.few s.low) in
    let can = subst (AreAdoptable start s.entries.items) (sym c.as_slice-all.ensures) (adoptable start s.end s.entries.items s.kept c.in-Some.records c.in-Some.is s.recorded s.legal) in
    lacks_each s.version start s.entries.items c.as_slice-all.result.now c.in-Ok.store c.fill.result need room can has c.in-Ok.ensures.plain (c.in-Ok.ensures.place honest) (c.fill.ensures.no_room need room)

pub returns-in-Ok-clause-long : goal.returns-in-Ok-clause-long
returns-in-Ok-clause-long g c at = long_each c.fill.result (view c.in-Ok.store).faults at c.fill.ensures.failed

pub returns-in-Ok-clause-fault : goal.returns-in-Ok-clause-fault
returns-in-Ok-clause-fault g c = fault_each c.fill.result _ (view c.in-Ok.store).faults c.in-Ok.ensures.later c.fill.ensures.failed

pub returns-in-Ok-clause-later : goal.returns-in-Ok-clause-later
returns-in-Ok-clause-later g c = later_each c.fill.result _ (view c.in-Ok.store).faults c.in-Ok.ensures.later c.fill.ensures.later

-- it wasn't begun

pub returns-clause-promotes : goal.returns-clause-promotes
returns-clause-promotes g c honest = c.in-Err.ensures.begins honest c.args.self.entries.items

pub returns-clause-lacks : goal.returns-clause-lacks
returns-clause-lacks g c honest need room is =
    let s = c.args.self in
    let start = s.start.value.tables in
    let can = adoptable start s.end s.entries.items s.kept c.in-Some.records c.in-Some.is s.recorded s.legal in
    (c.in-Some.records.items, can.kept, inl (c.in-Err.ensures.no_room need room is).1)
