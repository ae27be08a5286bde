use Rattle.std.proofs.Common.{length, ap, arith}
use Rattle.qz_types.specs.Sorted.{put}
use Rattle.qz_tables.specs.Slots.{rows_at}
use Rattle.qz_types.proofs.SortedLemmas.{place_le}
use Rattle.qz_tables.proofs.Filled.{length-rows}
use Rattle.qz_tables.proofs.SlotEdits.{inserted}
use Rattle.qz_tables.proofs.indexed.Indexed.insert.Goals as goal
use Rattle.std.specs.Prelude.{◌≤◌}
use Rattle.qz_tables.proofs.OnceLemmas.{once-insert}

pub insert-requires : goal.insert-requires
insert-requires g c =
    let e = length-rows c.self.inside.rows.slots c.self.inside.order.items c.self.invariant.1 in
    let l = place_le g.R.Id.Ord.cmp g.R.Keyed.id c.id.result.now (rows_at c.self.inside.rows.slots c.deref.result.now) in
    let p = c.place-at.ensures in
    let v = c.deref.ensures.value in
    let w = c.deref.ensures.len in
    let n = ap (λ xs. length (rows_at c.self.inside.rows.slots xs)) v in
    let m = ap length v in
    omega arith

pub invariant_of-self : goal.invariant_of-self
invariant_of-self g c =
    let i = inserted g.R.Id.Ord.cmp g.R.Keyed.id g.met.R.Id.Ord.total c.self.inside.rows.slots c.insert_reserved-slot.new.self.slots c.self.inside.order.items c.place-at.result c.insert_reserved-slot.result c.args.row
    c.self.invariant.1 c.self.invariant.0 (rw (c.deref.ensures.value, c.id.ensures) at c.place-at.ensures) (rw (← c.self.view_is) at c.requires.absent) c.insert_reserved-slot.ensures.was_vacant c.insert_reserved-slot.ensures.updates.changed c.insert_reserved-slot.ensures.updates.others in
    let e = length-rows c.self.inside.rows.slots c.self.inside.order.items c.self.invariant.1 in
    let l = place_le g.R.Id.Ord.cmp g.R.Keyed.id c.id.result.now (rows_at c.self.inside.rows.slots c.deref.result.now) in
    let p = c.place-at.ensures in
    let v = c.deref.ensures.value in
    let n = ap (λ xs. length (rows_at c.self.inside.rows.slots xs)) v in
    let le : c.place-at.result ≤ length c.self.inside.order.items = omega arith in
    let o = once-insert c.self.inside.rows.slots c.insert_reserved-slot.new.self.slots c.self.inside.order.items c.insert_reserved-slot.result c.place-at.result c.self.invariant.2 c.args.row c.insert_reserved-slot.ensures.was_vacant c.insert_reserved-slot.ensures.updates.changed c.insert_reserved-slot.ensures.updates.others le in
    rw c.in-Ok.ensures.items (i.ascending, i.filled, o)

pub returns-clause-rows : goal.returns-clause-rows
returns-clause-rows g c =
    let i = inserted g.R.Id.Ord.cmp g.R.Keyed.id g.met.R.Id.Ord.total c.self.inside.rows.slots c.insert_reserved-slot.new.self.slots c.self.inside.order.items c.place-at.result c.insert_reserved-slot.result c.args.row
    c.self.invariant.1 c.self.invariant.0 (rw (c.deref.ensures.value, c.id.ensures) at c.place-at.ensures) (rw (← c.self.view_is) at c.requires.absent) c.insert_reserved-slot.ensures.was_vacant c.insert_reserved-slot.ensures.updates.changed c.insert_reserved-slot.ensures.updates.others in
    rw (c.in-Ok.ensures.items, i.rows) (ap (λ v. put g.R.Id.Ord.cmp g.R.Keyed.id c.args.row v.rows) c.self.view_is)
