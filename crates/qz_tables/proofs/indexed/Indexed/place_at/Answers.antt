use Rattle.std.proofs.Common.{length, sym, ap, arith}
use Rattle.qz_tables.specs.Slots.{IsFound, IsAbsent}
use Rattle.qz_tables.proofs.Filled.{length-rows}
use Rattle.qz_tables.proofs.SlotPlaces.{place-of-row, never-absent}
use Rattle.qz_tables.proofs.indexed.Indexed.place_at.Goals as goal

pub unreachable-requires-in_default-find : goal.unreachable-requires-in_default-find
unreachable-requires-in_default-find g c =
    let absent : IsAbsent g.R.Id.Ord.cmp g.R.Keyed.id c.self.inside.rows.slots c.self.inside.order.items (g.R.Keyed.id c.in-Some.row.now) = rw (c.deref.ensures.value, c.id.ensures) at c.in_default-find.ensures.absent in
    never-absent g.R.Id.Ord.cmp g.R.Keyed.id g.met.R.Id.Ord.total c.self.inside.rows.slots c.self.inside.order.items c.args.slot c.in-Some.row.now c.self.invariant.1 c.self.invariant.0 c.self.invariant.2 (sym c.in-Some.ensures) absent

pub returns-clause-within : goal.returns-clause-within
returns-clause-within g c =
    let found : IsFound g.R.Id.Ord.cmp g.R.Keyed.id c.self.inside.rows.slots c.self.inside.order.items (g.R.Keyed.id c.in-Some.row.now) c.in-Some-find.place = rw (c.deref.ensures.value, c.id.ensures) at c.in-Some-find.ensures.found in
    let l = found.in_range in
    omega (arith, l, length-rows c.self.inside.rows.slots c.self.inside.order.items c.self.invariant.1, ap (λ v. length v.rows) c.self.view_is)

pub returns-clause-row : goal.returns-clause-row
returns-clause-row g c =
    let found : IsFound g.R.Id.Ord.cmp g.R.Keyed.id c.self.inside.rows.slots c.self.inside.order.items (g.R.Keyed.id c.in-Some.row.now) c.in-Some-find.place = rw (c.deref.ensures.value, c.id.ensures) at c.in-Some-find.ensures.found in
    rw (← c.self.view_is) (place-of-row g.R.Id.Ord.cmp g.R.Keyed.id g.met.R.Id.Ord.total c.self.inside.rows.slots c.self.inside.order.items c.args.slot c.in-Some.row.now c.self.invariant.1 c.self.invariant.0 c.self.invariant.2 (sym c.in-Some.ensures) c.in-Some-find.place found)
