use Rattle.std.proofs.Common.{◌≤◌, ◌<◌, length, arith}
use Rattle.std.proofs.lemmas.Grind.{common_steps}
use Rattle.qz_tables.specs.Slots.{rows_at}
use Rattle.qz_types.proofs.SortedLemmas.{place_le}
use Rattle.qz_tables.proofs.Filled.{length-rows, filled_at}
use Rattle.qz_tables.proofs.SlotEdits.{found, absent, absent_end}
use Rattle.qz_tables.proofs.indexed.find.Goals as goal

pub returns-then-at-order-clause-absent : goal.returns-then-at-order-clause-absent
returns-then-at-order-clause-absent g c = absent_end g.R.Id.Ord.cmp g.R.Keyed.id g.met.R.Id.Ord.total c.args.rows.now.slots c.args.order.now c.args.id.now _ c.requires.filled c.place-at.ensures c.if-at-order.true

pub offset_bounds-order-at : goal.offset_bounds-order-at
offset_bounds-order-at g c =
    let e = length-rows c.args.rows.now.slots c.args.order.now c.requires.filled in
    let l = place_le g.R.Id.Ord.cmp g.R.Keyed.id c.args.id.now (rows_at c.args.rows.now.slots c.args.order.now) in
    let p = c.place-at.ensures in
    let n : c.place-at.result ≤ length c.args.order.now = omega arith in
    grind (arith, common_steps)

pub bounds-order-at : goal.bounds-order-at
bounds-order-at g c =
    let e = length-rows c.args.rows.now.slots c.args.order.now c.requires.filled in
    let l = place_le g.R.Id.Ord.cmp g.R.Keyed.id c.args.id.now (rows_at c.args.rows.now.slots c.args.order.now) in
    let p = c.place-at.ensures in
    let d = c.if-at-order.false in
    omega arith

pub is_at-requires : goal.is_at-requires
is_at-requires g c =
    let e = length-rows c.args.rows.now.slots c.args.order.now c.requires.filled in
    let l = place_le g.R.Id.Ord.cmp g.R.Keyed.id c.args.id.now (rows_at c.args.rows.now.slots c.args.order.now) in
    let p = c.place-at.ensures in
    let d = c.if-at-order.false in
    filled_at c.args.rows.now.slots c.args.order.now _ c.requires.filled (omega arith)

pub returns-then-is_at-clause-found : goal.returns-then-is_at-clause-found
returns-then-is_at-clause-found g c =
    let e = length-rows c.args.rows.now.slots c.args.order.now c.requires.filled in
    let l = place_le g.R.Id.Ord.cmp g.R.Keyed.id c.args.id.now (rows_at c.args.rows.now.slots c.args.order.now) in
    let p = c.place-at.ensures in
    let d = c.if-at-order.false in
    let n : c.place-at.result < length c.args.order.now = omega arith in
    found g.R.Id.Ord.cmp g.R.Keyed.id g.met.R.Id.Ord.total c.args.rows.now.slots c.args.order.now c.args.id.now _ c.requires.filled c.place-at.ensures n c.if-is_at.ensures

pub returns-else-is_at-clause-absent : goal.returns-else-is_at-clause-absent
returns-else-is_at-clause-absent g c =
    let e = length-rows c.args.rows.now.slots c.args.order.now c.requires.filled in
    let l = place_le g.R.Id.Ord.cmp g.R.Keyed.id c.args.id.now (rows_at c.args.rows.now.slots c.args.order.now) in
    let p = c.place-at.ensures in
    let d = c.if-at-order.false in
    let n : c.place-at.result < length c.args.order.now = omega arith in
    absent g.R.Id.Ord.cmp g.R.Keyed.id g.met.R.Id.Ord.total c.args.rows.now.slots c.args.order.now c.args.id.now _ c.requires.filled c.requires.ascending c.place-at.ensures n c.if-is_at.ensures
