use Rattle.std.proofs.Common.{◌+◌, ◌-◌, ◌/◌, ◌<◌, length, arith}
use Rattle.qz_tables.specs.Slots.{rows_at}
use Rattle.qz_types.proofs.SortedLemmas.{place_le}
use Rattle.qz_tables.proofs.Filled.{length-rows, filled_at}
use Rattle.qz_tables.proofs.SlotEdits.{further, not_further}
use Rattle.qz_tables.proofs.indexed.place.Goals as goal

pub loop-low-init : goal.loop-low-init
loop-low-init g c =
    let e = length-rows c.args.rows.now.slots c.args.order.now c.requires.filled in
    let l = place_le g.R.Id.Ord.cmp g.R.Keyed.id c.args.id.now (rows_at c.args.rows.now.slots c.args.order.now) in
    record { above = omega arith; below = omega arith; within = omega arith }

pub is_after-requires : goal.is_after-requires
is_after-requires g c = filled_at c.args.rows.now.slots c.args.order.now _ c.requires.filled (let i = c.loop-low.invariant in let t = c.loop-low-test.true in omega arith)

pub loop-low-preserved-then-is_after : goal.loop-low-preserved-then-is_after
loop-low-preserved-then-is_after g c =
    let middle = c.loop-low.low + (c.loop-low.high - c.loop-low.low) / 2 in
    let i = c.loop-low.invariant in
    let t = c.loop-low-test.true in
    let m : middle < length c.args.order.now = omega arith in
    let l = further g.R.Id.Ord.cmp g.R.Keyed.id g.met.R.Id.Ord.total c.args.rows.now.slots c.args.order.now c.args.id.now middle c.requires.filled c.requires.ascending m c.if-is_after.ensures in
    record { above = omega arith; below = i.below; within = i.within }

pub loop-low-preserved : goal.loop-low-preserved
loop-low-preserved g c =
    let middle = c.loop-low.low + (c.loop-low.high - c.loop-low.low) / 2 in
    let i = c.loop-low.invariant in
    let t = c.loop-low-test.true in
    let m : middle < length c.args.order.now = omega arith in
    let l = not_further g.R.Id.Ord.cmp g.R.Keyed.id g.met.R.Id.Ord.total c.args.rows.now.slots c.args.order.now c.args.id.now middle c.requires.filled m c.if-is_after.ensures in
    record { above = i.above; below = l; within = omega arith }
