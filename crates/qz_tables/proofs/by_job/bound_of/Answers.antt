use Rattle.std.proofs.Common.{◌+◌, ◌-◌, ◌/◌, ◌<◌, length, arith, add-one}
use Rattle.qz_tables.specs.Slots.{rows_at}
use Rattle.qz_tables.proofs.ByJobLemmas.{search-begins, search-ends, search-up, search-down}
use Rattle.qz_tables.proofs.Filled.{filled_at}
use Rattle.qz_tables.proofs.OnceLemmas.{filled-once}
use Rattle.qz_tables.proofs.by_job.bound_of.Goals as goal

pub loop-low-init : goal.loop-low-init
loop-low-init g c = record { within = omega arith; searched = search-begins g.R.OfAJob.job c.args.bound c.args.job.now c.args.rows.now.slots c.args.order.now (filled-once c.args.rows.now.slots c.args.order.now c.requires.once) }

pub is_below-requires : goal.is_below-requires
is_below-requires g c = filled_at c.args.rows.now.slots c.args.order.now _ (filled-once c.args.rows.now.slots c.args.order.now c.requires.once) (let i = c.loop-low.invariant.within in let t = c.loop-low-test.true in omega arith)

pub loop-low-preserved-then-is_below : goal.loop-low-preserved-then-is_below
loop-low-preserved-then-is_below g c =
    let middle = c.loop-low.low + (c.loop-low.high - c.loop-low.low) / 2 in
    let i = c.loop-low.invariant.within in
    let t = c.loop-low-test.true in
    let m : middle < length c.args.order.now = omega arith in
    record { within = i; searched = rw add-one (search-up g.R.OfAJob.job c.args.bound c.args.job.now c.args.rows.now.slots c.args.order.now middle (filled-once c.args.rows.now.slots c.args.order.now c.requires.once) c.requires.sorted m c.loop-low.low c.loop-low.high (omega arith) c.loop-low.invariant.searched c.if-is_below.ensures) }

pub loop-low-preserved : goal.loop-low-preserved
loop-low-preserved g c =
    let middle = c.loop-low.low + (c.loop-low.high - c.loop-low.low) / 2 in
    let i = c.loop-low.invariant.within in
    let t = c.loop-low-test.true in
    let m : middle < length c.args.order.now = omega arith in
    record { within = omega arith; searched = search-down g.R.OfAJob.job c.args.bound c.args.job.now c.args.rows.now.slots c.args.order.now middle (filled-once c.args.rows.now.slots c.args.order.now c.requires.once) c.requires.sorted m c.loop-low.low c.loop-low.high (omega arith) c.loop-low.invariant.searched c.if-is_below.ensures }

pub returns : goal.returns
returns g c = search-ends g.R.OfAJob.job c.args.bound c.args.job.now (rows_at c.args.rows.now.slots c.args.order.now) c.loop-low.low c.loop-low.high c.loop-low.invariant.searched (let t = c.loop-low-test.false in omega arith)
