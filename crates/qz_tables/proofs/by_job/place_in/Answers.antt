use Rattle.std.proofs.Common.{sym, arith}
use Rattle.qz_tables.specs.ByJob.{IsRangeOf}
use Rattle.qz_tables.specs.Slots.{rows_at}
use Rattle.qz_tables.proofs.ByJobLemmas.{in-range}
use Rattle.qz_tables.proofs.Filled.{slot_at}
use Rattle.qz_tables.proofs.OnceLemmas.{filled-once}
use Rattle.qz_tables.proofs.by_job.place_in.Goals as goal

pub loop-place-init : goal.loop-place-init
loop-place-init g c = record {
  within = (let w = c.range_of-low.ensures.within in omega (arith, w));
  from = omega arith;
  none = λ i le lt. absurd (omega arith);
}

pub returns-then-order-place : goal.returns-then-order-place
returns-then-order-place g c = slot_at c.args.order.now c.loop-place.place c.args.slot (let i = c.loop-place.invariant.within in let t = c.loop-place-test.true in omega arith) c.if-order-place.true

pub unreachable-requires-2 : goal.unreachable-requires-2
unreachable-requires-2 g c =
    let range : IsRangeOf g.R.OfAJob.job (g.R.OfAJob.job c.in-Some.row.now) (rows_at c.args.rows.now.slots c.args.order.now) c.range_of-low.result.0 c.range_of-low.result.1 = rw c.job.ensures at c.range_of-low.ensures.range in
    let h = in-range g.R.OfAJob.job c.args.rows.now.slots c.args.order.now c.args.slot c.in-Some.row.now c.range_of-low.result.0 c.range_of-low.result.1 (filled-once c.args.rows.now.slots c.args.order.now c.requires.once) c.requires.once (sym c.in-Some.ensures) range in
    c.loop-place.invariant.none h.0 h.1 (let t = c.loop-place-test.false in let l = h.2 in omega arith) h.3
