use Rattle.std.proofs.Common.{◌-◌, refl, sym, ◌∙◌, arith}
use Rattle.qz_snapshot.proofs.Orders.{not_rising, rises_more, ascending_from}
use Rattle.qz_snapshot.proofs.order.is_ascending.Goals as goal

pub returns-then-not-is_before : goal.returns-then-not-is_before
returns-then-not-is_before g c = (
  λ yes. absurd (cc),
  λ up. absurd (not_rising g.R.Id.Ord.cmp g.R.Keyed.id c.args.rows.now (c.loop-next.next - 1) c.loop-next.next c.index-rows-next.result c.index-rows-next-in-loop-next.result
      (omega arith) c.loop-next-test.true c.index-rows-next.is c.index-rows-next-in-loop-next.is (sym c.is_before.ensures ∙ c.if-not-is_before.true) up),
)

pub loop-next-preserved : goal.loop-next-preserved
loop-next-preserved g c = rises_more g.R.Id.Ord.cmp g.R.Keyed.id c.loop-next.next c.args.rows.now c.index-rows-next.result c.index-rows-next-in-loop-next.result
    c.loop-next.invariant c.loop-next-test.true c.index-rows-next.is c.index-rows-next-in-loop-next.is (sym c.is_before.ensures ∙ c.if-not-is_before.false)

pub returns : goal.returns
returns g c = (λ yes. ascending_from g.R.Id.Ord.cmp g.R.Keyed.id g.met.R.Id.Ord.total c.args.rows.now (λ k d lt. c.loop-next.invariant k d (omega (arith, lt, c.loop-next-test.false))), λ up. refl)
