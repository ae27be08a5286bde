use Rattle.std.proofs.Common.{◌-◌, not, sym, ap, ◌∙◌, arith}
use Rattle.qz_tables.proofs.BulkLemmas.{filtered_from, from-end, stays, goes, goes-within}
use Rattle.qz_tables.proofs.indexed.Indexed.remove_all.Goals as goal

pub loop-place-init : goal.loop-place-init
loop-place-init g c = record {
  within = omega (arith, c.len-place.ensures);
  rows = sym (ap (λ k. filtered_from (λ r. not (g.T.Test.test c.args.test.now r)) k c.args.self.now.rows) c.len-place.ensures ∙ from-end (λ r. not (g.T.Test.test c.args.test.now r)) c.args.self.now.rows);
  spare = omega arith;
}

pub take_nth-requires : goal.take_nth-requires
take_nth-requires g c = goes-within (g.T.Test.test c.args.test.now) c.args.self.now.rows c.loop-place.self.rows c.loop-place.place (c.loop-place.place - 1) (omega (arith, c.loop-place-test.true)) (omega (arith, c.loop-place-test.true, c.loop-place.invariant.within)) c.loop-place.invariant.rows

pub loop-place-preserved-then-passes_nth : goal.loop-place-preserved-then-passes_nth
loop-place-preserved-then-passes_nth g c = record {
  within = omega (arith, c.loop-place.invariant.within);
  rows = c.take_nth.ensures.rows ∙ goes (g.T.Test.test c.args.test.now) c.args.self.now.rows c.loop-place.self.rows c.loop-place.place (c.loop-place.place - 1) (omega (arith, c.loop-place-test.true)) (omega (arith, c.loop-place-test.true, c.loop-place.invariant.within)) c.loop-place.invariant.rows c.if-passes_nth.ensures;
  spare = omega (arith, c.loop-place.invariant.spare, c.take_nth.ensures.spare);
}

pub loop-place-preserved : goal.loop-place-preserved
loop-place-preserved g c = record {
  within = omega (arith, c.loop-place.invariant.within);
  rows = stays (g.T.Test.test c.args.test.now) c.args.self.now.rows c.loop-place.self.rows c.loop-place.place (c.loop-place.place - 1) (omega (arith, c.loop-place-test.true)) (omega (arith, c.loop-place-test.true, c.loop-place.invariant.within)) c.loop-place.invariant.rows c.if-passes_nth.ensures;
  spare = c.loop-place.invariant.spare;
}
