use Rattle.std.proofs.Common.{arith}
use Rattle.qz_tables.specs.Slots.{rows_at}
use Rattle.qz_tables.proofs.ByJobLemmas.{range-from}
use Rattle.qz_tables.proofs.Filled.{length-rows}
use Rattle.qz_tables.proofs.OnceLemmas.{filled-once}
use Rattle.qz_tables.proofs.by_job.range_of.Goals as goal

pub returns-clause-range : goal.returns-clause-range
returns-clause-range g c = range-from g.R.OfAJob.job c.args.job.now (rows_at c.args.rows.now.slots c.args.order.now) c.bound_of-low.result c.bound_of-high.result c.bound_of-low.ensures c.bound_of-high.ensures

pub returns-clause-within : goal.returns-clause-within
returns-clause-within g c = let w = c.bound_of-high.ensures.within in omega (arith, w, length-rows c.args.rows.now.slots c.args.order.now (filled-once c.args.rows.now.slots c.args.order.now c.requires.once))
