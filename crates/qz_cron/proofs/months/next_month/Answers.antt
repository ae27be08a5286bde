use Rattle.std.proofs.Common.{◌/◌, arith}
use Rattle.qz_civil.specs.Fields.{has_bit, in_years}
use Rattle.qz_cron.specs.declared.months.TheConstants.{END_YEAR}
use Rattle.qz_cron.proofs.BitSets.{month-range, year-range, has_year}
use Rattle.qz_cron.proofs.Parts.{first_here}
use Rattle.qz_cron.proofs.months.next_month.Goals as goal

pub returns-in-Some-clause-first : goal.returns-in-Some-clause-first
returns-in-Some-clause-first c =
    let first = rw (c.has_year.ensures, c.from-months.ensures) at c.in-Some.ensures.first in
    first_here 12 (in_years c.args.fields.now) (has_bit c.args.fields.now.months) c.args.from END_YEAR c.in-Some.low (omega arith) (has_year c.args.fields.now (c.args.from / 12) _ first.passes) first

pub returns-in-Some-clause-bound : goal.returns-in-Some-clause-bound
returns-in-Some-clause-bound c = month-range c.args.fields.now _ (returns-in-Some-clause-first c).passes

pub returns-clause-bound : goal.returns-clause-bound
returns-clause-bound c =
    let year = year-range c.args.fields.now c.in_ok-high.high c.in_ok-high.ensures.first.passes in
    let low = c.in_ok-low.ensures.bound in
    omega (arith, year.0, year.1)
