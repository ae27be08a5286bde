use Rattle.std.proofs.Common.{sym, ◌∙◌}
use Rattle.qz_valid.specs.declared.keys.Counted.TheVariants.{Acquired, Exclusive}
use Rattle.qz_valid.proofs.Deciding.{refused}
use Rattle.qz_valid.proofs.Doubles.{twice_acquired, twice_exclusive}
use Rattle.qz_valid.proofs.LimitTests.{limits_decided}
use Rattle.qz_valid.proofs.Sets.{counts_of, twice_of}
use Rattle.qz_valid.proofs.Whole.{past_limits, unfit, told}
use Rattle.qz_valid.proofs.valid.are_valid.Goals as goal

pub returns-then-not-are_within_limits : goal.returns-then-not-are_within_limits
returns-then-not-are_within_limits c = refused (past_limits c.args.tables.now.tables (sym c.are_within_limits.ensures ∙ c.if-not-are_within_limits.true))

pub returns-in_default : goal.returns-in_default
returns-in_default c = refused (λ v. twice_acquired c.args.tables.now.tables.triggers c.args.tables.now.tables.fired
    (twice_of Acquired c.args.tables.now.tables.fired c.in_ok-acquired.field-0 c.in_ok-acquired.ensures.twice c.in_default.is) v.acquired_match)

pub returns-in_default-2 : goal.returns-in_default-2
returns-in_default-2 c = refused (λ v. twice_exclusive c.args.tables.now.tables.fired
    (twice_of Exclusive c.args.tables.now.tables.fired c.in_ok-exclusive.field-0 c.in_ok-exclusive.ensures.twice c.in_default-2.is) v.one_exclusive.one)

pub returns-then-not-rows_fit : goal.returns-then-not-rows_fit
returns-then-not-rows_fit c = refused (unfit c.args.tables.now.tables c.in-Some.acquired c.in-Some-2.exclusive
    (counts_of Acquired c.args.tables.now.tables.fired c.in_ok-acquired.field-0 c.in-Some.acquired c.in_ok-acquired.ensures.once c.in-Some.is)
    (counts_of Exclusive c.args.tables.now.tables.fired c.in_ok-exclusive.field-0 c.in-Some-2.exclusive c.in_ok-exclusive.ensures.once c.in-Some-2.is)
    (sym c.rows_fit.ensures ∙ c.if-not-rows_fit.true))

pub returns : goal.returns
returns c = told c.args.tables.now.tables c.in-Some.acquired c.in-Some-2.exclusive
    (counts_of Acquired c.args.tables.now.tables.fired c.in_ok-acquired.field-0 c.in-Some.acquired c.in_ok-acquired.ensures.once c.in-Some.is)
    (counts_of Exclusive c.args.tables.now.tables.fired c.in_ok-exclusive.field-0 c.in-Some-2.exclusive c.in_ok-exclusive.ensures.once c.in-Some-2.is)
    c.are_ordered.ensures ((limits_decided c.args.tables.now.tables).0 (sym c.are_within_limits.ensures ∙ c.if-not-are_within_limits.false))
    (sym c.rows_fit.ensures ∙ c.if-not-rows_fit.false) c.are_apart.result c.are_apart.ensures
