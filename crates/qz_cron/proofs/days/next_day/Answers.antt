use Rattle.std.proofs.Common.{Some, None, arith}
use Rattle.qz_civil.specs.declared.limits.TheConstants.{END_DAY}
use Rattle.qz_cron.specs.declared.months.TheConstants.{END_MONTH}
use Rattle.qz_cron.specs.Search.{meets_month}
use Rattle.qz_cron.proofs.Calendar.{none_at_start, meets_day-in_month, first_in_month, none_behind, none_left}
use Rattle.qz_cron.proofs.days.next_day.Goals as goal

pub loop-found-init : goal.loop-found-init
loop-found-init c = (rw c.month_of-number.ensures.value (none_at_start c.args.fields.now c.args.from), c.month_of-number.ensures.bound)

pub returns-in-Some-next_from-clause-first : goal.returns-in-Some-next_from-clause-first
returns-in-Some-next_from-clause-first c =
    let first = c.in-Some.ensures.first in
    let here = rw c.numbered-month.ensures.length at c.in-Some-next_from.ensures in
    let day = meets_day-in_month c.args.fields.now c.numbered-month.result.start c.in-Some.found c.args.from (Some c.in-Some-next_from.day) c.numbered-month.ensures.start (c.narrowed-listed.ensures.kept c.in-Some.found first.passes) here in
    first_in_month c.args.fields.now (meets_month c.narrowed-listed.result) c.args.from c.loop-found.number END_MONTH c.in-Some.found c.numbered-month.result.start c.in-Some-next_from.day END_DAY c.narrowed-listed.ensures.left c.loop-found.invariant.0 first c.numbered-month.ensures.start day
    (let high = here.high in omega (arith, c.numbered-month.result.within, c.numbered-month.result.lasts.1, c.numbered-month.ensures.length))

pub loop-found-preserved : goal.loop-found-preserved
loop-found-preserved c =
    let first = c.in-Some.ensures.first in
    let here = rw c.numbered-month.ensures.length at c.in_default-next_from.ensures in
    let day = meets_day-in_month c.args.fields.now c.numbered-month.result.start c.in-Some.found c.args.from None c.numbered-month.ensures.start (c.narrowed-listed.ensures.kept c.in-Some.found first.passes) here in
    (none_behind c.args.fields.now (meets_month c.narrowed-listed.result) c.args.from c.loop-found.number END_MONTH c.in-Some.found c.numbered-month.result.start c.narrowed-listed.ensures.left c.loop-found.invariant.0 first c.numbered-month.ensures.start day, omega (arith, c.in-Some.ensures.bound.1))

pub returns-clause-first : goal.returns-clause-first
returns-clause-first c = none_left c.args.fields.now (meets_month c.narrowed-listed.result) c.args.from c.loop-found.number END_DAY c.narrowed-listed.ensures.left c.loop-found.invariant.0 c.in_default.ensures.first
