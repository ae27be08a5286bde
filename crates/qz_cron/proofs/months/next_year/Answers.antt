use Rattle.std.proofs.Common.{arith}
use Rattle.qz_cron.proofs.BitSets.{first_of_years, none_of_years}
use Rattle.qz_cron.proofs.Firsts.{first_before, none_before}
use Rattle.qz_cron.proofs.months.next_year.Goals as goal

pub returns-in_err-place-clause-first : goal.returns-in_err-place-clause-first
returns-in_err-place-clause-first c =
    rw c.from_residual.ensures (none_of_years c.args.fields.now c.args.from (λ k low high. (rw c.max.ensures at c.in_err-place.ensures.first) k low (omega arith)))

pub returns-then-place-lt-YEARS-clause-first : goal.returns-then-place-lt-YEARS-clause-first
returns-then-place-lt-YEARS-clause-first c =
    first_of_years c.args.fields.now c.args.from c.in_ok-place.place (first_before _ _ _ _ _ (rw c.max.ensures at c.in_ok-place.ensures.first) c.if-place-lt-YEARS.true)

pub returns-else-place-lt-YEARS-clause-first : goal.returns-else-place-lt-YEARS-clause-first
returns-else-place-lt-YEARS-clause-first c =
    none_of_years c.args.fields.now c.args.from (none_before _ _ _ _ _ (rw c.max.ensures at c.in_ok-place.ensures.first) c.if-place-lt-YEARS.false)
