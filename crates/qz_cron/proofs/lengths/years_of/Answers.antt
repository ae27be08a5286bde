use Rattle.std.proofs.Common.{◌-◌, ◌∙◌, arith}
use Rattle.std.proofs.lemmas.Bool.{and_from}
use Rattle.qz_cron.proofs.LongMonths.{leap_year}
use Rattle.qz_cron.proofs.lengths.years_of.Goals as goal

pub returns-then-months-eq-FEBRUARY-clause-left : goal.returns-then-months-eq-FEBRUARY-clause-left
returns-then-months-eq-FEBRUARY-clause-left c y m range lt is long year =
    c.leap_years.ensures (y - 1970) (omega (arith, range.1))
    ∙ and_from _ _ year (leap_year y m range lt (rw c.if-months-eq-FEBRUARY.true at is) (omega arith))
