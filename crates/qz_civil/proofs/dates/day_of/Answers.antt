-- A date has its library's number, and an unknown or earlier one is no day's.
use Rattle.std.proofs.Common.{◌≤◌, subst, arith, rules}
use Rattle.jiff_core.proofs.SignedLemmas.{signed_arith}
use Rattle.qz_civil.specs.Dates.{IsDate}
use Rattle.qz_civil.proofs.DateLemmas.{date_of-valid, date_of-number, date_of-earlier, year-bound}
use Rattle.qz_civil.proofs.dates.day_of.Goals as goal

pub returns-then-not-is_known-clause-none : goal.returns-then-not-is_known-clause-none
returns-then-not-is_known-clause-none c day h e =
    let valid : IsDate c.args.date = subst IsDate e (date_of-valid day) in
    let year : c.args.date.year ≤ 9999 = subst (λ d. d.year ≤ 9999) e (year-bound day h) in
    let known = c.is_known.ensures.1 (valid, year) in
    let test = c.if-not-is_known.true in
    cc

pub returns-then-number-ltminus1-clause-none : goal.returns-then-number-ltminus1-clause-none
returns-then-number-ltminus1-clause-none c day h e = date_of-earlier day c.args.date (omega (arith, signed_arith, c.epoch_day_of-number.ensures.value)) e

pub returns-clause-found : goal.returns-clause-found
returns-clause-found c =
    let valid : IsDate c.args.date × (c.args.date.year ≤ 9999) = search (rules, c.is_known.ensures, c.if-not-is_known.false) in
    date_of-number c.day_numbered.result c.args.date c.day_numbered.ensures.bound valid.0 valid.1 (omega (arith, signed_arith, c.epoch_day_of-number.ensures.value, c.day_numbered.ensures.value))
