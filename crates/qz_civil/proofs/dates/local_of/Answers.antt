-- A civil time comes from its parts, and one with a wrong weekday from no number of milliseconds.
use Rattle.std.proofs.Common.{◌≡◌, ◌∙◌, sym, rules}
use Rattle.qz_civil.specs.Dates.{date_of, date_part, weekday_of, IsInRanges}
use Rattle.qz_civil.proofs.DateLemmas.{civil_of-weekday, civil_of-parts}
use Rattle.qz_civil.proofs.dates.local_of.Goals as goal

pub returns-then-civil-weekday_of-clause-none : goal.returns-then-civil-weekday_of-clause-none
returns-then-civil-weekday_of-clause-none c local below e =
    let date : date_of c.in_ok-day.day ≡ date_part c.args.civil = c.in_ok-day.ensures.found ∙ c.date_part.ensures in
    let real = civil_of-weekday local c.in_ok-day.day c.args.civil date e in
    absurd (c.if-civil-weekday_of.true (real ∙ sym c.weekday_of.ensures))

pub returns-clause-found : goal.returns-clause-found
returns-clause-found c =
    let ranges : IsInRanges c.args.civil = search (rules, c.is_in_range.ensures, c.if-not-is_in_range.false) in
    let date : date_of c.in_ok-day.day ≡ date_part c.args.civil = c.in_ok-day.ensures.found ∙ c.date_part.ensures in
    let weekday : c.args.civil.weekday ≡ weekday_of c.in_ok-day.day = c.if-civil-weekday_of.false ∙ c.weekday_of.ensures in
    rw (c.from.ensures, c.from-2.ensures, c.from-3.ensures) (civil_of-parts c.args.civil c.in_ok-day.day ranges date weekday)
