use Rattle.std.proofs.Common.{◌+◌, ◌*◌, ◌∙◌}
use Rattle.qz_civil.specs.Calendars.{is_annual_day}
use Rattle.qz_calendar.proofs.ListLaws.{lists-found}
use Rattle.qz_calendar.proofs.listed.has_day.Goals as goal

pub returns : goal.returns
returns c =
    c.is_ok.ensures.value
    ∙ lists-found is_annual_day c.args.days.now (c.args.date.month * 100 + c.args.date.day) c.binary_search.result c.requires (rw c.as_slice.ensures at (rw (c.from.ensures, c.from-2.ensures) at c.binary_search.ensures.position))
