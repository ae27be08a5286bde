use Rattle.std.proofs.Common.{◌+◌, ◌*◌, ◌∙◌}
use Rattle.qz_civil.specs.Calendars.{is_holiday}
use Rattle.qz_calendar.proofs.ListLaws.{lists-found}
use Rattle.qz_calendar.proofs.listed.has_date.Goals as goal

pub returns : goal.returns
returns c =
    c.is_ok.ensures.value
    ∙ lists-found is_holiday c.args.dates.now (c.args.date.year * 10000 + c.args.date.month * 100 + c.args.date.day) c.binary_search.result c.requires.ascending (rw c.as_slice.ensures at (rw (c.from.ensures, c.from-2.ensures) at c.binary_search.ensures.position))
