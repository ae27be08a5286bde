use Rattle.qz_tables.proofs.YearLaws.{calendar_again}
use Rattle.qz_tables.proofs.edits.YearChangeEditCalendarRow.edit.Goals as goal

pub invariant_of-row : goal.invariant_of-row
invariant_of-row c =
    calendar_again c.args.self.now c.requires (record { name = c.row.inside.name; base = c.row.inside.base; zone = c.row.inside.zone; kind = c.row.inside.kind }) _ c.change_calendar_kind.ensures c.row.invariant
