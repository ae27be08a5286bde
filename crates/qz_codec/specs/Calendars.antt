-- The bytes of a calendar, both ways.
use Rattle.std.specs.Prelude.{ℕ, List, ◌++◌, IfSome, Ok}
use Rattle.qz_types.specs.Rows.{CalendarData}
use Rattle.qz_values.specs.declared.versions.Version.{Version}
use Rattle.qz_values.specs.Fields.{text, optional, IsName, ◌>>=◌, Read, name_at, optional_at}
use Rattle.qz_values.specs.Calendars.{calendar_kind, IsCalendarKind, calendar_kind_at}

unfoldable pub calendar_row : CalendarData → List ℕ
calendar_row c = text c.name ++ (optional text c.base ++ (text c.zone ++ calendar_kind c.kind))

pub record IsCalendarRow (version : Version) (c : CalendarData) : Type 0 where
  pub name : IsName c.name
  pub base : IfSome c.base IsName
  pub zone : IsName c.zone
  pub kind : IsCalendarKind version c.kind

unfoldable pub calendar_row_at : Version → List ℕ → Read CalendarData
calendar_row_at version bytes = do
  name ← name_at bytes
  base ← optional_at name_at name.1
  zone ← name_at base.1
  kind ← calendar_kind_at version zone.1
  Ok (record { name = name.0; base = base.0; zone = zone.0; kind = kind.0 }, kind.1)
