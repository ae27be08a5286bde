-- The bytes of a zone, both ways.
use Rattle.std.specs.Prelude.{ℕ, List, ◌++◌, Ok}
use Rattle.qz_civil.specs.declared.limits.TheConstants.{STRETCH_LIMIT}
use Rattle.qz_types.specs.Rows.{ZoneData}
use Rattle.qz_values.specs.declared.versions.Version.{Version}
use Rattle.qz_values.specs.Fields.{text, IsName, ◌>>=◌, Read, name_at}
use Rattle.qz_values.specs.Lists.{list, list_at}
use Rattle.qz_values.specs.Zones.{stretch, IsTable, next_stretch_at}

unfoldable pub zone_row : ZoneData → List ℕ
zone_row z = text z.name ++ list stretch z.stretches

pub record IsZoneRow (version : Version) (z : ZoneData) : Type 0 where
  pub name : IsName z.name
  pub stretches : IsTable version z.stretches

unfoldable pub zone_row_at : Version → List ℕ → Read ZoneData
zone_row_at version bytes = do
  name ← name_at bytes
  stretches ← list_at 1 STRETCH_LIMIT (next_stretch_at version) name.1
  Ok (record { name = name.0; stretches = stretches.0 }, stretches.1)
