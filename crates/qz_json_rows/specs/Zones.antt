-- Zones as JSON: their tables, from which moment on which offset is kept.
use Rattle.std.specs.Prelude.{ℕ, List, [], ◌∷◌, ◌++◌, codes}
use Rattle.std.specs.Fmt.{signed_decimal}
use Rattle.qz_civil.specs.declared.stretches.Stretch.{Stretch}
use Rattle.qz_types.specs.Rows.{ZoneData}
use Rattle.qz_json_rows.specs.Json.{label, listed, more, quoted}

-- [FROM,OFFSET]
abbrev pub stretch_text : Stretch → List ℕ
stretch_text s = 91 ∷ signed_decimal s.from ++ 44 ∷ signed_decimal s.offset ++ 93 ∷ []

unfoldable pub zone_members : ZoneData → List ℕ
zone_members z = label (codes "name") ++ quoted z.name ++ more (codes "stretches") (listed stretch_text z.stretches)

abbrev pub zone_text : ZoneData → List ℕ
zone_text z = 123 ∷ zone_members z ++ 125 ∷ []
