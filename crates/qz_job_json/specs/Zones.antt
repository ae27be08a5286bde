-- The zones of lines: their tables, and their rules. None is a value of another shape, or one that gives no zone.
use Rattle.std.specs.Prelude.{ℤ, pos, negsuc, List, [], ◌∷◌, Bool, if◌then◌else◌, is_none, is_some, Option, Some, None, option_and_then, codes}
use Rattle.serde_json.specs.Data.{Data, Items, no_items, item}
use Rattle.serde_json.specs.Find.{at, as_array, as_str, get}
use Rattle.qz_civil.specs.declared.stretches.Stretch.{Stretch}
use Rattle.qz_civil.specs.Zones.{bad_zone}
use Rattle.qz_zone_rule.specs.Tables.{rule_table}
use Rattle.qz_job_json.specs.Members.{kept, both, integer_of, integer_in}

abbrev pub make_stretch : ℤ → ℤ → Stretch
make_stretch from offset = record { from = from; offset = offset }

-- a number of 32 bits
abbrev pub offset_of : Data → Option ℤ
offset_of d = integer_in (negsuc 2147483647) (pos 2147483647) d

-- a list of just the two numbers
unfoldable pub stretch_of : Data → Option Stretch
stretch_of d =
    if is_none (at 2 d)
    then both make_stretch (option_and_then integer_of (at 0 d)) (option_and_then offset_of (at 1 d))
    else None

abbrev pub stretches_of : Items → Option (List Stretch)
stretches_of no_items = Some []
stretches_of (item d ds) = both (λ s rest. s ∷ rest) (stretch_of d) (stretches_of ds)

abbrev pub is_zone : List Stretch → Bool
is_zone stretches = is_none (bad_zone stretches)

-- these are the stretches of a zone
abbrev pub is_table : Items → Bool
is_table items = is_some (kept is_zone (stretches_of items))

abbrev pub zone_of : Data → Option (List Stretch)
zone_of d = kept is_zone (option_and_then stretches_of (as_array d))

-- the zone of a rule text
abbrev pub rule_zone_of : Data → Option (List Stretch)
rule_zone_of d = kept is_zone (option_and_then rule_table (as_str d))

-- a zone is given by its table or by its rule, and by one of them alone
abbrev pub zone_by : Option Data → Option Data → Option (List Stretch)
zone_by (Some table) None = zone_of table
zone_by None (Some rule) = rule_zone_of rule
zone_by None None = None
zone_by (Some table) (Some rule) = None

abbrev pub zone_given : Data → Option (List Stretch)
zone_given d = zone_by (get (codes "stretches") d) (get (codes "rule") d)
