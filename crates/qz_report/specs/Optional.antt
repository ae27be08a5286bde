-- How values are printed that may be missing.
use Rattle.std.specs.Prelude.{ℕ, ℤ, List, Option, Some, None, codes}
use Rattle.std.specs.Fmt.{signed_decimal}
use Rattle.qz_report.specs.Names.{escaped}

-- a time, if there is one
abbrev pub next_text : Option ℤ → List ℕ
next_text None = codes "none"
next_text (Some next) = signed_decimal next

-- a name, if there is one
abbrev pub optional_name_text : Option (List ℕ) → List ℕ
optional_name_text None = codes "none"
optional_name_text (Some name) = escaped name
