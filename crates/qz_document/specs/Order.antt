-- Which of the two lists that have cron texts stands first in a document's text. The JSON value that `serde_json` gives
-- doesn't keep the order of members; the one of `json` does.
use Rattle.std.specs.Prelude.{ℕ, List, [], ◌∷◌, Bool, false, not, ◌&&◌, ◌||◌, if◌then◌else◌, Option, Some, None, option_and_then, codes}
use Rattle.std.specs.List.{list_any}
use Rattle.std.specs.Str.{is_utf8}
use Rattle.json.specs.Json.{Members, no_members, member, document}
use Rattle.json.specs.Find.{as_object}
use Rattle.qz_job_json.specs.Members.{is_text}

abbrev pub names_of : Members → List (List ℕ)
names_of no_members = []
names_of (member name value rest) = name ∷ names_of rest

abbrev pub names_if : Option Members → List (List ℕ)
names_if None = []
names_if (Some members) = names_of members

-- the names of the members of the object that the bytes are, in the order of the text
abbrev pub names_in_text : List ℕ → List (List ℕ)
names_in_text bytes = if is_utf8 bytes then names_if (option_and_then as_object (document bytes)) else []

abbrev pub is_calendars : List ℕ → Bool
is_calendars name = is_text name (codes "calendars")

abbrev pub is_triggers : List ℕ → Bool
is_triggers name = is_text name (codes "triggers")

-- Some `calendars` has no `triggers` behind it. Of a member that comes twice the last counts, so the triggers of the
-- document stand before its calendars.
abbrev pub triggers_first : List (List ℕ) → Bool
triggers_first [] = false
triggers_first (name ∷ names) = triggers_first names || (is_calendars name && not (list_any is_triggers names))
