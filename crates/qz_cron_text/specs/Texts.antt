-- A text: fields joined by blanks.
use Rattle.std.specs.Prelude.{ℕ, ◌+◌, List, [], ◌∷◌, Option, Some, None, Result, Ok, Err, if◌then◌else◌, Bool, ◌||◌, ◌==◌, nat_eq, length}
use Rattle.std.specs.List.{slice_split}
use Rattle.qz_cron_text.specs.declared.errors.CronError.{CronError}
use Rattle.qz_cron_text.specs.declared.errors.CronError.TheVariants.{FieldCount}
use Rattle.qz_cron_text.specs.Errors.{u32_of}

-- a space or a tab
abbrev pub is_blank : ℕ → Bool
is_blank b = (b == 32) || (b == 9)

-- a field and its place in the text
pub record Placed : Type 0 where
  pub at : ℕ
  pub text : List ℕ

-- those that aren't empty, of pieces with one blank between any two, of which the first is at the place
abbrev pub placed : ℕ → List (List ℕ) → List Placed
placed at [] = []
placed at (piece ∷ pieces) =
    if nat_eq (length piece) 0 then placed (at + 1) pieces
    else record { at = at; text = piece } ∷ placed (at + length piece + 1) pieces

-- the fields of a text that begins at the place
unfoldable pub fields_at : ℕ → List ℕ → List Placed
fields_at at text = placed at (slice_split is_blank text)

-- the six or seven fields of a text
pub record Whole : Type 0 where
  pub seconds : Placed
  pub minutes : Placed
  pub hours : Placed
  pub day : Placed
  pub months : Placed
  pub week : Placed
  pub years : Option Placed

abbrev pub six_and : Option Placed → Placed → Placed → Placed → Placed → Placed → Placed → Whole
six_and y a b c d e f = record { seconds = a; minutes = b; hours = c; day = d; months = e; week = f; years = y }

-- six or seven, or else how many
abbrev pub whole_by : ℕ → List Placed → Result Whole CronError
whole_by found (a ∷ b ∷ c ∷ d ∷ e ∷ f ∷ []) = Ok (six_and None a b c d e f)
whole_by found (a ∷ b ∷ c ∷ d ∷ e ∷ f ∷ g ∷ []) = Ok (six_and (Some g) a b c d e f)
whole_by found _ = Err (FieldCount found)

unfoldable pub whole_of : List ℕ → Result Whole CronError
whole_of text = whole_by (u32_of (length (fields_at 0 text))) (fields_at 0 text)
