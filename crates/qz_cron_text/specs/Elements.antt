-- A field: elements joined by commas.
use Rattle.std.specs.Prelude.{ℕ, ◌+◌, List, [], ◌∷◌, Some, None, Result, Ok, Err, if◌then◌else◌, Bool, ◌&&◌, ◌||◌, ◌==◌, length, bit_or, is_some, IfSome, ◌≡◌}
use Rattle.std.specs.List.{slice_split}
use Rattle.qz_civil.specs.declared.fields.Field.{Field}
use Rattle.qz_civil.specs.Fields.{number}
use Rattle.qz_cron_text.specs.declared.forms.Form.{Form}
use Rattle.qz_cron_text.specs.declared.forms.Form.TheVariants.{Values, Day, Week}
use Rattle.qz_cron_text.specs.declared.elements.Elements.{Elements}
use Rattle.qz_cron_text.specs.declared.errors.CronError.{CronError}
use Rattle.qz_cron_text.specs.declared.errors.CronError.TheVariants.{NotAlone}
use Rattle.qz_cron_text.specs.Cuts.{cut_at}
use Rattle.qz_cron_text.specs.Sets.{word_of}
use Rattle.qz_cron_text.specs.Forms.{element_of, day_fault, week_fault}

-- a value that was found is used further, and the first fault is the answer
infixl 10 ◌>>=◌
abbrev pub ◌>>=◌ : {A B : Type 0} → Result A CronError → (A → Result B CronError) → Result B CronError
(Ok x) >>= f = f x
(Err e) >>= f = Err e

-- the elements so far and one more: its values from number `from` on, or what it is besides
unfoldable pub and_form : Field → ℕ → Elements → Form → Elements
and_form field from found (Values run) = record found { word = bit_or found.word (word_of field run from) }
and_form field from found (Day form) = record found { day = Some form }
and_form field from found (Week form) = record found { week = Some form }

-- the elements from the left, up to the first fault; the first is at the place
abbrev pub all_of : Field → ℕ → ℕ → Elements → List (List ℕ) → Result Elements CronError
all_of field from at found [] = Ok found
all_of field from at found (text ∷ texts) =
    element_of field at text >>= λ form. all_of field from (at + length text + 1) (and_form field from found form) texts

-- no elements
abbrev pub none_yet : Elements
none_yet = record { word = 0; day = None; week = None }

-- the elements of a field that begins at the place
unfoldable pub elements_of : Field → ℕ → ℕ → List ℕ → Result Elements CronError
elements_of field from at text = all_of field from at none_yet (slice_split (λ b. b == 44) text)

-- some element isn't a run of values
abbrev pub has_special : Elements → Bool
has_special found = is_some found.day || is_some found.week

-- what isn't a run of values is the only element
abbrev pub alone : Field → Bool → Elements → Result Elements CronError
alone field several found = if several && has_special found then Err (NotAlone (number field)) else Ok found

-- a field: its elements, of which what isn't a run of values stands alone
unfoldable pub field_of : Field → ℕ → ℕ → List ℕ → Result Elements CronError
field_of field from at text = elements_of field from at text >>= λ found. alone field (is_some (cut_at 44 text).rest) found

-- what isn't a run of values has its numbers in range
pub record IsRight (found : Elements) : Type 0 where
  pub day : IfSome found.day (λ form. day_fault form ≡ None)
  pub week : IfSome found.week (λ form. week_fault form ≡ None)
