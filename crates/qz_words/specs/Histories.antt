-- What the words of the call that tells what was done ask for.
use Rattle.std.specs.Prelude.{ℕ, List, [], ◌∷◌, codes, if◌then◌else◌, Option, Some, None, Result, Ok, Err}
use Rattle.std.specs.Str.{bytes_eq}
use Rattle.qz_words.specs.declared.wishes.WordFault.{WordFault}
use Rattle.qz_words.specs.declared.wishes.WordFault.TheVariants as fault
use Rattle.qz_words.specs.Counts.{wrong_count}
use Rattle.qz_words.specs.Numbers.{number_of}

abbrev pub from_of : Option ℕ → Result ℕ WordFault
from_of None = Err (fault.BadNumber 1)
from_of (Some from) = Ok from

abbrev pub history : List (List ℕ) → Result ℕ WordFault
history (from ∷ []) = from_of (number_of from)
history further = wrong_count further

-- Only the one call is known.
abbrev pub history_of : List (List ℕ) → Result ℕ WordFault
history_of [] = Err fault.UnknownCommand
history_of (word ∷ further) = if bytes_eq word (codes "history") then history further else Err fault.UnknownCommand
