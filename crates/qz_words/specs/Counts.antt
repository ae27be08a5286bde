-- A wrong number of words.
use Rattle.std.specs.Prelude.{ℕ, ◌-◌, ◌^◌, min, List, length, Result, Err}
use Rattle.qz_words.specs.declared.wishes.WordFault.{WordFault}
use Rattle.qz_words.specs.declared.wishes.WordFault.TheVariants as fault

-- how many words come after the first, as far as the fault can tell
abbrev pub count_fault : List (List ℕ) → WordFault
count_fault further = fault.WrongCount (min (length further) (2 ^ 32 - 1))

abbrev pub wrong_count : {A : Type 0} → List (List ℕ) → Result A WordFault
wrong_count further = Err (count_fault further)
