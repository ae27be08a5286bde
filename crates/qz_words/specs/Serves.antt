-- What the words of a call on the system's clock ask for.
use Rattle.std.specs.Prelude.{ℕ, ◌≤◌, pos, ◌≤ℤ◌, List, [], ◌∷◌, codes, Bool, true, not, int_le, if◌then◌else◌, Option, Some, None, Result, Ok, Err, IfSome}
use Rattle.std.specs.Str.{bytes_eq}
use Rattle.qz_civil.specs.declared.limits.TheConstants.{LAST}
use Rattle.qz_words.specs.declared.running.TheConstants.{NODE_LIMIT}
use Rattle.qz_words.specs.declared.serves.Serving.{Serving}
use Rattle.qz_words.specs.declared.serves.TheConstants.{LOOK_LIMIT}
use Rattle.qz_words.specs.declared.wishes.WordFault.{WordFault}
use Rattle.qz_words.specs.declared.wishes.WordFault.TheVariants as fault
use Rattle.qz_words.specs.Counts.{wrong_count}
use Rattle.qz_words.specs.Numbers.{number_of}
use Rattle.qz_words.specs.Running.{is_from_1_to}

-- no looks, or 1 to 1000 of them
abbrev pub are_few_looks : Option ℕ → Bool
are_few_looks None = true
are_few_looks (Some looks) = is_from_1_to LOOK_LIMIT looks

-- 1 to 16 nodes, a moment from 0 to LAST, and so many looks
abbrev pub serve_in_range : ℕ → ℕ → Option ℕ → Result Serving WordFault
serve_in_range nodes end looks =
    if not (is_from_1_to NODE_LIMIT nodes) then Err (fault.OutOfRange 1)
    else if not (int_le (pos end) LAST) then Err (fault.OutOfRange 2)
    else if not (are_few_looks looks) then Err (fault.OutOfRange 3)
    else Ok (record { nodes = nodes; until = pos end; looks = looks })

-- so many looks, if that is a number
abbrev pub some_looks : Option ℕ → Option (Option ℕ)
some_looks None = None
some_looks (Some looks) = Some (Some looks)

abbrev pub serve_of : Option ℕ → Option ℕ → Option (Option ℕ) → Result Serving WordFault
serve_of None end looks = Err (fault.BadNumber 1)
serve_of (Some nodes) None looks = Err (fault.BadNumber 2)
serve_of (Some nodes) (Some end) None = Err (fault.BadNumber 3)
serve_of (Some nodes) (Some end) (Some looks) = serve_in_range nodes end looks

-- the number of looks may be left out
abbrev pub serve : List (List ℕ) → Result Serving WordFault
serve (nodes ∷ end ∷ []) = serve_of (number_of nodes) (number_of end) (Some None)
serve (nodes ∷ end ∷ looks ∷ []) = serve_of (number_of nodes) (number_of end) (some_looks (number_of looks))
serve further = wrong_count further

-- Only the one call is known.
abbrev pub serving_of : List (List ℕ) → Result Serving WordFault
serving_of [] = Err fault.UnknownCommand
serving_of (word ∷ further) = if bytes_eq word (codes "serve") then serve further else Err fault.UnknownCommand

-- its numbers are in their ranges
abbrev pub IsServing : Serving → Type 0
IsServing s = (1 ≤ s.nodes) × (s.nodes ≤ NODE_LIMIT) × (pos 0 ≤ℤ s.until) × (s.until ≤ℤ LAST) × IfSome s.looks (λ looks. (1 ≤ looks) × (looks ≤ LOOK_LIMIT))
