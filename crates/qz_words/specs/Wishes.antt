-- What the words of the command line ask for. Of several faults the first in the order of WordFault is meant, and of two
-- of one kind the one further left.
use Rattle.std.specs.Prelude.{⊤, ℕ, ◌≤◌, pos, ◌≤ℤ◌, List, [], ◌∷◌, codes, ◌&&◌, not, nat_le, int_le, if◌then◌else◌, Option, Some, None, Result, Ok, Err}
use Rattle.std.specs.Str.{bytes_eq}
use Rattle.qz_civil.specs.declared.limits.TheConstants.{LAST}
use Rattle.qz_words.specs.declared.wishes.TheConstants.{COUNT_LIMIT}
use Rattle.qz_words.specs.declared.wishes.Wish.{Wish}
use Rattle.qz_words.specs.declared.running.TheConstants.{NODE_LIMIT, BUDGET_LIMIT, JOB_LIMIT, DAY_LIMIT}
use Rattle.qz_words.specs.declared.wishes.Wish.TheVariants.{Own, Init, Script, Load, List as ListAll, Migrate, Follow, Compact, Times, Run, Gen}
use Rattle.qz_words.specs.declared.wishes.WordFault.{WordFault}
use Rattle.qz_words.specs.declared.wishes.WordFault.TheVariants as fault
use Rattle.qz_words.specs.Numbers.{number_of}
use Rattle.qz_words.specs.Counts.{wrong_count}
use Rattle.qz_words.specs.Running.{run, generate}

-- the wish of a call that has no further words
abbrev pub alone : Wish → List (List ℕ) → Result Wish WordFault
alone wish [] = Ok wish
alone wish (w ∷ ws) = wrong_count (w ∷ ws)

-- a moment from 0 to LAST, and how many times, from 1 to 1000
abbrev pub in_range : ℕ → ℕ → Result Wish WordFault
in_range after count =
    if not (int_le (pos after) LAST) then Err (fault.OutOfRange 1)
    else (if nat_le 1 count && nat_le count COUNT_LIMIT then Ok (Times (pos after) count) else Err (fault.OutOfRange 2))

abbrev pub of_numbers : Option ℕ → Option ℕ → Result Wish WordFault
of_numbers None count = Err (fault.BadNumber 1)
of_numbers (Some after) None = Err (fault.BadNumber 2)
of_numbers (Some after) (Some count) = in_range after count

abbrev pub times : List (List ℕ) → Result Wish WordFault
times (after ∷ count ∷ []) = of_numbers (number_of after) (number_of count)
times further = wrong_count further

abbrev pub wish_of : List (List ℕ) → Result Wish WordFault
wish_of [] = Ok Own
wish_of (word ∷ further) =
    if bytes_eq word (codes "init") then alone Init further
    else if bytes_eq word (codes "script") then alone Script further
    else if bytes_eq word (codes "load") then alone Load further
    else if bytes_eq word (codes "list") then alone ListAll further
    else if bytes_eq word (codes "migrate") then alone Migrate further
    else if bytes_eq word (codes "follow") then alone Follow further
    else if bytes_eq word (codes "compact") then alone Compact further
    else if bytes_eq word (codes "times") then times further
    else if bytes_eq word (codes "run") then run further
    else if bytes_eq word (codes "gen") then generate further
    else Err fault.UnknownCommand

-- the numbers of a wish are in their ranges
abbrev pub IsWish : Wish → Type 0
IsWish Own = ⊤
IsWish Init = ⊤
IsWish Script = ⊤
IsWish Load = ⊤
IsWish ListAll = ⊤
IsWish Migrate = ⊤
IsWish Follow = ⊤
IsWish Compact = ⊤
IsWish (Times after count) = (pos 0 ≤ℤ after) × (after ≤ℤ LAST) × (1 ≤ count) × (count ≤ COUNT_LIMIT)
IsWish (Run nodes start end budget) =
    (1 ≤ nodes) × (nodes ≤ NODE_LIMIT) × (pos 0 ≤ℤ start) × (start ≤ℤ end) × (end ≤ℤ LAST) × (1 ≤ budget) × (budget ≤ BUDGET_LIMIT)
IsWish (Gen seed jobs days) = (1 ≤ jobs) × (jobs ≤ JOB_LIMIT) × (1 ≤ days) × (days ≤ DAY_LIMIT)
