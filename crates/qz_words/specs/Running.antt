-- What the words of the calls on a virtual clock ask for.
use Rattle.std.specs.Prelude.{ℕ, pos, List, [], ◌∷◌, Bool, ◌&&◌, not, nat_le, int_le, if◌then◌else◌, Option, Some, None, Result, Ok, Err}
use Rattle.qz_civil.specs.declared.limits.TheConstants.{LAST}
use Rattle.qz_words.specs.declared.running.TheConstants.{NODE_LIMIT, BUDGET_LIMIT, USUAL_BUDGET, JOB_LIMIT, DAY_LIMIT}
use Rattle.qz_words.specs.declared.wishes.Wish.{Wish}
use Rattle.qz_words.specs.declared.wishes.Wish.TheVariants.{Run, Gen}
use Rattle.qz_words.specs.declared.wishes.WordFault.{WordFault}
use Rattle.qz_words.specs.declared.wishes.WordFault.TheVariants as fault
use Rattle.qz_words.specs.Counts.{wrong_count}
use Rattle.qz_words.specs.Numbers.{number_of}

-- from 1 to this
abbrev pub is_from_1_to : ℕ → ℕ → Bool
is_from_1_to limit n = nat_le 1 n && nat_le n limit

-- 1 to 16 nodes, two moments from 0 to LAST of which the second isn't before the first, and 1 to 1000000 firings
abbrev pub run_in_range : ℕ → ℕ → ℕ → ℕ → Result Wish WordFault
run_in_range nodes start end budget =
    if not (is_from_1_to NODE_LIMIT nodes) then Err (fault.OutOfRange 1)
    else if not (int_le (pos start) LAST) then Err (fault.OutOfRange 2)
    else if not (int_le (pos end) LAST && nat_le start end) then Err (fault.OutOfRange 3)
    else if not (is_from_1_to BUDGET_LIMIT budget) then Err (fault.OutOfRange 4)
    else Ok (Run nodes (pos start) (pos end) budget)

abbrev pub run_of : Option ℕ → Option ℕ → Option ℕ → Option ℕ → Result Wish WordFault
run_of None start end budget = Err (fault.BadNumber 1)
run_of (Some nodes) None end budget = Err (fault.BadNumber 2)
run_of (Some nodes) (Some start) None budget = Err (fault.BadNumber 3)
run_of (Some nodes) (Some start) (Some end) None = Err (fault.BadNumber 4)
run_of (Some nodes) (Some start) (Some end) (Some budget) = run_in_range nodes start end budget

-- the number of firings may be left out
abbrev pub run : List (List ℕ) → Result Wish WordFault
run (nodes ∷ start ∷ end ∷ []) = run_of (number_of nodes) (number_of start) (number_of end) (Some USUAL_BUDGET)
run (nodes ∷ start ∷ end ∷ budget ∷ []) = run_of (number_of nodes) (number_of start) (number_of end) (number_of budget)
run further = wrong_count further

-- any number, 1 to 1000 jobs and 1 to 28 days
abbrev pub gen_in_range : ℕ → ℕ → ℕ → Result Wish WordFault
gen_in_range seed jobs days =
    if not (is_from_1_to JOB_LIMIT jobs) then Err (fault.OutOfRange 2)
    else if not (is_from_1_to DAY_LIMIT days) then Err (fault.OutOfRange 3)
    else Ok (Gen seed jobs days)

abbrev pub gen_of : Option ℕ → Option ℕ → Option ℕ → Result Wish WordFault
gen_of None jobs days = Err (fault.BadNumber 1)
gen_of (Some seed) None days = Err (fault.BadNumber 2)
gen_of (Some seed) (Some jobs) None = Err (fault.BadNumber 3)
gen_of (Some seed) (Some jobs) (Some days) = gen_in_range seed jobs days

abbrev pub generate : List (List ℕ) → Result Wish WordFault
generate (seed ∷ jobs ∷ days ∷ []) = gen_of (number_of seed) (number_of jobs) (number_of days)
generate further = wrong_count further
