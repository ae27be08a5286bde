-- Times of the day and sets of days, as triggers and calendars have them.
use Rattle.std.specs.Prelude.{ℕ, ◌+◌, ◌-◌, ◌*◌, List, [], ◌∷◌, length, slice_index, Bool, ◌&&◌, ◌==◌, nat_le, nat_lt, if◌then◌else◌, Option, Some, None, option_map, option_and_then, codes}
use Rattle.std.specs.List.{list_any}
use Rattle.serde_json.specs.Data.{Data, Items, no_items, item}
use Rattle.serde_json.specs.Find.{get, as_str, as_array, as_number, as_u64}
use Rattle.qz_civil.specs.Timings.{is_day_set}
use Rattle.qz_cron_text.specs.Sets.{set_of}
use Rattle.qz_job_json.specs.Members.{kept, both, said_or}

abbrev pub is_digit : ℕ → Bool
is_digit b = nat_le 48 b && nat_le b 57

-- the number below the limit that the two digits from place i on stand for
abbrev pub two_digits : ℕ → ℕ → List ℕ → Option ℕ
two_digits limit i text =
    if is_digit (slice_index text i) && is_digit (slice_index text (i + 1))
    && nat_lt ((slice_index text i - 48) * 10 + (slice_index text (i + 1) - 48)) limit
    then Some ((slice_index text i - 48) * 10 + (slice_index text (i + 1) - 48))
    else None

-- HH:MM:SS
abbrev pub is_clock_form : List ℕ → Bool
is_clock_form text = (length text == 8) && (slice_index text 2 == 58) && (slice_index text 5 == 58)

abbrev pub minute_and_second : List ℕ → Option ℕ
minute_and_second text = both (λ minute second. minute * 60 + second) (two_digits 60 3 text) (two_digits 60 6 text)

-- the second of the day that the text names
unfoldable pub second_of_day : List ℕ → Option ℕ
second_of_day text =
    if is_clock_form text
    then both (λ hour rest. hour * 3600 + rest) (two_digits 24 0 text) (minute_and_second text)
    else None

abbrev pub second_of : Data → Option ℕ
second_of d = option_and_then second_of_day (as_str d)

-- the second of the day, with a default
abbrev pub second_or : ℕ → List ℕ → Data → Option ℕ
second_or default name d = said_or default second_of (get name d)

-- a whole number from 1 to the last one
abbrev pub is_number_to : ℕ → ℕ → Bool
is_number_to last n = nat_le 1 n && nat_le n last

abbrev pub number_to : ℕ → Data → Option ℕ
number_to last d = kept (is_number_to last) (option_and_then as_u64 (as_number d))

-- what the items of a list are, where each of them is one
abbrev pub listed : (Data → Option ℕ) → Items → Option (List ℕ)
listed number_of no_items = Some []
listed number_of (item d ds) = both (λ n ns. n ∷ ns) (number_of d) (listed number_of ds)

-- bit 0 is that of number 1: a bit is set exactly where its number is among these
abbrev pub set_of_numbers : ℕ → List ℕ → ℕ
set_of_numbers last ns = set_of (λ i. list_any (λ n. n == i + 1) ns) last

-- the set of the numbers of a list, each from 1 to the last one
abbrev pub set_to : ℕ → Items → Option ℕ
set_to last items = option_map (set_of_numbers last) (listed (number_to last) items)

-- the set of the days of a list that isn't empty: 1 is Sunday
unfoldable pub days_of : Items → Option ℕ
days_of items = kept is_day_set (set_to 7 items)

-- the set of the days, which are all seven where there is no such member
abbrev pub days_at : Data → Option ℕ
days_at d = said_or 127 (λ e. option_and_then days_of (as_array e)) (get (codes "days") d)
