-- Values: numerals of one to four digits, and names.
use Rattle.std.specs.Prelude.{ℕ, List, [], ◌∷◌, ◌+◌, Option, Some, None, if◌then◌else◌, Bool, ◌&&◌, nat_eq, nat_lt, ◌*◌, ◌-◌, length, false, ◌==◌, slice_index, codes}
use Rattle.std.specs.Char.{to_ascii_uppercase, is_ascii_digit}
use Rattle.qz_civil.specs.declared.fields.Field.{Field}
use Rattle.qz_civil.specs.declared.fields.Field.TheVariants.{Seconds, Minutes, Hours, DayOfMonth, Month, DayOfWeek, Year}

-- the number whose digits so far give n and whose further digits are these
abbrev pub decimal : ℕ → List ℕ → Option ℕ
decimal n [] = Some n
decimal n (b ∷ bs) = if is_ascii_digit b then decimal (n * 10 + (b - 48)) bs else None

-- the number of one to four digits
unfoldable pub number_of : List ℕ → Option ℕ
number_of text = if nat_eq (length text) 0 then None else if nat_lt 4 (length text) then None else decimal 0 text

-- the names of a field's values, from the least on
abbrev pub names : Field → List (List ℕ)
names Month =
    codes "JAN" ∷ codes "FEB" ∷ codes "MAR" ∷ codes "APR" ∷ codes "MAY" ∷ codes "JUN"
    ∷ codes "JUL" ∷ codes "AUG" ∷ codes "SEP" ∷ codes "OCT" ∷ codes "NOV" ∷ codes "DEC" ∷ []
names DayOfWeek =
    codes "SUN" ∷ codes "MON" ∷ codes "TUE" ∷ codes "WED" ∷ codes "THU" ∷ codes "FRI" ∷ codes "SAT" ∷ []
names Seconds = []
names Minutes = []
names Hours = []
names DayOfMonth = []
names Year = []

-- the text is these three letters, in either case
abbrev pub spells : ℕ → ℕ → ℕ → List ℕ → Bool
spells a b c (x ∷ y ∷ z ∷ []) = (to_ascii_uppercase x == a) && (to_ascii_uppercase y == b) && (to_ascii_uppercase z == c)
spells a b c _ = false

abbrev pub is_spelled : List ℕ → List ℕ → Bool
is_spelled name text = spells (slice_index name 0) (slice_index name 1) (slice_index name 2) text

-- the value of the first of these names that the text spells, where v is that of the first one
abbrev pub named_from : ℕ → List (List ℕ) → List ℕ → Option ℕ
named_from v [] text = None
named_from v (name ∷ more) text = if is_spelled name text then Some v else named_from (v + 1) more text

-- names begin at 1
unfoldable pub name_of : Field → List ℕ → Option ℕ
name_of field text = named_from 1 (names field) text

abbrev pub value_or_name : Option ℕ → Option ℕ → Option ℕ
value_or_name (Some n) name = Some n
value_or_name None name = name

-- a numeral or a name of the field
unfoldable pub value_of : Field → List ℕ → Option ℕ
value_of field text = value_or_name (number_of text) (name_of field text)
