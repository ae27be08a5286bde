-- JSON as it is printed: no blank outside texts, and one text for each value.
use Rattle.std.specs.Prelude.{ℕ, ℤ, ◌+◌, ◌/◌, ◌%◌, List, [], ◌∷◌, ◌++◌, Bool, ◌||◌, ◌==◌, nat_lt, if◌then◌else◌, Option, Some, None, codes}
use Rattle.std.specs.Fmt.{signed_decimal}
use Rattle.std.specs.List.{flat_map}
use Rattle.std.specs.Ordering.{int_eq}
use Rattle.std.specs.Str.{bytes_eq}

-- Texts.

-- the hexadecimal digit of a number below 16, in upper case
abbrev pub digit16 : ℕ → ℕ
digit16 n = if nat_lt n 10 then 48 + n else 55 + n

-- `"` and `\` have a backslash before them, a byte below 32 is `\u00` and its two digits, and every other byte stands for itself
abbrev pub escaped_byte : ℕ → List ℕ
escaped_byte b =
    if (b == 34) || (b == 92) then 92 ∷ b ∷ []
    else (if nat_lt b 32 then 92 ∷ 117 ∷ 48 ∷ 48 ∷ digit16 (b / 16) ∷ digit16 (b % 16) ∷ [] else b ∷ [])

unfoldable pub quoted : List ℕ → List ℕ
quoted text = 34 ∷ flat_map escaped_byte text ++ 34 ∷ []

-- a word in which nothing is escaped
abbrev pub plain : List ℕ → List ℕ
plain word = 34 ∷ word ++ 34 ∷ []

-- Members.

-- a member's name, before its value
unfoldable pub label : List ℕ → List ℕ
label name = 34 ∷ name ++ 34 ∷ 58 ∷ []

-- a member behind another one
unfoldable pub more : List ℕ → List ℕ → List ℕ
more name value = 44 ∷ label name ++ value

-- a text, left out where it is the usual one
unfoldable pub more_text : List ℕ → List ℕ → List ℕ → List ℕ
more_text name usual text = if bytes_eq text usual then [] else more name (quoted text)

-- a number, left out where it is the usual one
unfoldable pub more_number : List ℕ → ℤ → ℤ → List ℕ
more_number name usual n = if int_eq n usual then [] else more name (signed_decimal n)

-- a flag that is usually false
unfoldable pub more_set : List ℕ → Bool → List ℕ
more_set name flag = if flag then more name (codes "true") else []

-- a flag that is usually true
unfoldable pub more_unset : List ℕ → Bool → List ℕ
more_unset name flag = if flag then [] else more name (codes "false")

-- a text, if there is one
unfoldable pub more_named : List ℕ → Option (List ℕ) → List ℕ
more_named name None = []
more_named name (Some text) = more name (quoted text)

-- a time, if there is one
unfoldable pub more_timed : List ℕ → Option ℤ → List ℕ
more_timed name None = []
more_timed name (Some time) = more name (signed_decimal time)

-- Lists.

-- the items, each printed so, with commas between
abbrev pub listed : {X : Type 0} → (X → List ℕ) → List X → List ℕ
listed text [] = codes "[]"
listed text (x ∷ xs) = 91 ∷ text x ++ flat_map (λ y. 44 ∷ text y) xs ++ 93 ∷ []
