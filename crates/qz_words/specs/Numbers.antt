-- Numbers on the command line.
use Rattle.std.specs.Prelude.{ℕ, ◌+◌, ◌*◌, ◌-◌, List, [], ◌∷◌, length, nat_eq, nat_lt, if◌then◌else◌, Option, Some, None}
use Rattle.std.specs.Char.{is_ascii_digit}
use Rattle.qz_words.specs.declared.numbers.TheConstants.{DIGITS}

-- the number whose digits so far give n and whose further digits are these
abbrev pub decimal : ℕ → List ℕ → Option ℕ
decimal n [] = Some n
decimal n (b ∷ bs) = if is_ascii_digit b then decimal (n * 10 + (b - 48)) bs else None

-- the number of 1 to 19 digits
unfoldable pub number_of : List ℕ → Option ℕ
number_of word = if nat_eq (length word) 0 then None else (if nat_lt DIGITS (length word) then None else decimal 0 word)
