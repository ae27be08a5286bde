-- Single fields: their bytes, which values have some, and how they are read. Numbers are big-endian of their type's
-- width, and signed ones in two's complement.
--
-- A reader goes from left to right. It answers the value and the bytes after it, or how many bytes are left from the
-- first byte of the first wrong field on. A field is wrong where it isn't whole, is out of its range or breaks a rule
-- together with the fields before it.
use Rattle.std.specs.Prelude.{◌≡◌, ℕ, ℤ, List, length, true, FitsSigned, [], ◌∷◌, ◌++◌, take, drop, nat_lt, nat_le, ◌==◌, ◌&&◌, Bool, false, Option, Some, None, Result, Ok, Err, if◌then◌else◌}
use Rattle.std.specs.Int.{w8, w64, Width, w16, byte_len, to_be_bytes, from_be_bytes, cast_signed, cast_unsigned}
use Rattle.qz_civil.specs.Timings.{is_span}
use Rattle.std.specs.Str.{IsUtf8, is_utf8}
use Rattle.qz_civil.specs.declared.limits.TheConstants.{NAME_LIMIT}

-- an unsigned number
unfoldable pub number : Width → ℕ → List ℕ
number w n = to_be_bytes w n

-- a signed number
unfoldable pub integer : Width → ℤ → List ℕ
integer w z = number w (cast_unsigned w z)

-- a signed number of one byte
unfoldable pub small : ℤ → List ℕ
small z = cast_unsigned w8 z ∷ []

abbrev pub flag : Bool → List ℕ
flag false = 0 ∷ []
flag true = 1 ∷ []

-- the length in two bytes, and the bytes
unfoldable pub text : List ℕ → List ℕ
text s = number w16 (length s) ++ s

-- a flag, and the value where there is one
abbrev pub optional : {A : Type 0} → (A → List ℕ) → Option A → List ℕ
optional value None = 0 ∷ []
optional value (Some x) = 1 ∷ value x

-- a text of at least and at most so many bytes
abbrev pub is_long : ℕ → ℕ → ℕ → Bool
is_long least most n = nat_le least n && nat_le n most

pub record IsText (least most : ℕ) (s : List ℕ) : Type 0 where
  pub size : is_long least most (length s) ≡ true
  pub utf8 : IsUtf8 s

-- a group, name, class or calendar
abbrev pub IsName : List ℕ → Type 0
IsName s = IsText 1 NAME_LIMIT s

-- a signed number of this width that a test lets pass
pub record IsNumber (w : Width) (passes : ℤ → Bool) (z : ℤ) : Type 0 where
  pub fits : FitsSigned w z
  pub passed : passes z ≡ true

-- a start, an end or a span of time
abbrev pub IsSpan : ℤ → Type 0
IsSpan z = IsNumber w64 is_span z

infixl 10 ◌>>=◌
abbrev pub ◌>>=◌ : {A B : Type 0} → Result A ℕ → (A → Result B ℕ) → Result B ℕ
(Ok x) >>= f = f x
(Err left) >>= f = Err left

abbrev pub Read : Type 0 → Type 0
Read A = Result (A × List ℕ) ℕ

-- a field, of which only the values that pass the test are right
abbrev pub checked : {A : Type 0} → (A → Bool) → (List ℕ → Read A) → List ℕ → Read A
checked passes read bytes = do
  x ← read bytes
  if passes x.0 then Ok x else Err (length bytes)

unfoldable pub byte_at : List ℕ → Read ℕ
byte_at [] = Err 0
byte_at (b ∷ rest) = Ok (b, rest)

unfoldable pub number_at : Width → List ℕ → Read ℕ
number_at w bytes = if nat_lt (length bytes) (byte_len w) then Err (length bytes) else Ok (from_be_bytes w (take (byte_len w) bytes), drop (byte_len w) bytes)

unfoldable pub integer_at : Width → List ℕ → Read ℤ
integer_at w bytes = do
  n ← number_at w bytes
  Ok (cast_signed w n.0, n.1)

unfoldable pub small_at : List ℕ → Read ℤ
small_at bytes = do
  n ← byte_at bytes
  Ok (cast_signed w8 n.0, n.1)

unfoldable pub flag_at : List ℕ → Read Bool
flag_at bytes = do
  n ← byte_at bytes
  if n.0 == 0 then Ok (false, n.1)
      else if n.0 == 1 then Ok (true, n.1)
      else Err (length bytes)

-- The length is the field that is wrong where it is out of its range, and the bytes where they are cut or no UTF-8.
unfoldable pub text_at : ℕ → ℕ → List ℕ → Read (List ℕ)
text_at least most bytes = do
  n ← checked (is_long least most) (number_at w16) bytes
  if nat_le n.0 (length n.1) && is_utf8 (take n.0 n.1)
      then Ok (take n.0 n.1, drop n.0 n.1)
      else Err (length n.1)

abbrev pub name_at : List ℕ → Read (List ℕ)
name_at bytes = text_at 1 NAME_LIMIT bytes

abbrev pub span_at : List ℕ → Read ℤ
span_at bytes = checked is_span (integer_at w64) bytes

abbrev pub optional_at : {A : Type 0} → (List ℕ → Read A) → List ℕ → Read (Option A)
optional_at read bytes = do
  some ← flag_at bytes
  if some.0 then (read some.1 >>= λ x. Ok (Some x.0, x.1)) else Ok (None, some.1)

-- what was read, as a variant's fields
abbrev pub as_variant : {A B : Type 0} → (A → B) → Read A → Read B
as_variant make r = r >>= λ x. Ok (make x.0, x.1)
