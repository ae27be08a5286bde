-- The lines of an input, handled one after another: which were handled, in which order, and how that ended.
use Rattle.std.specs.Prelude.{◌≡◌, ◌+◌, ◌<◌, ◌≤◌, ℕ, List, [], ◌∷◌, ◌++◌, length, Option, Some, Result, Ok, Err}
use Rattle.std.specs.List.{AllByRecursion}
use Rattle.std.specs.Io.KnownBytes.{Consumes, IsAtEnd}
use Rattle.qz_io.specs.declared.limits.TheConstants.{LINE_LIMIT, LINE_COUNT_LIMIT}
use Rattle.qz_io.specs.declared.handlers.LinesEnd.{LinesEnd}
use Rattle.qz_io.specs.declared.handlers.LinesEnd.TheVariants as ends
use Rattle.qz_io.specs.Ahead.{BeginWith}
use Rattle.qz_io.specs.Lines.{IsOneLine, lines_of, with_feeds}
use Rattle.qz_io.specs.Reading.{IsShortLine}

-- what a handler may make of a line: the line, the answer, and its state before and after
abbrev pub Handling : Type 0 → Type 0 → Type 1
Handling E S = List ℕ → Result (Unit {0}) E → S → S → Type 0

-- Each of these lines was handled well, from the state that the line before it left.
abbrev pub AllHandled : {E S : Type 0} → Handling E S → List (List ℕ) → S → S → Type 0
AllHandled Handles [] old new = new ≡ old
AllHandled {S = S} Handles (line ∷ lines) old new =
    (between : S) × Handles line (Ok tt) old between × AllHandled Handles lines between new

-- what holds of the bytes of an input, where they are known
abbrev pub IfKnown : Option (List ℕ) → (List ℕ → Type 0) → Type 0
IfKnown left P = (bytes : List ℕ) → left ≡ Some bytes → P bytes

-- the line after these lines
abbrev pub IsNextLine : List (List ℕ) → List ℕ → List ℕ → Type 0
IsNextLine lines line bytes = BeginWith (lines ++ line ∷ []) (lines_of bytes)

-- some line comes after these lines
pub record HasNextLine (lines : List (List ℕ)) (bytes : List ℕ) : Type 0 where
  pub line : List ℕ
  pub next : IsNextLine lines line bytes

-- the line after these lines is too long
pub record HasNextLong (lines : List (List ℕ)) (bytes : List ℕ) : Type 0 where
  pub line : List ℕ
  pub next : IsNextLine lines line bytes
  pub long : LINE_LIMIT < length line

-- This is the number of the line after these lines, which the limit allows.
pub record IsNextNumber (lines : List (List ℕ)) (number : ℕ) : Type 0 where
  pub is : number ≡ length lines + 1
  pub within : number ≤ LINE_COUNT_LIMIT

-- All lines of the input were handled.
pub record EndsWhole {S : Type 0} (left left_now : Option (List ℕ)) (lines : List (List ℕ)) (state new : S) : Type 0 where
  pub all : IfKnown left (λ bytes. lines_of bytes ≡ lines)
  pub ended : IsAtEnd left_now
  pub within : length lines ≤ LINE_COUNT_LIMIT
  pub state_is : new ≡ state

-- The handler refused the next line.
pub record EndsRefused {E S : Type 0} (Handles : Handling E S) (left : Option (List ℕ)) (lines : List (List ℕ)) (state new : S)
    (number : ℕ) (error : E) : Type 0 where
  pub line : List ℕ
  pub next : IfKnown left (IsNextLine lines line)
  pub short : IsShortLine line
  pub number_is : IsNextNumber lines number
  pub refused : Handles line (Err error) state new

-- The next line is too long.
pub record EndsLong {S : Type 0} (left : Option (List ℕ)) (lines : List (List ℕ)) (state new : S) (number : ℕ) : Type 0 where
  pub next : IfKnown left (HasNextLong lines)
  pub number_is : IsNextNumber lines number
  pub state_is : new ≡ state

-- As many lines as an input may have were handled, and one more begins.
pub record EndsMany {S : Type 0} (left : Option (List ℕ)) (lines : List (List ℕ)) (state new : S) : Type 0 where
  pub full : length lines ≡ LINE_COUNT_LIMIT
  pub next : IfKnown left (HasNextLine lines)
  pub state_is : new ≡ state

-- A read failed. Each line whose line feed was taken was handled.
pub record EndsUnread {S : Type 0} (got : List ℕ) (lines : List (List ℕ)) (state new : S) : Type 0 where
  pub part : List ℕ
  pub got_is : got ≡ with_feeds lines ++ part
  pub no_feed : IsOneLine part
  pub state_is : new ≡ state

-- There was no memory to begin with: no byte was taken.
pub record EndsUnbegun {S : Type 0} (got : List ℕ) (lines : List (List ℕ)) (state new : S) : Type 0 where
  pub no_line : lines ≡ []
  pub no_byte : got ≡ []
  pub state_is : new ≡ state

-- how it ended
abbrev pub Ends : {E S : Type 0} → Handling E S → Result (Unit {0}) (LinesEnd E) → Option (List ℕ) → Option (List ℕ) → List ℕ
    → List (List ℕ) → S → S → Type 0
Ends Handles (Ok done) left left_now got lines state new = EndsWhole left left_now lines state new
Ends Handles (Err (ends.Refused number error)) left left_now got lines state new =
    EndsRefused Handles left lines state new number error
Ends Handles (Err (ends.TooLong number)) left left_now got lines state new = EndsLong left lines state new number
Ends Handles (Err ends.TooMany) left left_now got lines state new = EndsMany left lines state new
Ends Handles (Err ends.ReadFault) left left_now got lines state new = EndsUnread got lines state new
Ends Handles (Err ends.NoMemory) left left_now got lines state new = EndsUnbegun got lines state new

-- The first lines of the input were handled one after another, and then it ended so. `left` is what was left of the
-- input before and after, and `old` and `new` are the handler's states.
pub record HandlesLines {E S : Type 0} (Handles : Handling E S) (result : Result (Unit {0}) (LinesEnd E))
    (left left_now : Option (List ℕ)) (old new : S) : Type 0 where
  pub lines : List (List ℕ)
  pub short : AllByRecursion IsShortLine lines
  pub state : S
  pub handled : AllHandled Handles lines old state
  pub got : List ℕ
  pub taken : Consumes left left_now got
  pub ends : Ends Handles result left left_now got lines state new
