-- What one turn of the loop over lines did, and what several did.
use Rattle.std.specs.Prelude.{◌≡◌, ◌≤◌, ℕ, List, [], ◌++◌, length, Bool, true, false, Option, Result, Ok, Err}
use Rattle.std.specs.List.{AllByRecursion}
use Rattle.std.specs.Io.KnownBytes.{Consumes, IsAtEnd}
use Rattle.qz_io.specs.declared.handlers.LinesEnd.{LinesEnd}
use Rattle.qz_io.specs.declared.handlers.LinesEnd.TheVariants as ends
use Rattle.qz_io.specs.Ahead.{Ahead, BeginsWith, BeginsLong, BeginsSome}
use Rattle.qz_io.specs.Handlers.{Handling, AllHandled}
use Rattle.qz_io.specs.Lines.{IsOneLine, lines_of, with_feed, with_feeds}
use Rattle.qz_io.specs.Reading.{Hands, IsShortLine}

-- These lines were handled, their bytes with their line feeds were taken first, and these bytes after them.
pub record HandledUpTo {E S : Type 0} (Handles : Handling E S) (lines : List (List ℕ)) (left left_now : Option (List ℕ))
    (pending : List ℕ) (old new : S) : Type 0 where
  pub taken : Consumes left left_now (with_feeds lines ++ pending)
  pub short : AllByRecursion IsShortLine lines
  pub handled : AllHandled Handles lines old new

-- A line was taken with its line feed and handled.
pub record HandlesNext {E S : Type 0} (Handles : Handling E S) (left left_now : Option (List ℕ)) (pending after : List ℕ) (old new : S) : Type 0 where
  pub line : List ℕ
  pub hands : Hands left left_now pending after (with_feed line)
  pub short : IsShortLine line
  pub handled : Handles line (Ok tt) old new

-- The last line, if there was one, was handled, and nothing is left.
pub record HandlesLast {E S : Type 0} (Handles : Handling E S) (left left_now : Option (List ℕ)) (pending : List ℕ) (old new : S) : Type 0 where
  pub got : List ℕ
  pub taken : Consumes left left_now got
  pub ended : IsAtEnd left_now
  pub lines : List (List ℕ)
  pub all : lines_of (pending ++ got) ≡ lines
  pub one : length lines ≤ 1
  pub short : AllByRecursion IsShortLine lines
  pub handled : AllHandled Handles lines old new

-- The handler refused the line that is next.
pub record RefusesNext {E S : Type 0} (Handles : Handling E S) (left left_now : Option (List ℕ)) (pending : List ℕ) (old new : S)
    (number at : ℕ) (error : E) : Type 0 where
  pub line : List ℕ
  pub ahead : Ahead left left_now pending (BeginsWith line)
  pub short : IsShortLine line
  pub number_is : number ≡ at
  pub refused : Handles line (Err error) old new

-- what a turn at the line of this number did: true where one more may follow
abbrev pub TurnDone : {E S : Type 0} → Handling E S → Result Bool (LinesEnd E) → ℕ → Option (List ℕ) → Option (List ℕ) → List ℕ → List ℕ
    → S → S → Type 0
TurnDone Handles (Ok true) at left left_now pending after old new = HandlesNext Handles left left_now pending after old new
TurnDone Handles (Ok false) at left left_now pending after old new = HandlesLast Handles left left_now pending old new
TurnDone Handles (Err (ends.Refused number error)) at left left_now pending after old new =
    RefusesNext Handles left left_now pending old new number at error
TurnDone Handles (Err (ends.TooLong number)) at left left_now pending after old new =
    Ahead left left_now pending BeginsLong × (number ≡ at) × (new ≡ old)
TurnDone Handles (Err ends.TooMany) at left left_now pending after old new = ⊥
TurnDone Handles (Err ends.ReadFault) at left left_now pending after old new =
    Hands left left_now pending after [] × IsOneLine after × (new ≡ old)
TurnDone Handles (Err ends.NoMemory) at left left_now pending after old new = ⊥

-- what was found after as many lines as an input may have
abbrev pub BeyondDone : {E : Type 0} → Result (Unit {0}) (LinesEnd E) → Option (List ℕ) → Option (List ℕ) → List ℕ → List ℕ → Type 0
BeyondDone (Ok none) left left_now pending after = Consumes left left_now [] × (pending ≡ []) × IsAtEnd left_now
BeyondDone (Err ends.TooMany) left left_now pending after = Ahead left left_now pending BeginsSome
BeyondDone (Err ends.ReadFault) left left_now pending after = Hands left left_now pending after [] × IsOneLine after
BeyondDone (Err (ends.Refused number error)) left left_now pending after = ⊥
BeyondDone (Err (ends.TooLong number)) left left_now pending after = ⊥
BeyondDone (Err ends.NoMemory) left left_now pending after = ⊥
