-- What the line reader hands out, and what it keeps.
use Rattle.std.specs.Prelude.{◌≡◌, ◌≢◌, ◌+◌, ◌<◌, ◌≤◌, ℕ, List, [], ◌++◌, take, length, slice_range, Option, None, Some}
use Rattle.std.specs.Io.KnownBytes.{Consumes, IsAtEnd, prepend_known}
use Rattle.qz_io.specs.declared.limits.TheConstants.{LINE_LIMIT}
use Rattle.qz_io.specs.declared.readers.TheConstants.{BLOCK}
use Rattle.qz_io.specs.declared.readers.Found.{Found}
use Rattle.qz_io.specs.declared.readers.Found.TheVariants.{Line, LastLine, TooLong, End}
use Rattle.qz_io.specs.Lines.{IsOneLine, with_feed}

-- a line reader: the line that it handed out last, and the bytes that it took from its source and hasn't handed out
pub record ReaderData : Type 0 where
  pub line : List ℕ
  pub pending : List ℕ

-- What the reader's buffer keeps: the last line and the pending bytes stand within it, and no pending byte before the
-- place up to which they were looked at is a line feed.
pub record IsBuffer (buffer : List ℕ) (line_start line_end start scanned end : ℕ) : Type 0 where
  pub size : length buffer ≡ BLOCK
  pub line_low : line_start ≤ line_end
  pub line_high : line_end ≤ BLOCK
  pub low : start ≤ scanned
  pub middle : scanned ≤ end
  pub high : end ≤ BLOCK
  pub clean : IsOneLine (slice_range buffer start scanned)

-- all bytes that weren't handed out yet, where the source tells
abbrev pub ahead : List ℕ → Option (List ℕ) → Option (List ℕ)
ahead pending old = prepend_known pending old

-- What was taken from the source went behind the pending bytes, and the bytes handed out came from their front:
-- none is lost, added or moved, whether the source tells its bytes or not.
pub record Hands (old new : Option (List ℕ)) (pending after out : List ℕ) : Type 0 where
  pub got : List ℕ
  pub taken : Consumes old new got
  pub kept : pending ++ got ≡ out ++ after

-- a line that isn't too long
pub record IsShortLine (line : List ℕ) : Type 0 where
  pub one_line : IsOneLine line
  pub short : length line ≤ LINE_LIMIT

-- bytes that begin with more than a line may have, and no line feed among them
pub record BeginsTooLong (bytes : List ℕ) : Type 0 where
  pub one_line : IsOneLine (take (LINE_LIMIT + 1) bytes)
  pub long : LINE_LIMIT < length bytes

-- a line and its line feed were handed out
pub record FindsLine (old new : Option (List ℕ)) (pending : List ℕ) (now : ReaderData) : Type 0 where
  pub hands : Hands old new pending now.pending (with_feed now.line)
  pub line : IsShortLine now.line

-- the last line, behind which the source ended without a line feed, was handed out
pub record FindsLastLine (old new : Option (List ℕ)) (pending : List ℕ) (now : ReaderData) : Type 0 where
  pub hands : Hands old new pending now.pending now.line
  pub line : IsShortLine now.line
  pub some : now.line ≢ []
  pub all : now.pending ≡ []
  pub ended : IsAtEnd new

-- nothing was handed out
pub record HandsNothing (old new : Option (List ℕ)) (pending : List ℕ) (now : ReaderData) : Type 0 where
  pub hands : Hands old new pending now.pending []
  pub none : now.line ≡ []

-- nothing was handed out, since the bytes ahead begin too long
pub record FindsTooLong (old new : Option (List ℕ)) (pending : List ℕ) (now : ReaderData) : Type 0 where
  pub hands_nothing : HandsNothing old new pending now
  pub too_long : BeginsTooLong now.pending

-- nothing was handed out, since nothing is left
pub record FindsEnd (old new : Option (List ℕ)) (pending : List ℕ) (now : ReaderData) : Type 0 where
  pub hands_nothing : HandsNothing old new pending now
  pub all : now.pending ≡ []
  pub ended : IsAtEnd new

-- nothing was handed out, and no line stands among the bytes that were taken
pub record FindsNone (old new : Option (List ℕ)) (pending : List ℕ) (now : ReaderData) : Type 0 where
  pub hands_nothing : HandsNothing old new pending now
  pub one_line : IsOneLine now.pending

-- what each answer means
abbrev pub Finds : Found → Option (List ℕ) → Option (List ℕ) → List ℕ → ReaderData → Type 0
Finds Line old new pending now = FindsLine old new pending now
Finds LastLine old new pending now = FindsLastLine old new pending now
Finds TooLong old new pending now = FindsTooLong old new pending now
Finds End old new pending now = FindsEnd old new pending now

-- What the parts of a call do.

-- a line was cut from the pending bytes, or they begin too long, or they are one line that may go on
abbrev pub Cuts : Option Found → List ℕ → ReaderData → Type 0
Cuts None pending now = (now.pending ≡ pending) × (now.line ≡ []) × IsShortLine pending
Cuts (Some Line) pending now = (pending ≡ with_feed now.line ++ now.pending) × IsShortLine now.line
Cuts (Some LastLine) pending now = ⊥
Cuts (Some TooLong) pending now = (now.pending ≡ pending) × (now.line ≡ []) × BeginsTooLong pending
Cuts (Some End) pending now = ⊥

-- these many bytes went from the source behind the pending ones: none only at the end
pub record Fills (old new : Option (List ℕ)) (pending : List ℕ) (now : ReaderData) (count : ℕ) : Type 0 where
  pub got : List ℕ
  pub taken : Consumes old new got
  pub kept : now.pending ≡ pending ++ got
  pub some : length got ≡ count
  pub none : now.line ≡ []
  pub ended : count ≡ 0 → IsAtEnd new

-- the pending bytes were handed out, if there were any
abbrev pub Finishes : Found → List ℕ → ReaderData → Type 0
Finishes Line pending now = ⊥
Finishes LastLine pending now = (now.line ≡ pending) × (pending ≢ []) × (now.pending ≡ [])
Finishes TooLong pending now = ⊥
Finishes End pending now = (now.line ≡ []) × (pending ≡ []) × (now.pending ≡ [])
