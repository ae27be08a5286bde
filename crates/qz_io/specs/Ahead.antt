-- The bytes that are ahead of a line reader, and the lines that they begin with.
use Rattle.std.specs.Prelude.{◌≡◌, ◌<◌, ℕ, List, ◌∷◌, ◌++◌, length, Option, Some}
use Rattle.std.specs.Io.KnownBytes.{Consumes}
use Rattle.qz_io.specs.declared.limits.TheConstants.{LINE_LIMIT}
use Rattle.qz_io.specs.Lines.{lines_of}

-- The bytes of the source that were taken, and all that are told of it: these bytes are ahead.
pub record Ahead (old new : Option (List ℕ)) (pending : List ℕ) (P : List ℕ → Type 0) : Type 0 where
  pub got : List ℕ
  pub taken : Consumes old new got
  pub ahead : (rest : List ℕ) → new ≡ Some rest → P ((pending ++ got) ++ rest)

-- these bytes begin with this line
pub record BeginsWith (line bytes : List ℕ) : Type 0 where
  pub more : List (List ℕ)
  pub lines : lines_of bytes ≡ line ∷ more

-- these bytes begin with some line
pub record BeginsSome (bytes : List ℕ) : Type 0 where
  pub line : List ℕ
  pub begins : BeginsWith line bytes

-- these bytes begin with a line that is too long
pub record BeginsLong (bytes : List ℕ) : Type 0 where
  pub line : List ℕ
  pub begins : BeginsWith line bytes
  pub long : LINE_LIMIT < length line

-- these are the first lines of the input
pub record BeginWith (lines input : List (List ℕ)) : Type 0 where
  pub rest : List (List ℕ)
  pub all : input ≡ lines ++ rest

-- what is ahead of a source that tells its bytes stands behind the lines that were taken
pub record Told (bytes : List ℕ) (lines : List (List ℕ)) (P : List ℕ → Type 0) : Type 0 where
  pub ahead : List ℕ
  pub all : lines_of bytes ≡ lines ++ lines_of ahead
  pub is : P ahead
