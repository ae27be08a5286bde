-- Lines, and how bytes are cut into them.
use Rattle.std.specs.Prelude.{◌≡◌, ◌≢◌, ◌==◌, ◌+◌, ◌<◌, ◌≤◌, if◌then◌else◌, ℕ, List, [], ◌∷◌, ◌++◌, length, take, slice_index, slice_range, Option}
use Rattle.std.specs.List.{All, flat_map}
use Rattle.std.specs.Io.KnownBytes.{Consumes, IsAtEnd}

-- bytes without a line feed
abbrev pub IsOneLine : List ℕ → Type 0
IsOneLine bytes = All (λ b. b ≢ 10) bytes

-- a byte before the first of these lines
abbrev pub onto : ℕ → List (List ℕ) → List (List ℕ)
onto b [] = (b ∷ []) ∷ []
onto b (line ∷ lines) = (b ∷ line) ∷ lines

-- the lines of an input: cut behind each line feed, and what stands behind the last one is a line where it isn't empty
abbrev pub lines_of : List ℕ → List (List ℕ)
lines_of [] = []
lines_of (b ∷ bs) = if b == 10 then [] ∷ lines_of bs else onto b (lines_of bs)

-- a line and its line feed
abbrev pub with_feed : List ℕ → List ℕ
with_feed line = line ++ 10 ∷ []

-- the bytes of lines of which each has its line feed
abbrev pub with_feeds : List (List ℕ) → List ℕ
with_feeds lines = flat_map with_feed lines

-- n bytes stand before the first line feed, or there is none among all n
pub record IsBeforeFeed (bytes : List ℕ) (n : ℕ) : Type 0 where
  pub within : n ≤ length bytes
  pub one_line : IsOneLine (take n bytes)
  pub stops : n < length bytes → slice_index bytes n ≡ 10

-- these many bytes went from a source to a place of a buffer: none only at the end
pub record GetsAt (old new : Option (List ℕ)) (buffer : List ℕ) (at count : ℕ) : Type 0 where
  pub within : at + count ≤ length buffer
  pub taken : Consumes old new (slice_range buffer at (at + count))
  pub ended : count ≡ 0 → IsAtEnd new
