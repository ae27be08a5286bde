-- The pieces of a snapshot.
use Rattle.std.specs.Prelude.{◌≡◌, ℕ, ⊤, ◌+◌, ◌/◌, ◌%◌, ◌<◌, ◌≤◌, nat_le, List, [], ◌∷◌, ◌++◌, length, map, fold, if◌then◌else◌}
use Rattle.std.specs.List.{AllByRecursion}
use Rattle.qz_pieces.specs.Kinds.{kind_byte}
use Rattle.qz_pieces.specs.declared.cutting.TheConstants.{PIECE_LIMIT}
use Rattle.qz_pieces.specs.declared.kinds.RowKind.{RowKind}

-- a row as a piece has it: its kind and its record
pub record RowBytes : Type 0 where
  pub kind : RowKind
  pub bytes : List ℕ

-- the byte of the kind, the length of the record in two bytes, the record
abbrev pub row_bytes : RowBytes → List ℕ
row_bytes r = kind_byte r.kind ∷ (length r.bytes / 256) ∷ (length r.bytes % 256) ∷ r.bytes

-- rows, one after the other
abbrev pub flat : List RowBytes → List ℕ
flat [] = []
flat (r ∷ rs) = row_bytes r ++ flat rs

-- the row fits into a piece
pub record IsShort (r : RowBytes) : Type 0 where
  pub short : length r.bytes + 4 ≤ PIECE_LIMIT

abbrev pub AreShort : List RowBytes → Type 0
AreShort rows = AllByRecursion IsShort rows

-- a piece of these rows: it begins with F1
abbrev pub piece_of : List RowBytes → List ℕ
piece_of rows = 241 ∷ flat rows

-- Rows that are being cut: the pieces that are whole, and the one that further rows go into.
pub record Cut : Type 0 where
  pub whole : List (List ℕ)
  pub piece : List ℕ

abbrev pub nothing : Cut
nothing = record { whole = []; piece = 241 ∷ [] }

-- A row goes into the piece at hand, and begins a new one where that would pass the limit.
unfoldable pub with_row : Cut → RowBytes → Cut
with_row c r = if nat_le (length c.piece + length (row_bytes r)) PIECE_LIMIT
    then record { whole = c.whole; piece = c.piece ++ row_bytes r }
    else record { whole = c.whole ++ c.piece ∷ []; piece = piece_of (r ∷ []) }

-- all pieces; that of no row is left out
unfoldable pub pieces_of : Cut → List (List ℕ)
pieces_of c = if nat_le (length c.piece) 1 then c.whole else c.whole ++ c.piece ∷ []

-- the pieces of rows
abbrev pub pieces : List RowBytes → List (List ℕ)
pieces rows = pieces_of (fold with_row nothing rows)

-- groups of rows, one after the other
abbrev pub joined : List (List RowBytes) → List RowBytes
joined [] = []
joined (g ∷ gs) = g ++ joined gs

-- there is a first row, and a piece of so many bytes has no room for it
abbrev pub BeginsAfter : ℕ → List RowBytes → Type 0
BeginsAfter before [] = ⊥
BeginsAfter before (r ∷ rs) = PIECE_LIMIT < before + length (row_bytes r)

-- a piece of the one group has no room for the first row of the other, which has one
abbrev pub IsFullBefore : List RowBytes → List RowBytes → Type 0
IsFullBefore group next = BeginsAfter (length (piece_of group)) next

-- the same of this group and the first of those, and so on
abbrev pub AreFull : List RowBytes → List (List RowBytes) → Type 0
AreFull group [] = ⊤
AreFull group (next ∷ groups) = IsFullBefore group next × AreFull next groups

-- Each group has a row, and the next one begins only where a piece has no room.
abbrev pub IsGreedy : List (List RowBytes) → Type 0
IsGreedy [] = ⊤
IsGreedy (group ∷ groups) = (0 < length group) × AreFull group groups

-- no piece is too long
abbrev pub AreWithin : List (List RowBytes) → Type 0
AreWithin groups = AllByRecursion (λ group. length (piece_of group) ≤ PIECE_LIMIT) groups

-- The pieces are those of groups of the rows, in their order.
pub record IsCutOf (ps : List (List ℕ)) (rows : List RowBytes) : Type 0 where
  pub groups : List (List RowBytes)
  pub pieces_are : ps ≡ map piece_of groups
  pub rows_are : rows ≡ joined groups
  pub within : AreWithin groups
  pub greedy : IsGreedy groups
