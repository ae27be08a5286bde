-- Payloads that are the pieces of rows.
use Rattle.std.specs.Prelude.{◌≡◌, ℕ, ⊤, suc, ◌<◌, ◌≤◌, nat_lt, Option, Some, None, List, [], ◌∷◌, take, length, if◌then◌else◌}
use Rattle.qz_pieces.specs.Kinds.{kind_byte}
use Rattle.qz_pieces.specs.declared.cutting.TheConstants.{PIECE_LIMIT}
use Rattle.qz_pieces.specs.declared.payloads.ReadError.{ReadError}
use Rattle.qz_pieces.specs.declared.payloads.ReadError.TheVariants.{Damaged, NoMemory}
use Rattle.qz_pieces.specs.Pieces.{RowBytes, AreShort, BeginsAfter, piece_of, pieces}

-- no row is of a kind before this one, nor of one before the kind of the row before it
abbrev pub AreFromKind : ℕ → List RowBytes → Type 0
AreFromKind least [] = ⊤
AreFromKind least (r ∷ rows) = (least ≤ kind_byte r.kind) × AreFromKind (kind_byte r.kind) rows

-- rows in the order of their kinds
abbrev pub AreInOrder : List RowBytes → Type 0
AreInOrder rows = AreFromKind 0 rows

-- The payloads are the pieces of these rows, which are in the order of their kinds.
pub record ArePiecesOf (payloads : List (List ℕ)) (rows : List RowBytes) : Type 0 where
  pub short : AreShort rows
  pub order : AreInOrder rows
  pub cut : payloads ≡ pieces rows

-- The payloads are the pieces of some rows.
pub record ArePieces (payloads : List (List ℕ)) : Type 0 where
  pub rows : List RowBytes
  pub are : ArePiecesOf payloads rows

-- The payloads before this one are the pieces of some rows, and with this one they aren't.
pub record IsFirstBad (payloads : List (List ℕ)) (place : ℕ) : Type 0 where
  pub there : place < length payloads
  pub before : ArePieces (take place payloads)
  pub bad : (rows : List RowBytes) → ArePiecesOf (take (suc place) payloads) rows → ⊥

-- of an error that names a payload
abbrev pub IfDamaged : ReadError → (ℕ → Type 0) → Type 0
IfDamaged (Damaged place) P = P place
IfDamaged NoMemory P = ⊤

-- A piece of these rows, which may stand after one of so many bytes whose last row is of this kind.
pub record MayFollow (before least : ℕ) (piece : List ℕ) (rows : List RowBytes) : Type 0 where
  pub short : AreShort rows
  pub piece_is : piece ≡ piece_of rows
  pub within : length piece ≤ PIECE_LIMIT
  pub begins : BeginsAfter before rows
  pub order : AreFromKind least rows

-- the kind of the last row, or this one where there is no row
abbrev pub kind_after : ℕ → List RowBytes → ℕ
kind_after least [] = least
kind_after least (r ∷ rows) = kind_after (kind_byte r.kind) rows

-- the same where the rows are from this kind on, and else nothing
abbrev pub last_kind : ℕ → List RowBytes → Option ℕ
last_kind least [] = Some least
last_kind least (r ∷ rows) = if nat_lt (kind_byte r.kind) least then None else last_kind (kind_byte r.kind) rows
