-- Rows of one kind, and their records.
use Rattle.std.specs.Prelude.{⊤, ◌≡◌, ◌≢◌, List, [], ◌∷◌, ◌++◌, ℕ, map}
use Rattle.std.specs.List.{AllZip}
use Rattle.qz_values.specs.declared.versions.Version.{Version}
use Rattle.qz_values.specs.declared.versions.Version.TheVariants.{Two}
use Rattle.qz_codec.specs.Records.{recorded, IsRecord}
use Rattle.qz_pieces.specs.declared.kinds.RowKind.{RowKind}
use Rattle.qz_pieces.specs.Pieces.{RowBytes}

-- records, as the rows of pieces that have this kind
abbrev pub of_kind : RowKind → List (List ℕ) → List RowBytes
of_kind kind records = map (λ bytes. record { kind = kind; bytes = bytes }) records

-- the records of rows in version two, whose fields are written so
abbrev pub written : {A : Type 0} → (Version → A → List ℕ) → List A → List (List ℕ)
written fields rows = map (recorded fields Two) rows

-- there is no row, or the first is of another kind
abbrev pub BeginsOther : RowKind → List RowBytes → Type 0
BeginsOther kind [] = ⊤
BeginsOther kind (r ∷ rows) = r.kind ≢ kind

-- The rows begin with records of these rows, all of this kind, in version one or two, and go on with another kind or end.
pub record BeginWith {A : Type 0} (write : Version → A → List ℕ) (Has : Version → A → Type 0) (kind : RowKind) (rows : List RowBytes) (found : List A) (rest : List RowBytes) : Type 0 where
  pub records : List (List ℕ)
  pub parts : rows ≡ of_kind kind records ++ rest
  pub recorded : AllZip (IsRecord write Has) records found
  pub other : BeginsOther kind rest
