-- Cutting a text at marks.
use Rattle.std.specs.Prelude.{ℕ, ◌+◌, List, Option, Some, None, ◌==◌, take, drop, [], ◌∷◌, Bool}
use Rattle.std.specs.List.{position, slice_split}

-- the bytes before the first mark, and those after it
pub record Parts : Type 0 where
  pub front : List ℕ
  pub rest : Option (List ℕ)

abbrev pub cut_where : Option ℕ → List ℕ → Parts
cut_where None bytes = record { front = bytes; rest = None }
cut_where (Some place) bytes = record { front = take place bytes; rest = Some (drop (place + 1) bytes) }

unfoldable pub cut_at : ℕ → List ℕ → Parts
cut_at mark bytes = cut_where (position (λ b. b == mark) bytes) bytes

-- the pieces between marks, of a text whose first piece is cut off
abbrev pub pieces_by : (ℕ → Bool) → List ℕ → Option (List ℕ) → List (List ℕ)
pieces_by is_mark front None = front ∷ []
pieces_by is_mark front (Some rest) = front ∷ slice_split is_mark rest

abbrev pub pieces : ℕ → List ℕ → Option (List ℕ) → List (List ℕ)
pieces mark front rest = pieces_by (λ b. b == mark) front rest
