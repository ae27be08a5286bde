-- What an opening from the slot in use on takes.
use Rattle.std.specs.Prelude.{◌≡◌, ◌&&◌, ℕ, ◌<◌, ◌≤◌, ◌==◌, nat_le, Bool, true, List, ◌∷◌, length, slice_index}
use Rattle.std.specs.List.{list_all}
use Rattle.qz_types.specs.Tables.{SchedulerTables}
use Rattle.qz_model.specs.Invariant.{TablesValid}
use Rattle.qz_snapshot.specs.declared.heads.Head.{Head}
use Rattle.qz_snapshot.specs.Heads.{head_bytes, HasWidths}
use Rattle.qz_snapshot.specs.Snapshots.{BeginSnapshot}

-- a payload of a snapshot, its head or a piece: it begins with F0 or F1
abbrev pub is_part : List ℕ → Bool
is_part payload = nat_le 240 (slice_index payload 0) && nat_le (slice_index payload 0) 241

-- Payloads that begin with a snapshot that an opening takes: of valid tables, and with no more entries than payloads before it.
pub record BeginWell (payloads : List (List ℕ)) (T : SchedulerTables) (entries : ℕ) : Type 0 where
  pub before : ℕ
  pub more : List (List ℕ)
  pub begin : BeginSnapshot payloads T before entries more
  pub counted : entries ≤ before
  pub valid : TablesValid T

-- a piece begins with F1
abbrev pub is_piece : List ℕ → Bool
is_piece payload = slice_index payload 0 == 241

-- Payloads are the head of a snapshot and pieces, of which fewer are there than it says.
pub record AreCutShort (payloads : List (List ℕ)) : Type 0 where
  pub head : Head
  pub pieces : List (List ℕ)
  pub parts : payloads ≡ head_bytes head ∷ pieces
  pub widths : HasWidths head
  pub are_pieces : list_all is_piece pieces ≡ true
  pub short : length pieces < head.pieces
