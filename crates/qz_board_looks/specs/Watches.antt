-- What contracts read of a planned number of looks.
use Rattle.std.specs.Prelude.{◌≡◌, ℕ, ◌+◌, List, Option, length}
use Rattle.qz_board.specs.Boards.{seen, reader_basis, reader_board}
use Rattle.qz_board.specs.declared.shown.Subject.{Ghosts}
use Rattle.qz_board_looks.specs.declared.watches.Watch.{Watch}

module _ {K E G : Type 0} {g : Ghosts K E G} where
  -- How many looks there will be, before the last one.
  abbrev pub planned : Watch K E G g → ℕ
  planned w = length w.looks.glances.items + w.left

  -- The history that the reader had seen before all looks.
  abbrev pub first_of : Watch K E G g → List E
  first_of w = seen w.looks.first.value

  -- What all histories begin with that the reader sees.
  abbrev pub watched_basis : Watch K E G g → Option G
  watched_basis w = reader_basis w.looks.reader

  -- Some of the planned looks were made, at the same board.
  pub record GoesOn (v w : Watch K E G g) : Type 0 where
    pub planned : planned w ≡ planned v
    pub first : w.looks.first ≡ v.looks.first
    pub basis : watched_basis w ≡ watched_basis v
    pub board : reader_board w.looks.reader ≡ reader_board v.looks.reader
