-- What becomes of a planned number of looks while nodes work.
use Rattle.std.specs.Prelude.{◌≡◌, Option, Some, None}
use Rattle.qz_board.specs.declared.shown.Subject.{Ghosts}
use Rattle.qz_board_looks.specs.Watches.{GoesOn}
use Rattle.qz_board_looks.specs.declared.watches.Watch.{Watch}

module _ {K E G : Type 0} {g : Ghosts K E G} where
  -- Some of the looks were made, if there are any.
  abbrev pub Watched : Option (Watch K E G g) → Option (Watch K E G g) → Type 0
  Watched None after = after ≡ None
  Watched (Some before) None = ⊥
  Watched (Some before) (Some after) = GoesOn before after
