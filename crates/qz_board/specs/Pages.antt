-- What holds of the sheet that a board shows, and how sheets of one board are told from those of another: all are of one
-- list of posts, which has a name, its book.
use Rattle.std.specs.Prelude.{◌≡◌, ℕ, List, Option, Some, IsSome}
use mathlib.Core.Option.{some}
use lib.ListN.{get_elem?}
use Rattle.logbook.specs.Pages.{Book}
use Rattle.qz_board.specs.declared.glance.Glance.{Glance}
use Rattle.qz_board.specs.declared.page.Sheet.{Sheet}
use Rattle.qz_board.specs.Posts.{entries_of, basis_of, Shows}

module _ {E G : Type 0} where
  -- The list of posts that the sheet is of.
  abbrev pub book_of : Sheet E G → Book
  book_of s = s.front.book

  module _ (glance_of : G → List E → Glance) where
    -- The sheet shows its posts, of which there is one at least.
    pub record IsTrue (s : Sheet E G) : Type 0 where
      pub begun : IsSome (basis_of s.front.log)
      pub shows : Shows glance_of (basis_of s.front.log) (entries_of s.front.log) s.glance

    -- What holds between any two steps, of the sheet that is shown and of what is known: nothing, or a sheet that was
    -- seen. The sheet is true, and each that was seen is of the same board.
    pub record Keeps (sheet : Sheet E G) (views : List (Option (Sheet E G))) : Type 0 where
      pub true : IsTrue sheet
      pub one : (seat : ℕ) (seen : Sheet E G) → get_elem? views seat ≡ some (Some seen) → book_of seen ≡ book_of sheet

    -- The sheet that is shown then was seen, and is true. It is of the board of what was seen before.
    pub record Looks (v : Option (Sheet E G)) (x y : Sheet E G) (w : Option (Sheet E G)) : Type 0 where
      pub true : IsTrue y
      pub one : (seen : Sheet E G) → v ≡ Some seen → book_of y ≡ book_of seen
      pub view : w ≡ Some y
