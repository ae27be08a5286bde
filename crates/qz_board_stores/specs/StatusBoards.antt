-- What contracts read of a call's board.
use Rattle.std.specs.Prelude.{◌≡◌, ℕ, List, Some}
use mathlib.Core.List.{IsPrefix}
use Rattle.qz_types.specs.Entries.{EntryData}
use Rattle.qz_model.specs.History.{History}
use Rattle.qz_board.specs.Boards.{offered, writer_basis}
use Rattle.qz_board_looks.specs.Watches.{first_of, planned}
use Rattle.qz_board_stores.specs.Glances.{base_of}
use Rattle.qz_board_stores.specs.declared.status_boards.StatusBoard.{StatusBoard}

module _ {R : Type 0} where
  -- How many looks there will be at it, before the last one.
  abbrev pub looks_of : StatusBoard R → ℕ
  looks_of b = planned b.watch

  -- The entries that it showed at first.
  abbrev pub opened_with : StatusBoard R → List EntryData
  opened_with b = first_of b.watch

  -- The board shows a beginning of this history.
  pub record ShowsUpTo (b : StatusBoard R) (h : History) : Type 0 where
    pub goes_on : IsPrefix (offered b.writer) h.entries
    pub basis : writer_basis b.writer ≡ Some (base_of h)
