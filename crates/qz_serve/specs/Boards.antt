-- What a call's board shows, and the lines of it.
use Rattle.std.specs.Prelude.{◌≡◌, ℕ, ◌+◌, List, [], ◌++◌, length, Option, Some, None, IfSome, option_map}
use Rattle.std.specs.List.{flat_map}
use Rattle.qz_board.specs.declared.glance.Glance.{Glance}
use Rattle.qz_board_lines.specs.Lines.{board_text}
use Rattle.qz_board_looks.specs.Looks.{EndWithAll}
use Rattle.qz_board_stores.specs.Glances.{at_a_glance, base_of, history_on}
use Rattle.qz_board_stores.specs.StatusBoards.{ShowsUpTo, looks_of, opened_with}
use Rattle.qz_board_stores.specs.declared.status_boards.StatusBoard.{StatusBoard}
use Rattle.qz_io.specs.Outside.{Outside}
use Rattle.qz_model.specs.History.{History}
use Rattle.qz_types.specs.Entries.{EntryData}
use Rattle.qz_top.specs.NodeRuns.{WritesRun}
use Rattle.qz_top.specs.declared.statuses.Status.{Status}

-- How many looks there will be at a board before the last one, and the entries that it showed at first.
pub record LookPlan : Type 0 where
  pub looks : ℕ
  pub opened : List EntryData

module _ {R : Type 0} where
  -- The board, if there is one, shows a beginning of this history.
  abbrev pub ShowsSoFar : Option (StatusBoard R) → History → Type 0
  ShowsSoFar board h = IfSome board (λ b. ShowsUpTo b h)

  abbrev pub plan_of : Option (StatusBoard R) → Option LookPlan
  plan_of board = option_map (λ b. record { looks = looks_of b; opened = opened_with b }) board

-- the plan of a call with so many looks, or with none, over a store that was opened with these entries
abbrev pub plan : Option ℕ → List EntryData → Option LookPlan
plan looks opened = option_map (λ n. record { looks = n; opened = opened }) looks

-- The lines of a board with so many looks, and of the last one. They are the glances of histories that go on from the opened one, each
-- of which begins the next one. The last of them is the whole history at the end.
pub record ShowsBoard (looks : ℕ) (opened : List EntryData) (end : History) (lines : List ℕ) : Type 0 where
  pub glances : List Glance
  pub count : length glances ≡ looks + 1
  pub are_looks : ∥ EndWithAll (λ entries. at_a_glance (history_on (base_of end) entries)) opened glances end.entries ∥₁
  pub lines_are : lines ≡ flat_map board_text glances

-- The lines of a board where looks were asked for, and else none.
abbrev pub AreBoardLines : Option ℕ → List EntryData → History → List ℕ → Type 0
AreBoardLines None opened end lines = lines ≡ []
AreBoardLines (Some looks) opened end lines = ShowsBoard looks opened end lines

-- A text was written after the lines of the board, as far as the status says.
pub record WritesAfterBoard (looks : Option ℕ) (opened : List EntryData) (end : History) (told_as : Status) (text : List ℕ) (old new : Outside) : Type 0 where
  pub lines : List ℕ
  pub are_lines : AreBoardLines looks opened end lines
  pub written : WritesRun told_as (lines ++ text) old new
