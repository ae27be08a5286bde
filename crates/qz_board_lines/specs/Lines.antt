-- How a board is printed.
use Rattle.std.specs.Prelude.{ℕ, List, [], ◌∷◌, ◌++◌, codes}
use Rattle.std.specs.Fmt.{decimal, signed_decimal}
use Rattle.qz_report.specs.Optional.{next_text}
use Rattle.qz_board.specs.declared.glance.Glance.{Glance}

-- The line, with its line feed.
abbrev pub board_text : Glance → List ℕ
board_text g =
    codes "board " ++ decimal g.entries ++ codes " executing " ++ decimal g.executing
    ++ codes " jobs " ++ decimal g.jobs ++ codes " triggers " ++ decimal g.triggers
    ++ codes " next " ++ next_text g.next ++ codes " at " ++ signed_decimal g.last ++ 10 ∷ []
