use Rattle.std.proofs.Common.{◌≡◌}
use mathlib.Core.List.{IsPrefix}
use Rattle.qz_board.specs.Boards.{seen, reader_basis, reader_board}
use Rattle.qz_board_looks.proofs.last.look_until.Given as goal

-- The reader has seen the whole history, and all that it had seen before.
abbrev pub invariant-loop : goal.invariant-loop
invariant-loop g l = record {
  told : IsPrefix (g.S.Shown.history l.fn.from) (seen l.reader);
  later : IsPrefix (seen l.fn.reader) (seen l.reader);
  basis : reader_basis l.reader ≡ reader_basis l.fn.reader;
  board : reader_board l.reader ≡ reader_board l.fn.reader;
}
