use Rattle.std.proofs.Common.{◌≡◌, Some}
use mathlib.Core.List.{IsPrefix}
use Rattle.qz_board.specs.Boards.{offered, writer_basis, writer_board}
use Rattle.qz_board_tests.proofs.threads.post_many.Given as goal

abbrev pub invariant-loop-number : goal.invariant-loop-number
invariant-loop-number g l = IsPrefix (offered l.writer) l.numbers.entries.items × (writer_basis l.writer ≡ Some l.numbers.before) × (writer_board l.writer ≡ writer_board l.initial.writer)
