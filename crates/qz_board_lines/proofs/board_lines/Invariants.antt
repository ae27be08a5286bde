use Rattle.std.proofs.Common.{◌≡◌, take, string_bytes}
use Rattle.std.specs.List.{flat_map}
use Rattle.qz_board_lines.specs.Lines.{board_text}
use Rattle.qz_board_lines.proofs.board_lines.Given as goal

abbrev pub invariant-loop-glance : goal.invariant-loop-glance
invariant-loop-glance l = string_bytes l.text ≡ flat_map board_text (take l.glance-index l.glances)
