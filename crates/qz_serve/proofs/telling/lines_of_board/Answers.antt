use Rattle.std.proofs.Common.{◌∙◌, ap}
use Rattle.std.specs.List.{flat_map}
use Rattle.qz_board_lines.specs.Lines.{board_text}
use Rattle.qz_serve.proofs.Coursing.{if_ok_map}
use Rattle.qz_serve.proofs.telling.lines_of_board.Goals as goal

pub returns : goal.returns
returns g c = if_ok_map _ _ c.board_lines.result (λ lines are. record {
  glances = c.in_ok-glances.glances.items;
  count = c.in_ok-glances.ensures.count;
  are_looks = c.in_ok-glances.ensures.all;
  lines_are = are ∙ ap (flat_map board_text) c.as_slice.ensures;
}) c.board_lines.ensures
