use Rattle.qz_board.proofs.Keeping.{sees}
use Rattle.qz_board.proofs.board.steps.read.Goals as goal

pub enter_as-requires : goal.enter_as-requires
enter_as-requires g c x = sees g.K.Subject.glance_of _ _ x
