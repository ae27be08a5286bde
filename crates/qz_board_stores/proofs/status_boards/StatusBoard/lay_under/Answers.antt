use Rattle.qz_rounds.proofs.Lists.{prefix_trans}
use Rattle.qz_board_stores.proofs.Beginning.{begins_by_rest}
use Rattle.qz_board_stores.proofs.status_boards.StatusBoard.lay_under.Goals as goal

pub over-requires-clause-begins : goal.over-requires-clause-begins
over-requires-clause-begins g c = prefix_trans _ _ _ (begins_by_rest _ _ c.args.self.begins) c.requires.goes_on
