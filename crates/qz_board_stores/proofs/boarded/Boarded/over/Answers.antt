use Rattle.std.proofs.Common.{◌∙◌}
use Rattle.qz_board.specs.Boards.{posted}
use Rattle.qz_trigger_store.specs.View.{view}
use Rattle.qz_board_stores.proofs.Beginning.{post_begins}
use Rattle.qz_board_stores.proofs.boarded.Boarded.over.Goals as goal

pub invariant_of-result : goal.invariant_of-result
invariant_of-result g c = record {
  told = c.post.ensures.offered;
  based = c.post.ensures.kept.0 ∙ c.requires.basis;
  begins = post_begins c.post.result (posted c.post.new.self) (posted c.args.writer) (view c.args.store.store).history.entries c.post.ensures.ok c.post.ensures.err c.requires.begins;
}
