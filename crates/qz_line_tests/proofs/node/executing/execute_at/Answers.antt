use Rattle.qz_node.proofs.Calling.{calls_first}
use Rattle.qz_line_tests.proofs.node.executing.execute_at.Goals as goal

pub returns : goal.returns
returns g c = calls_first _ _ _ _ _ _ _ c.requires.first c.index_mut-job.ensures.value c.execute_boxed.ensures
