use Rattle.qz_node.proofs.Calling.{calls_first}
use Rattle.qz_serve.proofs.threads.executing.call_at.Goals as goal

pub returns-clause-called : goal.returns-clause-called
returns-clause-called g c = calls_first _ _ _ _ _ _ _ c.requires.found c.index_mut-job.ensures.value c.call_box.ensures.counted
