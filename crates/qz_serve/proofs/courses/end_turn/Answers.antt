use Rattle.qz_serve.proofs.Holding.{moved_well, moved_short}
use Rattle.qz_serve.proofs.courses.end_turn.Goals as goal

pub returns-in-Ok-clause-came : goal.returns-in-Ok-clause-came
returns-in-Ok-clause-came g c = c.in-Ok.ensures.moved

pub returns-in-Ok-clause-proceeds : goal.returns-in-Ok-clause-proceeds
returns-in-Ok-clause-proceeds g c = moved_well _ _ _ _ c.keep_all.ensures c.requires c.in-Ok.ensures

pub returns-in-Err-clause-came : goal.returns-in-Err-clause-came
returns-in-Err-clause-came g c = c.in-Err.ensures.moved

pub returns-in-Err-clause-proceeds : goal.returns-in-Err-clause-proceeds
returns-in-Err-clause-proceeds g c = moved_short _ _ c.in-Err.why _ _ c.keep_all.ensures c.in-Err.ensures

pub returns-in-Err-clause-declined : goal.returns-in-Err-clause-declined
returns-in-Err-clause-declined g c until = c.in-Err.ensures.declined until
