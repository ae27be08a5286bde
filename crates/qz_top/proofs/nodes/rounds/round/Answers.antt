use Rattle.qz_run.proofs.Going.{round_fires}
use Rattle.qz_top.proofs.nodes.rounds.round.Goals as goal

pub returns-in_ok-finish-in-Some-clause-ok : goal.returns-in_ok-finish-in-Some-clause-ok
returns-in_ok-finish-in-Some-clause-ok g c = round_fires _ _ _ _ _ _ _ _ _ _ (c.in_ok-settle.ensures.ok) (rw c.in-Some.is at c.in_ok-ask_acquire.ensures.ok) c.in_ok-context-in-Some.ensures.ok c.in_ok-finish-in-Some.ensures.ok
