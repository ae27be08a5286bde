use Rattle.qz_serve.proofs.Lists.{contains_one}
use Rattle.qz_serve.proofs.Moving.{moves_starved_then}
use Rattle.qz_serve.proofs.both_stores.BothStores.enter.Goals as goal

pub returns-in-Ok-member-clause-moves : goal.returns-in-Ok-member-clause-moves
returns-in-Ok-member-clause-moves g c = c.in-Ok.ensures _ (contains_one _)

pub returns-in-Err-member-clause-moves : goal.returns-in-Err-member-clause-moves
returns-in-Err-member-clause-moves g c = moves_starved_then _ _ _ _ (c.in-Ok.ensures _ (contains_one _))

pub returns-in-Err-clause-moves : goal.returns-in-Err-clause-moves
returns-in-Err-clause-moves g c = c.in-Err.ensures _ (contains_one _)
