use Rattle.qz_standby.proofs.Looking.{found_by}
use Rattle.qz_standby.proofs.fronts.look_at_both.Goals as goal

pub returns-clause-found : goal.returns-clause-found
returns-clause-found g c honest = rw c.of_fronts.ensures.value (found_by c.in-Ok.first c.in-Ok-look.second _ _ (c.in-Ok.ensures.front honest) (c.in-Ok-look.ensures.front honest))
