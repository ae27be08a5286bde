use Rattle.qz_serve.proofs.Moving.{moves_then}
use Rattle.qz_serve.proofs.both_stores.BothStores.part.Goals as goal

pub returns-then-is_member : goal.returns-then-is_member
returns-then-is_member g c names within = moves_then _ names _ _ _ _ (c.in-Ok.ensures names within) (c.join.ensures names within)

pub returns-else-is_member : goal.returns-else-is_member
returns-else-is_member g c names within = moves_then _ names _ _ _ _ (c.in-Ok.ensures names within) (c.forget.ensures names within)
