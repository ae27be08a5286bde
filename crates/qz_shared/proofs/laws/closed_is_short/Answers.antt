use Rattle.qz_shared.proofs.Sinces.{closed_short}
use Rattle.qz_shared.proofs.laws.closed_is_short.Goals as goal

pub returns : goal.returns
returns g c = λ first now since few. closed_short g.S.RowStore.kind g.S.RowStore.listed g.met.S.RowStore.lists first now since few
