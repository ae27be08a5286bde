use Rattle.std.proofs.Common.{sym}
use Rattle.qz_serve.proofs.Moving.{moves_then}
use Rattle.qz_serve.proofs.both_stores.BothStores.join_each.Goals as goal

pub returns-in-Err : goal.returns-in-Err
returns-in-Err g c = moves_then _ _ _ _ _ _ c.loop-name.invariant (c.in-Err.ensures c.args.names.now (c.loop-name.name-index, c.loop-name-test.true, sym c.name-item.is))

pub loop-name-preserved : goal.loop-name-preserved
loop-name-preserved g c = moves_then _ _ _ _ _ _ c.loop-name.invariant (c.in-Ok.ensures c.args.names.now (c.loop-name.name-index, c.loop-name-test.true, sym c.name-item.is))
