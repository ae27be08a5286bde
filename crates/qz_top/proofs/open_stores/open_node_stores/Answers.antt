use Rattle.qz_top.proofs.OpenLaws.{old_is_none, old_is_other, old_is_no_fault}
use Rattle.qz_top.proofs.open_stores.open_node_stores.Goals as goal

pub returns-in-Ok-clause-ok : goal.returns-in-Ok-clause-ok
returns-in-Ok-clause-ok g c = c.stores_of.ensures.ok c.args.triggers c.args.states c.in-Ok.ensures.ok

pub returns-in-Ok-clause-err : goal.returns-in-Ok-clause-err
returns-in-Ok-clause-err g c = old_is_none c.args.triggers c.args.states c.stores_of.result (c.stores_of.ensures.err c.args.triggers c.args.states c.in-Ok.ensures.ok)

pub returns-in-Ok-clause-other : goal.returns-in-Ok-clause-other
returns-in-Ok-clause-other g c = old_is_other c.stores_of.result c.stores_of.ensures.old

pub returns-in-Ok-clause-disk : goal.returns-in-Ok-clause-disk
returns-in-Ok-clause-disk g c = old_is_no_fault _ c.stores_of.result c.stores_of.ensures.old
