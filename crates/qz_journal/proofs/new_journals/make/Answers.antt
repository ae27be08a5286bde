use Rattle.qz_journal.proofs.Creation.{made_not, made_new, none_there}
use Rattle.qz_journal.proofs.new_journals.make.Goals as goal

pub returns-in-Ok-put_through-clause-made : goal.returns-in-Ok-put_through-clause-made
returns-in-Ok-put_through-clause-made g c h =
    let old = g.D.Disk.state c.args.disk.now in
    let puts = c.in-Ok-put_through.ensures.told h in
    made_new c.args.version c.args.kind old (g.D.Disk.state c.look.new.disk) (c.look.ensures.unchanged h) (c.look.ensures.any_moment h) c.put_through.result c.empty_store.result (g.D.Disk.state c.put_through.new.disk) c.empty_store.ensures.header
    c.empty_store.ensures.bytes (c.put_through.ensures.told h) (none_there c.in-Ok.front old.content c.args.kind c.in-Neither.is (c.in-Ok.ensures.front h)) puts.content puts.durable

pub returns-in-Err-clause-made : goal.returns-in-Err-clause-made
returns-in-Err-clause-made g c h =
    let old = g.D.Disk.state c.args.disk.now in
    made_not c.args.version c.args.kind old (g.D.Disk.state c.look.new.disk) (c.look.ensures.unchanged h) (c.look.ensures.any_moment h) c.put_through.result c.empty_store.result (g.D.Disk.state c.put_through.new.disk) c.empty_store.ensures.header
    c.empty_store.ensures.bytes (c.put_through.ensures.told h) (none_there c.in-Ok.front old.content c.args.kind c.in-Neither.is (c.in-Ok.ensures.front h))
