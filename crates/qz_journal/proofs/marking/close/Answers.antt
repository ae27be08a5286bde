use Rattle.std.proofs.Common.{arith}
use Rattle.qz_journal.proofs.Marks.{close_leaves, closes}
use Rattle.qz_journal.proofs.marking.close.Goals as goal

pub returns-clause-closed : goal.returns-clause-closed
returns-clause-closed g c h = closes _ c.args.gate _ _ c.requires.place (let whole = g.met.D.Disk.whole h c.args.disk.now in omega (arith, whole, c.requires.long)) (c.put_through.ensures.told h)

pub returns-clause-any_moment : goal.returns-clause-any_moment
returns-clause-any_moment g c h durable offset opened =
    close_leaves _ c.args.gate offset _ _ c.requires.place (let whole = g.met.D.Disk.whole h c.args.disk.now in omega (arith, whole, c.requires.long)) durable opened (c.put_through.ensures.told h)
