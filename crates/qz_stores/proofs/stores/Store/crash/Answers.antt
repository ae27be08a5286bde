use Rattle.std.proofs.Common.{◌++◌}
use Rattle.qz_stores.proofs.Appending.{leaves_images}
use Rattle.qz_stores.proofs.Histories.{same_left}
use Rattle.qz_stores.proofs.stores.Store.crash.Goals as goal

pub invariant_of-self-clause-images : goal.invariant_of-self-clause-images
invariant_of-self-clause-images g c honest start whole held b is = c.args.self.now.images honest start whole held b (c.crash.ensures.images honest b is)

pub returns-clause-leaves : goal.returns-clause-leaves
returns-clause-leaves g c honest =
    let k = g.K.Kind.kind in
    let l = g.met.K.Kind.lawful in
    let s = c.args.self.now in
    same_left k l s.version s.base_count (g.K.Kind.state s.base.value) (g.D.Disk.state s.opened.value.disk).content s.found.items (s.ended honest) s.added.items s.added.items s.undecided s.undecided (g.D.Disk.state s.journal.disk) (g.D.Disk.state c.crash.new.self.disk)
    (λ start whole held. leaves_images k l s.version start (whole ++ s.added.items) s.undecided (g.D.Disk.state s.journal.disk) (g.D.Disk.state c.crash.new.self.disk) (c.crash.ensures.any_moment honest) (s.images honest start whole held))
