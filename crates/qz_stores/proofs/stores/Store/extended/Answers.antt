use Rattle.std.proofs.Common.{sym, subst}
use Rattle.qz_disk.specs.Disk.{LeavesOnly}
use Rattle.qz_stores.specs.Extending.{with_entries, HoldsFirst}
use Rattle.qz_stores.proofs.TakingOver.{none_of, opened_as}
use Rattle.qz_stores.proofs.stores.Store.extended.Goals as goal

pub returns-in-Err-clause-any_moment : goal.returns-in-Err-clause-any_moment
returns-in-Err-clause-any_moment g c honest w same given =
    let s = c.args.self in
    let k = g.K.Kind.kind in
    let l = g.met.K.Kind.lawful in
    let en = c.args.entries.now.items in
    let disk = g.D.Disk.state s.journal.disk in
    subst (λ d. LeavesOnly disk (g.D.Disk.state d) (HoldsFirst k (with_entries w s.added.items) en)) (sym c.into_disk.ensures)
    (none_of k l s.version w s.added.items en disk same (g.met.D.Disk.lawful honest s.journal.disk) (s.journal.durable honest (s.ready c.requires.open)) (s.stands honest c.requires.open w.start w.entries (opened_as k l s.version w _ same given)))
