use Rattle.std.proofs.Common.{Some, sym, subst}
use Rattle.qz_journal.specs.Beginning.{Begins}
use Rattle.qz_journal.specs.declared.errors.NewStoreError.TheVariants as new_store
use Rattle.qz_journal.proofs.Creation.{new_slots}
use Rattle.qz_journal.proofs.Naming.{not_begun, begun, begun_in_part}
use Rattle.qz_journal.proofs.journal.Journal.begin.Goals as goal

pub invariant_of-journal-clause-durable : goal.invariant_of-journal-clause-durable
invariant_of-journal-clause-durable g c honest is_open = (c.in-Ok.ensures.made honest).durable

pub invariant_of-journal-clause-slot_a : goal.invariant_of-journal-clause-slot_a
invariant_of-journal-clause-slot_a g c honest is_open = sym (new_slots c.args.version 0 _ (c.in-Ok.ensures.made honest).header).0

pub invariant_of-journal-clause-slot_b : goal.invariant_of-journal-clause-slot_b
invariant_of-journal-clause-slot_b g c honest is_open = sym (new_slots c.args.version 0 _ (c.in-Ok.ensures.made honest).header).1

pub returns-in-Ok-fill_in-clause-begun : goal.returns-in-Ok-fill_in-clause-begun
returns-in-Ok-fill_in-clause-begun g c honest =
    let e = c.in-Ok.ensures in
    let f = c.in-Ok-fill_in.ensures in
    let new = e.made honest in
    begun c.args.version c.args.kind c.args.payloads.now _ _ _ (e.found honest) (e.any_moment honest) (f.any_moment honest new.empty) (f.leads honest new.empty) (c.fill_in.new.self.durable honest f.filled.4)

pub returns-in-Ok-clause-begun : goal.returns-in-Ok-clause-begun
returns-in-Ok-clause-begun g c honest =
    let e = c.in-Ok.ensures in
    let new = e.made honest in
    subst (λ d. Begins c.args.version c.args.kind c.args.payloads.now (Some new_store.Fault) (g.D.Disk.state c.args.disk) (g.D.Disk.state d)) (sym c.into_disk.ensures)
    (begun_in_part c.args.version c.args.kind c.args.payloads.now _ _ _ (e.found honest) (e.any_moment honest) (c.in-Err-fill_in.ensures.any_moment honest new.empty))

pub returns-clause-begun : goal.returns-clause-begun
returns-clause-begun g c honest =
    let e = c.in-Err.ensures in
    not_begun c.args.version c.args.kind c.args.payloads.now c.in-Err.error _ _ (e.found honest) (e.made honest) (e.kept honest) (e.any_moment honest)
