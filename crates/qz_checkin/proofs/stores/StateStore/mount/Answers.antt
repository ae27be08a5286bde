use Rattle.std.proofs.Common.{◌++◌}
use Rattle.qz_stores.specs.View.{view, opened_of}
use Rattle.qz_checkin.specs.Bytes.{Whole, list_of}
use Rattle.qz_checkin.proofs.Openings.{whole_there, goes_on}
use Rattle.qz_checkin.proofs.stores.StateStore.mount.Goals as goal

pub returns-in-Ok-clause-stands : goal.returns-in-Ok-clause-stands
returns-in-Ok-clause-stands g c honest =
    let s = c.in-Ok.store in
    let e = c.in-Ok.ensures in
    let b = (g.D.Disk.state c.args.disk).content in
    (whole_there s.version b (view s).history (e.stands honest), goes_on s.version (opened_of s) b (view s).history (e.bytes honest).0 (e.stands honest))

pub returns-in-Ok-clause-told : goal.returns-in-Ok-clause-told
returns-in-Ok-clause-told g c honest =
    let s = c.in-Ok.store in
    let whole : Whole = list_of s.version (s.found.items ++ s.added.items) in
    (honest, ∣ (whole, (returns-in-Ok-clause-stands g c honest).1) ∣₁)
