use Rattle.std.proofs.Common.{◌∙◌, ◌++◌, sym, ap}
use Rattle.qz_stores.specs.View.{view, opened_of}
use Rattle.qz_checkin.specs.Bytes.{Whole, list_of}
use Rattle.qz_checkin.proofs.Openings.{whole_there, goes_on}
use Rattle.qz_checkin.proofs.stores.StateStore.open.Goals as goal

pub returns-clause-stands : goal.returns-clause-stands
returns-clause-stands g c honest =
    let s = c.open.new.self in
    let e = c.open.ensures in
    let b = (g.D.Disk.state s.journal.disk).content in
    let opened = e.bytes honest ∙ ap (λ d. (g.D.Disk.state d).content) (sym e.disk) in
    (whole_there s.version b (view s).history (e.stands honest), goes_on s.version (opened_of s) b (view s).history opened (e.stands honest))

pub returns-clause-told : goal.returns-clause-told
returns-clause-told g c honest =
    let s = c.open.new.self in
    let whole : Whole = list_of s.version (s.found.items ++ s.added.items) in
    (honest, ∣ (whole, (returns-clause-stands g c honest).1) ∣₁)
