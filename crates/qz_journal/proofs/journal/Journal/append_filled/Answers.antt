use Rattle.std.proofs.Common.{◌∙◌, sym, ap, Some}
use Rattle.qz_journal.proofs.Fills.{fault_only}
use Rattle.qz_journal.proofs.journal.Journal.append_filled.Goals as goal

pub returns-in-Err-clause-fault : goal.returns-in-Err-clause-fault
returns-in-Err-clause-fault g c =
    let e = c.append_group.ensures in
    let s = c.args.self.now in
    let rose = e.fault (fault_only c.in-Err.field-0 c.append_group.result s.closed s.gate s.count _ c.in-Err.is c.requires.ready c.requires.room (λ at. (e.closed at).0) (λ need room. (e.full need room).0)) in
    (rose.0, rose.2 ∙ ap Some (sym c.in-Err.ensures.same_place.0))
