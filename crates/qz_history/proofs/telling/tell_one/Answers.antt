use Rattle.std.proofs.Common.{◌+◌, List, ℕ, take, subst}
use Rattle.std.specs.Io.KnownBytes.{Appends}
use Rattle.qz_history.proofs.Parts.{on_further}
use Rattle.qz_history.proofs.telling.tell_one.Goals as goal

pub returns-in-Err-clause-part : goal.returns-in-Err-clause-part
returns-in-Err-clause-part g c before was =
    let wrote = c.in-Err.ensures.part in
    let mid = g.K.Sink.held c.args.out.now in
    let after = g.K.Sink.held c.write_all.new.sink in
    on_further c.args.teller.from (c.args.teller.base_count + 1) c.args.teller.base.value.tables c.args.teller.tables.tables c.args.payload.now
    c.args.teller.entries.items c.in-Ok.more.entries.items c.take.new.text.items wrote.0 before mid after c.in-Ok.ensures.next c.in-Ok.ensures.told was
    (subst (λ (l : List ℕ). Appends mid after (take wrote.0 l)) c.as_slice.ensures.value wrote.2)
