use Rattle.std.proofs.Common.{subst}
use Rattle.qz_row_lock.specs.Seats.{seen, mine, first_value}
use Rattle.qz_shared.specs.Calls.{known}
use Rattle.qz_shared.specs.Since.{IsSince}
use Rattle.qz_shared.proofs.Calling.{called}
use Rattle.qz_shared.proofs.rows.submit.Goals as goal

pub returns-clause-called : goal.returns-clause-called
returns-clause-called g c =
    let t = c.take-held.ensures in
    let f = c.give.ensures in
    let k = g.S.RowStore in
    let held = c.take-held.result in
    let since : IsSince k.kind k.listed (k.state (first_value c.args.row.now).opened.value) (k.state held.store) =
    subst (λ o. IsSince k.kind k.listed (k.state o.value) (k.state held.store)) t.basis held.since in
    called k.kind k.listed g.met.S.RowStore.lists (k.state (first_value c.args.row.now).opened.value) (k.state held.store) (k.state c.submit-result.new.self.store) c.args.entry c.submit-result.result (known c.args.seat.now) (known c.give.new.seat) (seen c.take-held.new.seat) (mine c.take-held.new.seat)
    since t.begins c.submit-result.ensures.one t.seen t.keeps.mine f.seen f.mine t.stays_shut f.shut
