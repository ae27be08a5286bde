use Rattle.std.proofs.Common.{Some, ◌∙◌}
use Rattle.qz_row_lock.proofs.Calls.{entered_by}
use Rattle.qz_row_lock.proofs.row.RowLock.enter.Goals as goal

pub exchange-requires : goal.exchange-requires
exchange-requires g c =
    let v = g.V.Logged in
    let e = entered_by v.number v.history v.is_shut v.basis c.args.token.now.me _ _ _ c.requires.empty c.draw-ticket.ensures.after_draw c.wait.ensures.after_enter in
    (c.wait.ensures.of ∙ c.draw-ticket.ensures.of ∙ c.requires.of, (Some e.value, e.slots_are))
