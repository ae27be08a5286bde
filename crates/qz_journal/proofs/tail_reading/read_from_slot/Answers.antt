use Rattle.std.proofs.Common.{◌∙◌, sym, ap, Some, arith}
use Rattle.std.proofs.lemmas.Result.{err_from_is_err_and}
use Rattle.qz_journal.proofs.TailBytes.{not_misled, misled, one_place, one_error}
use Rattle.qz_journal.proofs.tail_reading.read_from_slot.Goals as goal

pub returns-in_err-count-clause-misled : goal.returns-in_err-count-clause-misled
returns-in_err-count-clause-misled g c h at is =
    let p = err_from_is_err_and c.from_residual-in_err-count.result c.from_residual-in_err-count.ensures.1 in
    let found = c.in_err-count.ensures.misled in
    let named = one_place found.0 at (sym found.1 ∙ sym p.2 ∙ one_error c.from_residual-in_err-count.result _ _ p.1 is) in
    misled _ c.args.header.slots at c.in_ok-start.start _ _ (found.2 ∙ ap Some named) c.in_ok-start.ensures.start.0 c.in_ok-found.ensures.sizes (c.in_ok-found.ensures.ends h) found.3

pub returns-clause-led : goal.returns-clause-led
returns-clause-led g c h =
    let whole = g.met.D.Disk.whole h c.args.disk.now in
    not_misled _ c.args.header.slots c.in_ok-start.start _ _ c.in_ok-start.ensures.start.0 c.in_ok-start.ensures.start.1
    (λ gate is. let inside = c.in_ok-start.ensures.inside gate is in omega (arith, inside, c.requires.length, whole)) c.in_ok-found.ensures.sizes (c.in_ok-found.ensures.ends h) c.in_ok-count.ensures.led
