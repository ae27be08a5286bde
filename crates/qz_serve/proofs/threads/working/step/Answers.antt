use Rattle.std.proofs.Common.{◌∙◌, arith, sym}
use Rattle.std.proofs.lemmas.Grind.{common_steps}
use Rattle.std.proofs.lemmas.Int.{to_z-of_z}
use Rattle.qz_row_lock.specs.Seats.{seen, first_value}
use Rattle.qz_serve.proofs.Finished.{came_now}
use Rattle.qz_serve.proofs.threads.working.step.Goals as goal

pub returns-in-End-clause-ended : goal.returns-in-End-clause-ended
returns-in-End-clause-ended g c none =
    let k = g.S.RowStore in
    came_now k.kind k.listed (k.state (first_value c.args.row.now).opened.value) (g.C.SharedClock.shows c.args.clock.now) c.args.until c.args.me.now c.args.seat.now.number c.args.turn.now c.now-at.result _ (seen c.args.seat.now)
    c.requires.knows c.now-at.ensures (grind (arith, common_steps, to_z-of_z)) c.requires.work.up_to (sym c.next_step.ensures ∙ c.in-End.is)
