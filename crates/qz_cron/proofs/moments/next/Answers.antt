use Rattle.std.proofs.Common.{◌≡◌, ◌*◌, pos, to_z, of_z, w64, arith}
use Rattle.std.proofs.lemmas.Int.{ints}
use Rattle.qz_cron.proofs.Clocks.{next_is, none_later}
use Rattle.qz_cron.proofs.moments.next.Goals as goal

pub returns : goal.returns
returns c =
    let moment : to_z w64 (of_z w64 c.moment_of.result) ≡ pos (c.in_ok-second.second * 1000) = omega (arith, ints, c.moment_of.ensures) in
    rw moment (next_is c.args.fields.now c.args.zone.now c.args.after c.second_from.result c.in_ok-second.second
    (omega (arith, ints, c.second_from.ensures.near)) (omega (arith, ints, c.second_from.ensures.after)) c.in_ok-second.ensures.first)

pub returns-in_err-second : goal.returns-in_err-second
returns-in_err-second c =
    rw c.from_residual.ensures (none_later c.args.fields.now c.args.zone.now c.args.after c.second_from.result (omega (arith, ints, c.second_from.ensures.near)) (rw c.in_err-second.was at c.next_whole.ensures.first))
