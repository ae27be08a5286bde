use Rattle.std.proofs.Common.{◌≡◌, pos, to_z, of_z, w64, arith}
use Rattle.std.proofs.lemmas.Int.{ints, to_z-of_z}
use Rattle.qz_calendar.proofs.ClockLaws.{none-included, least-included}
use Rattle.qz_calendar.proofs.chains.next_from.Goals as goal

pub returns-in_err-next : goal.returns-in_err-next
returns-in_err-next c =
    let from = rw (to_z-of_z w64 c.args.ms c.ranges.ms) at c.to_unsigned.ensures.value in
    rw c.from_residual.ensures (none-included c.args.calendars.now c.to_unsigned.result c.args.ms from (rw c.in_err-next.was at c.next_of_all.ensures))

pub returns : goal.returns
returns c =
    let from = rw (to_z-of_z w64 c.args.ms c.ranges.ms) at c.to_unsigned.ensures.value in
    let moment : to_z w64 (of_z w64 c.timestamp_at.result) ≡ pos c.in_ok-next.next = omega (arith, ints, c.timestamp_at.ensures) in
    rw moment (least-included c.args.calendars.now c.to_unsigned.result c.in_ok-next.next c.args.ms from c.in_ok-next.ensures)
