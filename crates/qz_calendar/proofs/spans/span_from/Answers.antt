use Rattle.std.proofs.Common.{◌≡◌, pos, to_z, of_z, w32, w64, FitsSigned, rules, arith}
use Rattle.std.proofs.lemmas.Int.{ints, to_z-of_z}
use Rattle.qz_calendar.proofs.ClockLaws.{local-shifted}
use Rattle.qz_calendar.proofs.spans.span_from.Goals as goal

pub returns-clause-clock : goal.returns-clause-clock
returns-clause-clock c t from to =
    let start : to_z w64 (of_z w64 c.timestamp_at.result) ≡ pos c.args.ms = omega (arith, ints, c.timestamp_at.ensures) in
    let fits : FitsSigned w32 c.offset_until-offset.result.0 = search rules in
    let offset = to_z-of_z w32 c.offset_until-offset.result.0 fits in
    let stays = rw start at (c.offset_until-offset.ensures.stays (pos t) (omega (arith, ints, c.timestamp_at.ensures)) (c.end_of.ensures.before t to)) in
    let here = rw start at c.offset_until-offset.ensures.offset in
    local-shifted c.args.zone.now t c.shift_of.result c.offset_until-offset.result.0 (cc (stays, here)) (rw offset at c.shift_of.ensures.value)
