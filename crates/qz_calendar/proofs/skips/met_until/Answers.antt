use Rattle.std.proofs.Common.{◌∙◌, sym, ap, pos}
use Rattle.qz_civil.specs.Zones.{local}
use Rattle.qz_calendar.specs.Chains.{ZonedCalendar}
use Rattle.qz_calendar.proofs.SkipLaws.{bars}
use Rattle.qz_calendar.proofs.skips.met_until.Goals as goal

pub returns-then-meets_day-clause-met : goal.returns-then-meets_day-clause-met
returns-then-meets_day-clause-met c t low high same met =
    let kind = c.in_ok-fields.ensures in
    let clock = ap (λ (z : ZonedCalendar). local z.zone (pos t)) (sym c.calendar.view_is) ∙ (rw c.if-span-shift.true at c.span_from-span.ensures.clock t low high) in
    let on = sym c.meets_day.ensures ∙ c.if-meets_day.true in
    bars c.args.calendar.now c.in_ok-fields.fields.now c.of.result c.args.shift _ t kind clock (record { seconds = c.of.ensures.seconds; minutes = c.of.ensures.minutes; hours = c.of.ensures.hours }) on same met
