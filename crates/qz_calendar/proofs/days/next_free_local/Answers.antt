use Rattle.std.proofs.Common.{arith}
use Rattle.qz_calendar.specs.Search.{is_free}
use Rattle.qz_calendar.proofs.DayTimes.{first-there, none-there}
use Rattle.qz_calendar.proofs.days.next_free_local.Goals as goal

pub returns-in-Some : goal.returns-in-Some
returns-in-Some c =
    c.cut_at.ensures (is_free c.args.kind.now) c.args.from
    (first-there (is_free c.args.kind.now) c.args.from c.loop-day.day c.loop-day.low c.in-Some.milli c.loop-day.invariant.later c.loop-day.invariant.none c.in-Some.ensures.first)

pub loop-day-preserved : goal.loop-day-preserved
loop-day-preserved c =
    let none = none-there (is_free c.args.kind.now) c.args.from c.loop-day.day c.loop-day.low c.loop-day.invariant.none c.in_default.ensures.first in
    let later = c.loop-day.invariant.later in
    record {
      none = λ k a b. none k a (omega arith);
      later = omega arith;
      bounded = omega arith;
      within = omega arith;
    }
