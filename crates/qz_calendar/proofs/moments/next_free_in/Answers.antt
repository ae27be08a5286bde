use Rattle.std.proofs.Common.{arith}
use Rattle.qz_calendar.proofs.ClockLaws.{none-after}
use Rattle.qz_calendar.proofs.moments.next_free_in.Goals as goal

pub loop-start-preserved : goal.loop-start-preserved
loop-start-preserved c =
    record {
      none = none-after c.args.kind.now c.args.zone.now c.args.from c.loop-start.start c.span_from-shift.result.shift c.span_from-shift.result.end c.span_from-shift.ensures.clock c.loop-start.invariant.none c.in_default.ensures;
      later = (let begins = c.span_from-shift.ensures.begins in let later = c.loop-start.invariant.later in omega arith);
    }
