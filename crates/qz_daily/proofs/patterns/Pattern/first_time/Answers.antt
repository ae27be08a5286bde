use Rattle.std.proofs.Common.{arith}
use Rattle.qz_civil.specs.declared.limits.TheConstants.{DAY_SECONDS}
use Rattle.qz_daily.proofs.DayTimes.{first-time, none-late, none-turns}
use Rattle.qz_daily.proofs.patterns.Pattern.first_time.Goals as goal

pub returns-in-Some-clause-first : goal.returns-in-Some-clause-first
returns-in-Some-clause-first c =
    let end = c.min-end.ensures in
    let early = c.if-turn-end.true in
    first-time c.args.self.now c.args.floor c.in-Some.turn.place c.in-Some.turn.moment DAY_SECONDS c.in-Some.ensures.first c.in-Some.ensures.moment (omega arith) (omega arith)

pub returns-in_default-clause-first : goal.returns-in_default-clause-first
returns-in_default-clause-first c =
    let end = c.min-end.ensures in
    let late = c.if-turn-end.false in
    none-late c.args.self.now c.args.floor c.in-Some.turn.place DAY_SECONDS c.in-Some.ensures.first (rw end at (rw c.in-Some.ensures.moment at late))

pub returns-in_default-2-clause-first : goal.returns-in_default-2-clause-first
returns-in_default-2-clause-first c = none-turns c.args.self.now c.args.floor DAY_SECONDS c.in_default.ensures.none
