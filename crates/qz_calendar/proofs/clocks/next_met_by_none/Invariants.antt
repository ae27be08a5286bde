use Rattle.std.proofs.Common.{◌*◌}
use Rattle.qz_civil.specs.Least.{NoneIn}
use Rattle.qz_calendar.proofs.ClockSets.{IsUnmet}
use Rattle.qz_calendar.proofs.clocks.next_met_by_none.Given as goal

abbrev pub invariant-loop-minute : goal.invariant-loop-minute
invariant-loop-minute l = NoneIn (IsUnmet l.fields) l.from (l.minute * 60)
