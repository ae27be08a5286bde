use Rattle.std.proofs.Common.{◌-◌, ◌≤◌}
use Rattle.qz_civil.specs.Least.{NoneIn}
use Rattle.qz_calendar.specs.Search.{is_free_in}
use Rattle.qz_calendar.proofs.moments.next_free_in.Given as goal

abbrev pub invariant-loop-start : goal.invariant-loop-start
invariant-loop-start l = record {
  none : NoneIn (is_free_in l.kind l.zone) l.from l.start;
  later : l.from ≤ l.start;
}

abbrev pub decreases-loop-start : goal.decreases-loop-start
decreases-loop-start l = 7258118400000 - l.start
