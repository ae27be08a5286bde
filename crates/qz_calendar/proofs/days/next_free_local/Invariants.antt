use Rattle.std.proofs.Common.{◌+◌, ◌-◌, ◌*◌, ◌<◌, ◌≤◌}
use Rattle.qz_civil.specs.Least.{NoneIn}
use Rattle.qz_calendar.specs.Search.{is_free}
use Rattle.qz_calendar.proofs.days.next_free_local.Given as goal

abbrev pub invariant-loop-day : goal.invariant-loop-day
invariant-loop-day l = record {
  none : NoneIn (is_free l.kind) l.from (l.day * 86400000 + l.low);
  later : l.from ≤ l.day * 86400000 + l.low;
  bounded : l.day ≤ 84008;
  within : l.low < 86400000;
}

abbrev pub decreases-loop-day : goal.decreases-loop-day
decreases-loop-day l = l.to - l.day * 86400000
