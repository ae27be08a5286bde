use Rattle.std.proofs.Common.{◌≡◌, ◌+◌, ◌-◌, ◌^◌, ◌≤◌, true}
use Rattle.std.specs.Int.{IsInRange}
use Rattle.qz_civil.specs.Fields.{in_days}
use Rattle.qz_civil.specs.Least.{NoneIn}
use Rattle.qz_cron.specs.Search.{meets_in_month, weekday_in}
use Rattle.qz_cron.proofs.month.Month.next_day.Given as goal

abbrev pub invariant-loop-there : goal.invariant-loop-there
invariant-loop-there l = record {
  none : NoneIn (meets_in_month l.fields l.self.length l.self.start) l.low l.day;
  in_range : IsInRange 1 (2 ^ 32) l.day;
  later : l.low ≤ l.day;
  passes : in_days l.fields.day l.self.length l.day (weekday_in l.self.start l.day) ≡ true;
}

abbrev pub decreases-loop-there : goal.decreases-loop-there
decreases-loop-there l = l.self.length + 1 - l.day
