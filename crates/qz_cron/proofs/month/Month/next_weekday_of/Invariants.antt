use Rattle.std.proofs.Common.{◌-◌}
use Rattle.qz_civil.specs.Fields.{has_bit}
use Rattle.qz_civil.specs.Least.{NoneIn}
use Rattle.qz_cron.specs.Search.{weekday_in}
use Rattle.qz_cron.proofs.month.Month.next_weekday_of.Given as goal

abbrev pub invariant-loop-day : goal.invariant-loop-day
invariant-loop-day l = NoneIn (λ d. has_bit l.set (weekday_in l.self.start d - 1)) l.low l.day
