use Rattle.std.proofs.Common.{◌*◌}
use Rattle.qz_civil.specs.declared.limits.TheConstants.{DAY_SECONDS}
use Rattle.qz_civil.specs.Least.{NoneIn}
use Rattle.qz_daily.specs.Search.{is_second}
use Rattle.qz_daily.proofs.patterns.Pattern.first_second.Given as goal

abbrev pub invariant-loop-day : goal.invariant-loop-day
invariant-loop-day l = NoneIn (is_second l.self) l.floor (l.day * DAY_SECONDS)
