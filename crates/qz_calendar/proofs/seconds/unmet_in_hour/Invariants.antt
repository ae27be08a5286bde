use Rattle.std.proofs.Common.{◌*◌, not}
use Rattle.qz_civil.specs.Least.{NoneIn}
use Rattle.qz_calendar.specs.Search.{meets_in_hour}
use Rattle.qz_calendar.proofs.seconds.unmet_in_hour.Given as goal

abbrev pub invariant-loop-minute : goal.invariant-loop-minute
invariant-loop-minute l = NoneIn (λ s. not (meets_in_hour l.fields s)) l.from (l.minute * 60)
