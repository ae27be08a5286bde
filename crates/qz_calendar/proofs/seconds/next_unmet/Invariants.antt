use Rattle.std.proofs.Common.{◌*◌, not}
use Rattle.qz_civil.specs.Least.{NoneIn}
use Rattle.qz_civil.specs.Fields.{meets_time}
use Rattle.qz_calendar.proofs.seconds.next_unmet.Given as goal

abbrev pub invariant-loop-hour : goal.invariant-loop-hour
invariant-loop-hour l = NoneIn (λ s. not (meets_time l.fields s)) l.from (l.hour * 3600)
