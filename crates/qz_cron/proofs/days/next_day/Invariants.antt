use Rattle.std.proofs.Common.{◌-◌, ◌^◌, ◌<◌}
use Rattle.qz_cron.proofs.Calendar.{NoneBefore}
use Rattle.qz_cron.proofs.days.next_day.Given as goal

abbrev pub invariant-loop-found : goal.invariant-loop-found
invariant-loop-found l = NoneBefore l.fields l.from l.number × (l.number < 2 ^ 17)

abbrev pub decreases-loop-found : goal.decreases-loop-found
decreases-loop-found l = 2 ^ 17 - l.number
