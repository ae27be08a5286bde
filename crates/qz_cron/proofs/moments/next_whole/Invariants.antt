use Rattle.std.proofs.Common.{◌-◌, ◌≤◌}
use Rattle.qz_civil.specs.declared.limits.TheConstants.{SECONDS}
use Rattle.qz_civil.specs.Least.{NoneIn, IsFirst}
use Rattle.qz_cron.specs.declared.seconds.TheConstants.{END_SECOND}
use Rattle.qz_cron.specs.Search.{meets_at, meets_second}
use Rattle.qz_cron.proofs.moments.next_whole.Given as goal

abbrev pub invariant-loop-start : goal.invariant-loop-start
invariant-loop-start l = NoneIn (meets_at l.fields l.zone) l.from l.start × (l.from ≤ l.start) × IsFirst (meets_second l.fields) l.sought END_SECOND l.found

abbrev pub decreases-loop-start : goal.decreases-loop-start
decreases-loop-start l = SECONDS - l.start
