use Rattle.std.proofs.Common.{◌-◌, ◌≤◌}
use Rattle.qz_civil.specs.declared.limits.TheConstants.{SECONDS}
use Rattle.qz_civil.specs.Least.{NoneIn}
use Rattle.qz_daily.specs.Search.{is_at}
use Rattle.qz_daily.proofs.moments.first_whole.Given as goal

abbrev pub invariant-loop-start : goal.invariant-loop-start
invariant-loop-start l = NoneIn (is_at l.pattern l.zone) l.floor l.start × (l.floor ≤ l.start)

abbrev pub decreases-loop-start : goal.decreases-loop-start
decreases-loop-start l = SECONDS - l.start
