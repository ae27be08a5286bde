use Rattle.std.proofs.Common.{◌-◌, map, option_copied, vec_len}
use Rattle.qz_types.specs.declared.limits.TheConstants.{MISFIRE_LIMIT}
use Rattle.qz_acquire.proofs.MisfireWalk.{IsCollecting}
use Rattle.qz_acquire.proofs.misfires.misfired_triggers.Given as goal

abbrev pub invariant-loop-last : goal.invariant-loop-last
invariant-loop-last l = IsCollecting l.tables.tables l.moment (map (λ r. r.now) l.found.items) (option_copied l.last)

abbrev pub decreases-loop-last : goal.decreases-loop-last
decreases-loop-last l = MISFIRE_LIMIT - vec_len l.found
