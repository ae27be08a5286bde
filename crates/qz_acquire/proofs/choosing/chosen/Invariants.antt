use Rattle.std.proofs.Common.{◌-◌, map, option_copied, vec_len}
use Rattle.qz_acquire.proofs.ChoosingWalk.{IsChoosing}
use Rattle.qz_acquire.proofs.choosing.chosen.Given as goal

abbrev pub invariant-loop-last : goal.invariant-loop-last
invariant-loop-last l = IsChoosing l.tables.tables l.moment l.limit l.max (map (λ r. r.now) l.taken.items) (option_copied l.last)

abbrev pub decreases-loop-last : goal.decreases-loop-last
decreases-loop-last l = l.max - vec_len l.taken
