use Rattle.std.proofs.Common.{◌-◌, length}
use Rattle.qz_queue.proofs.walks.+first_wanted.Given as goal

abbrev pub decreases-first_wanted : goal.decreases-first_wanted
decreases-first_wanted g l = length l.heap.now - l.top
