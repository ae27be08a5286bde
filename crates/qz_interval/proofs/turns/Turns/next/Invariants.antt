use Rattle.qz_interval.specs.Clocks.{MomentBy}
use Rattle.qz_interval.specs.Turns.{ArePassed}
use Rattle.qz_interval.proofs.turns.Turns.next.Given as goal

abbrev pub invariant-loop-place : goal.invariant-loop-place
invariant-loop-place l = ArePassed (MomentBy l.clock) l.self l.after l.place
