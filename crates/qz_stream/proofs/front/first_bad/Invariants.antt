use Rattle.qz_stream.specs.Front.{IsFrontBelow}
use Rattle.qz_stream.proofs.front.first_bad.Given as goal

abbrev pub invariant-loop-at : goal.invariant-loop-at
invariant-loop-at l = IsFrontBelow l.at l.bytes
