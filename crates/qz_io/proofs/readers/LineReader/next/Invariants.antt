use Rattle.std.proofs.Common.{◌≤◌, ◌+◌, ◌-◌, [], length}
use Rattle.qz_io.specs.declared.limits.TheConstants.{LINE_LIMIT}
use Rattle.qz_io.specs.Reading.{Hands}
use Rattle.qz_io.proofs.readers.LineReader.next.Given as goal

abbrev pub invariant-loop-found : goal.invariant-loop-found
invariant-loop-found g l = record {
  later : g.S.Source.faults l.fn.source ≤ g.S.Source.faults l.source;
  hands : Hands (g.S.Source.left l.fn.source) (g.S.Source.left l.source) l.fn.self.pending l.self.pending [];
}

abbrev pub decreases-loop-found : goal.decreases-loop-found
decreases-loop-found g l = LINE_LIMIT + 1 - length l.self.pending
