use Rattle.std.proofs.Common.{◌≡◌, ◌≤◌, ℕ, List, length}
use Rattle.qz_io.specs.Turns.{HandledUpTo}
use Rattle.qz_io.proofs.handlers.handle_lines.Given as goal

abbrev pub invariant-loop-number : goal.invariant-loop-number
invariant-loop-number g l = record {
  reads : g.S.Source.faults l.fn.input ≤ g.S.Source.faults l.input;
  done : (lines : List (List ℕ)) × (length lines ≡ l.number)
      × HandledUpTo g.H.LineHandler.handles lines (g.S.Source.left l.fn.input) (g.S.Source.left l.input) l.reader.pending
      (record { handler = l.fn.handler; out = l.fn.out; rest = l.fn.rest }) (record { handler = l.handler; out = l.out; rest = l.rest });
}
