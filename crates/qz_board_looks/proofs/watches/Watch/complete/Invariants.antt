use Rattle.std.proofs.Common.{◌≡◌, ◌+◌}
use Rattle.qz_board_looks.specs.Watches.{GoesOn}
use Rattle.qz_board_looks.proofs.watches.Watch.complete.Given as goal

-- Each round makes one of the looks that are left.
abbrev pub invariant-loop : goal.invariant-loop
invariant-loop g l = record {
  goes_on : GoesOn l.fn.self l.watch;
  left : l.watch.left + l.counter ≡ l.fn.self.left;
}
