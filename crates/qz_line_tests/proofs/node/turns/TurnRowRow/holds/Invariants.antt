use Rattle.std.proofs.Common.{◌≤ℤ◌}
use Rattle.qz_civil.specs.declared.limits.TheConstants.{LONGEST}
use Rattle.qz_line_tests.proofs.node.turns.TurnRowRow.holds.Given as goal

-- the node's time is within the limits
abbrev pub invariant-loop-step : goal.invariant-loop-step
invariant-loop-step l = l.turn.until ≤ℤ LONGEST
