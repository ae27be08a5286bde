use Rattle.std.proofs.Common.{◌≤◌, ◌+◌, ◌-◌, length}
use Rattle.std.specs.Io.KnownBytes.{Consumes}
use Rattle.qz_input.specs.declared.whole.TheConstants.{BLOCK}
use Rattle.qz_input.proofs.whole.read_whole.Given as goal

-- the bytes so far were taken from the front of the input
abbrev pub invariant-loop-block : goal.invariant-loop-block
invariant-loop-block g l = record {
  later : g.S.Source.faults l.fn.input ≤ g.S.Source.faults l.input;
  within : length l.bytes.items ≤ l.limit + BLOCK;
  taken : Consumes (g.S.Source.left l.fn.input) (g.S.Source.left l.input) l.bytes.items;
}

abbrev pub decreases-loop-block : goal.decreases-loop-block
decreases-loop-block g l = l.limit + 1 - length l.bytes.items
