use Rattle.std.proofs.Common.{◌≡◌, ◌≤◌, ◌++◌, length}
use Rattle.std.specs.Prelude.{All}
use Rattle.qz_journal.specs.Layout.{IsPayload, blocks}
use Rattle.qz_journal.proofs.parsing.take_blocks.Given as goal

-- the bytes are the blocks that were taken, and the rest after them
abbrev pub invariant-walk : goal.invariant-walk
invariant-walk l = record {
  whole : blocks l.fn.payloads ++ l.bytes ≡ blocks l.payloads ++ l.rest;
  shorter : length l.rest ≤ length l.bytes;
  sizes : All IsPayload l.fn.payloads → All IsPayload l.payloads;
}

abbrev pub decreases-walk : goal.decreases-walk
decreases-walk l = length l.rest
