use Rattle.std.proofs.Common.{◌≡◌, ◌+◌, ◌-◌, ◌≤◌, ◌++◌, length, drop}
use Rattle.std.specs.Prelude.{All}
use Rattle.qz_journal.specs.Layout.{IsPayload, blocks, end_from}
use Rattle.qz_journal.specs.Through.{ReadsBetween}
use Rattle.qz_journal.proofs.reading.read_blocks.Given as goal

-- what stands after the blocks of the payloads begins with the piece
abbrev pub invariant-pieces : goal.invariant-pieces
invariant-pieces g l = record {
  within : l.position ≤ l.len;
  same_length : g.D.Disk.len l.disk ≡ l.len;
  place : l.position ≡ end_from l.start l.payloads + length l.window.items;
  ahead : length l.window.items ≤ 65536;
  sizes : All IsPayload l.payloads;
  whole : g.D.Disk.honest → drop l.start (g.D.Disk.state l.fn.disk).content ≡ blocks l.payloads ++ (l.window.items ++ drop l.position (g.D.Disk.state l.fn.disk).content);
  reads : g.D.Disk.honest → ReadsBetween l.start l.position (g.D.Disk.state l.fn.disk) (g.D.Disk.state l.disk);
  later : g.D.Disk.faults l.fn.disk ≤ g.D.Disk.faults l.disk;
}

abbrev pub decreases-pieces : goal.decreases-pieces
decreases-pieces g l = l.len - l.position
