use Rattle.std.proofs.Common.{◌≡◌, ◌*◌, ◌≤◌, length, map, take}
use Rattle.qz_journal.specs.Layout.{blocks}
use Rattle.qz_snapshot.proofs.payloads.bytes_of.Given as goal

abbrev pub invariant-loop-place : goal.invariant-loop-place
invariant-loop-place l = record {
  bytes : l.bytes ≡ length (blocks (take l.place (map (λ p. p.items) l.payloads)));
  most : l.bytes ≤ l.place * 32773;
}
