use Rattle.std.proofs.Common.{◌≤◌, map}
use Rattle.qz_pieces.specs.declared.cutting.TheConstants.{PIECE_LIMIT}
use Rattle.qz_pieces.proofs.FirstBad.{ReadTo}
use Rattle.qz_pieces.proofs.payloads.read_pieces.Given as goal

abbrev pub invariant-loop-place : goal.invariant-loop-place
invariant-loop-place l = record {
  read : ReadTo (map (λ p. p.now) l.payloads) l.place l.before l.kind l.rows.items;
  within : l.before ≤ PIECE_LIMIT;
}
