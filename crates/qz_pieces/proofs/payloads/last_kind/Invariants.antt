use Rattle.std.proofs.Common.{◌≡◌, drop}
use Rattle.qz_pieces.specs.Payloads.{last_kind}
use Rattle.qz_pieces.proofs.payloads.last_kind.Given as goal

abbrev pub invariant-loop-row : goal.invariant-loop-row
invariant-loop-row l = last_kind l.last (drop l.row-index l.rows) ≡ last_kind l.least l.rows
