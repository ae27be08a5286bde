use Rattle.std.proofs.Common.{◌≡◌, true, take}
use Rattle.std.specs.List.{list_all}
use Rattle.qz_snapshot.specs.Opening.{is_piece}
use Rattle.qz_snapshot.proofs.cut_short.are_pieces.Given as goal

abbrev pub invariant-loop-payload : goal.invariant-loop-payload
invariant-loop-payload l = list_all is_piece (take l.payload-index l.payloads) ≡ true
