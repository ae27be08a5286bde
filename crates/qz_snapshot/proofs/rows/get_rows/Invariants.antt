use Rattle.std.proofs.Common.{map, take}
use Rattle.std.specs.List.{AllZip}
use Rattle.qz_codec.specs.Records.{IsRecord}
use Rattle.qz_snapshot.proofs.rows.get_rows.Given as goal

abbrev pub invariant-loop-place : goal.invariant-loop-place
invariant-loop-place g l = AllZip (IsRecord g.R.Recorded.fields g.R.Recorded.has_record) (take l.place (map (λ r. r.bytes) l.rows)) l.found.items
