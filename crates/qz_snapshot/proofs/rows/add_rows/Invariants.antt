use Rattle.std.proofs.Common.{◌≡◌, map, take}
use Rattle.std.specs.Prelude.{fold}
use Rattle.std.specs.List.{AllByRecursion}
use Rattle.qz_values.specs.declared.versions.Version.TheVariants.{Two}
use Rattle.qz_pieces.specs.Pieces.{AreShort, with_row}
use Rattle.qz_snapshot.specs.Rows.{of_kind, written}
use Rattle.qz_snapshot.proofs.rows.add_rows.Given as goal

abbrev pub invariant-loop-place : goal.invariant-loop-place
invariant-loop-place g l = record {
  cut : l.pieces ≡ fold with_row l.initial.pieces (of_kind l.kind (written g.R.Recorded.fields (take l.place (map (λ r. r.now) l.rows))));
  recorded : AllByRecursion (g.R.Recorded.has_record Two) (take l.place (map (λ r. r.now) l.rows));
  short : AreShort (of_kind l.kind (written g.R.Recorded.fields (take l.place (map (λ r. r.now) l.rows))));
}
