use Rattle.std.proofs.Common.{◌≡◌, ◌+◌, ◌++◌, length}
use Rattle.std.specs.Vec.Iter.{into_iter_items, into_iter_len}
use Rattle.qz_tables.specs.Contents.{KeepsSpare}
use Rattle.qz_snapshot.proofs.filling.fill_zones.Given as goal

abbrev pub invariant-loop-row : goal.invariant-loop-row
invariant-loop-row l = record {
  all : l.yielded ++ into_iter_items l.row-iterator ≡ l.fn.rows.items;
  left : into_iter_len l.row-iterator ≡ length (into_iter_items l.row-iterator);
  tables : l.tables.tables ≡ record l.initial.tables.tables { zones = l.yielded };
  spare : KeepsSpare l.initial.tables.spare (record l.tables.spare { zones = l.tables.spare.zones + length l.yielded });
}
