use Rattle.std.proofs.Common.{◌≡◌, ◌+◌, ◌≤◌, fold, length}
use Rattle.std.specs.Vec.Iter.{into_iter_items}
use Rattle.qz_types.specs.declared.limits.TheConstants.{NUMBER_LIMIT}
use Rattle.qz_acquire.specs.Choosing.{with_row, AreNew}
use Rattle.qz_acquire.proofs.acquiring.acquire_each.Given as goal

abbrev pub invariant-loop-row : goal.invariant-loop-row
invariant-loop-row l =
    (goal.iterator-loop-row).can_next l.row-iterator
    × (goal.iterator-loop-row).is_finite l.row-iterator
    × AreNew l.tables.tables (into_iter_items l.row-iterator)
    × (l.tables.tables.next_entry + length (into_iter_items l.row-iterator) ≤ NUMBER_LIMIT)
    × (length (into_iter_items l.row-iterator) ≤ l.tables.spare.fired)
    × (fold with_row l.tables.tables (into_iter_items l.row-iterator) ≡ fold with_row l.initial.tables.tables l.fn.rows.items)
