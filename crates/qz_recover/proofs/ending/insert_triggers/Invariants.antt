use Rattle.std.proofs.Common.{◌≡◌, ◌≤◌, fold, length}
use Rattle.std.specs.Vec.Iter.{into_iter_items}
use Rattle.qz_types.specs.Words.{put_trigger}
use Rattle.qz_recover.specs.Rows.{AreNew}
use Rattle.qz_recover.proofs.ending.insert_triggers.Given as goal

abbrev pub invariant-loop-row : goal.invariant-loop-row
invariant-loop-row l =
    (goal.iterator-loop-row).can_next l.row-iterator
    × (goal.iterator-loop-row).is_finite l.row-iterator
    × AreNew l.tables.tables.triggers (into_iter_items l.row-iterator)
    × (length (into_iter_items l.row-iterator) ≤ l.tables.spare.triggers)
    × (record l.tables.tables { triggers = fold (λ ts t. put_trigger t ts) l.tables.tables.triggers (into_iter_items l.row-iterator) }
    ≡ record l.initial.tables.tables { triggers = fold (λ ts t. put_trigger t ts) l.initial.tables.tables.triggers l.fn.added.items })
    × (l.initial.tables.spare.members ≤ l.tables.spare.members)
