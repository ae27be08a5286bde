use Rattle.std.proofs.Common.{◌≡◌, fold}
use Rattle.std.specs.Vec.Iter.{into_iter_items}
use Rattle.qz_acquire.specs.Moves.{with_move, AreMovable}
use Rattle.qz_acquire.proofs.misfires.move_each.Given as goal

abbrev pub invariant-loop-one : goal.invariant-loop-one
invariant-loop-one l =
    (goal.iterator-loop-one).can_next l.one-iterator
    × (goal.iterator-loop-one).is_finite l.one-iterator
    × AreMovable l.tables.tables.triggers (into_iter_items l.one-iterator)
    × (record l.tables.tables { triggers = fold with_move l.tables.tables.triggers (into_iter_items l.one-iterator) }
    ≡ record l.initial.tables.tables { triggers = fold with_move l.initial.tables.tables.triggers l.fn.moves.items })
