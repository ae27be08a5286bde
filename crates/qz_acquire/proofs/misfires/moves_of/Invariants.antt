use Rattle.std.proofs.Common.{◌≡◌, map, take, drop}
use Rattle.std.specs.List.{AllByRecursion}
use Rattle.qz_acquire.specs.Moves.{move_for, IsMovable, IsMissed}
use Rattle.qz_acquire.proofs.misfires.moves_of.Given as goal

abbrev pub invariant-loop-trigger : goal.invariant-loop-trigger
invariant-loop-trigger l =
    (l.moves.items ≡ map (move_for l.tables.tables l.moment) (map (λ r. r.now) (take l.trigger-index l.triggers)))
    × AllByRecursion (IsMissed l.moment) (map (λ r. r.now) (drop l.trigger-index l.triggers))
    × AllByRecursion (IsMovable l.tables.tables l.moment) (map (λ r. r.now) (take l.trigger-index l.triggers))
