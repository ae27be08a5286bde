use Rattle.std.proofs.Common.{◌≡◌, ◌++◌, map, drop}
use Rattle.qz_acquire.proofs.misfires.rows_of.Given as goal

abbrev pub invariant-loop-one : goal.invariant-loop-one
invariant-loop-one l = l.rows ++ map (λ move. record { trigger = move.key; next = move.moved.next }) (drop l.one-index l.moves) ≡ map (λ move. record { trigger = move.key; next = move.moved.next }) l.moves
