use Rattle.std.proofs.Common.{◌≡◌, ◌∷◌, ◌++◌, map}
use Rattle.std.specs.Vec.Iter.{into_iter_items}
use Rattle.qz_snapshot.specs.Heads.{head_bytes}
use Rattle.qz_snapshot.proofs.payloads.after_head.Given as goal

abbrev pub invariant-loop-piece : goal.invariant-loop-piece
invariant-loop-piece l =
    goal.iterator-loop-piece.can_next l.piece-iterator
    × goal.iterator-loop-piece.is_finite l.piece-iterator
    × (l.payloads ++ map (λ p. p.items) (into_iter_items l.piece-iterator) ≡ head_bytes l.head ∷ map (λ p. p.items) l.fn.pieces.items)
