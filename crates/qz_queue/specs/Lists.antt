-- Words on lists by recursion, as proofs go along lists. The standard library's `All` and `AllPairs` say the same by
-- places.
use Rattle.std.specs.Prelude.{List, [], ◌∷◌}

module _ {X : Type 0} (P : X → Type 0) where
  -- P holds of each element.
  abbrev pub Every : List X → Type 0
  Every [] = Unit {0}
  Every (x ∷ xs) = P x × Every xs

module _ {X : Type 0} (R : X → X → Type 0) where
  -- R holds of each element and each later one.
  abbrev pub EachLater : List X → Type 0
  EachLater [] = Unit {0}
  EachLater (x ∷ xs) = Every (R x) xs × EachLater xs
