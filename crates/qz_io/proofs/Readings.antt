-- What several readings do to the readings that a clock tells.
use Rattle.std.proofs.Common.{◌∙◌, ℤ, List, [], ◌++◌, Option, None, Some, sym, ap, append_assoc, append-nil}
use Rattle.qz_io.specs.Clocks.{Tells}

-- no reading
pub Tells-nil : (a : Option (List ℤ)) → Tells a a []
Tells-nil None = tt
Tells-nil (Some x) = sym (append-nil x)

-- some readings and then others
pub Tells-trans : (a b c : Option (List ℤ)) (rs ts : List ℤ) → Tells a b rs → Tells b c ts → Tells a c (rs ++ ts)
Tells-trans None b c rs ts p q = tt
Tells-trans (Some x) None c rs ts p q = absurd p
Tells-trans (Some x) (Some y) None rs ts p q = absurd q
Tells-trans (Some x) (Some y) (Some z) rs ts p q = q ∙ ap (λ l. l ++ ts) p ∙ append_assoc x rs ts
