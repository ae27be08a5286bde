-- Pieces written one after the other.
use Rattle.std.proofs.Common.{◌≡◌, ℕ, List, ◌++◌, Option, subst, append_assoc}
use Rattle.std.specs.Prelude.{Result, Ok, Err, OnOk}
use Rattle.std.specs.Io.KnownBytes.{Appends}
use Rattle.std.proofs.KnownBytes.{Appends-trans}

pub wrote_both : {T E : Type 0} (r : Result T E) (x y z : Option (List ℕ)) (a b : List ℕ) → Appends x y a → OnOk r (Appends y z b) → OnOk r (Appends x z (a ++ b))
wrote_both (Ok u) x y z a b p q = Appends-trans x y z a b p q
wrote_both (Err e) x y z a b p q = tt

-- the same text, grouped otherwise
pub wrote_as : {T E : Type 0} (r : Result T E) (x y : Option (List ℕ)) (a b : List ℕ) → a ≡ b → OnOk r (Appends x y a) → OnOk r (Appends x y b)
wrote_as r x y a b same p = subst (λ (l : List ℕ). OnOk r (Appends x y l)) same p

pub two_and_three : (a b c d e : List ℕ) → (a ++ b) ++ (c ++ d ++ e) ≡ a ++ b ++ c ++ d ++ e
two_and_three a b c d e = simp append_assoc

pub two_by_two : (a b c d e : List ℕ) → (a ++ b) ++ ((c ++ d) ++ e) ≡ a ++ b ++ c ++ d ++ e
two_by_two a b c d e = simp append_assoc
