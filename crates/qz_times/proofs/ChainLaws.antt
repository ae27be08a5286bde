-- Fire times one behind the other.
use Rattle.std.proofs.Common.{ℤ, List, [], ◌∷◌, ◌++◌, refl, subst}
use Rattle.qz_civil.specs.declared.limits.TheConstants.{LAST}
use Rattle.qz_civil.specs.Least.{IsLeast}
use Rattle.qz_times.specs.Said.{IsChain}

pub IsChain-more : (P : ℤ → Type 0) (after : ℤ) (times : List ℤ) (last t : ℤ) → IsChain P after times last → IsLeast LAST P last t → IsChain P after (times ++ t ∷ []) t
IsChain-more P after [] last t chain least = (subst (λ l. IsLeast LAST P l t) chain least, refl)
IsChain-more P after (x ∷ xs) last t (first, others) least = (first, IsChain-more P x xs last t others least)
