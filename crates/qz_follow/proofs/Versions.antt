-- The version that a follower has.
use Rattle.std.proofs.Common.{◌≡◌, ⊎_elim, ℕ, ◌≤◌, true, List, [], ◌∷◌, ◌++◌, length, refl, sym, ◌∙◌, ap, subst, arith}
use Rattle.std.specs.Prelude.{Option, Some, None}
use Rattle.std.proofs.lemmas.Bool.{cases_eq}
use Rattle.std.proofs.lemmas.Bool.Decides.{nat_tests}
use Rattle.qz_journal.specs.Layout.{is_version}
use Rattle.qz_stream.proofs.Fronts.{version-more}
use Rattle.qz_stream.specs.Front.{IsVersionOf}
use Rattle.qz_follow.specs.Payloads.{version_or_two}
use Rattle.qz_follow.specs.Taking.{IsBegun}
use Rattle.qz_follow.specs.declared.stages.Stage.{Stage}
use Rattle.qz_follow.specs.declared.stages.Stage.TheVariants as stage

version_known : (bytes : List ℕ) (v : ℕ) → IsVersionOf bytes (Some v) → is_version v ≡ true
version_known bytes v is =
    let byte = is.1 4 (omega arith) (omega (arith, is.0)) in
    subst (λ (n : ℕ). is_version n ≡ true) (byte.2 ∙ is.2) byte.1

two : (v : ℕ) → (v ≡ 1 → ⊥) → is_version v ≡ true → v ≡ 2
two v other known = grind (arith, nat_tests)

-- the version of some bytes is told once
pub version_once : (bytes : List ℕ) (v w : Option ℕ) → IsVersionOf bytes v → IsVersionOf bytes w → v ≡ w
version_once bytes None None p q = refl
version_once bytes None (Some w) p q = absurd (p q.0 q.1)
version_once bytes (Some v) None p q = absurd (q p.0 p.1)
version_once bytes (Some v) (Some w) p q = ap Some (sym p.2 ∙ q.2)

none_some : (x : ℕ) → ◌≡◌ {A = Option ℕ} None (Some x) → ⊥
none_some x is = cc

-- Before the first payload it is what the bytes say.
pub version_new : (bytes : List ℕ) (said : Option ℕ) (at : Stage) (old new : ℕ) → at ≡ stage.First → IsVersionOf bytes said → IsBegun said at old new → new ≡ version_or_two said
version_new bytes None at old new first is begun = begun.two first (none_some 1)
version_new bytes (Some v) at old new first is begun =
    ⊎_elim (λ one. begun.one first (ap Some one) ∙ sym one)
    (λ other. begun.two first (λ (same : Some v ≡ Some 1). other (cc)) ∙ sym (two v other (version_known bytes v is)))
    (cases_eq v 1)

-- Later it stays.
pub version_later : (fed more : List ℕ) (told said : Option ℕ) (at : Stage) (old new : ℕ) → (at ≡ stage.First → ⊥) → 16 ≤ length fed → IsVersionOf fed told → IsVersionOf (fed ++ more) said → old ≡ version_or_two told
    → IsBegun said at old new → new ≡ version_or_two said
version_later fed more told said at old new later long is now was begun =
    begun.later later ∙ was ∙ ap version_or_two (version_once (fed ++ more) told said (version-more fed more told (omega (arith, long)) is) now)
