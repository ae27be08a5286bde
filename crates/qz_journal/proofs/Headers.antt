-- The headers of the two kinds, and their versions.
use Rattle.std.proofs.Common.{◌≡◌, ◌≢◌, ℕ, ◌<◌, true, false, List, length, take, get_or, sym, ◌∙◌, ap, arith, length-take}
use Rattle.std.proofs.lemmas.Bool.Decides.{nat_tests}
use Rattle.std.proofs.lemmas.List.{take-take, get_or-take}
use Rattle.qz_journal.specs.Layout.{front_of, is_version, IsHeader, HasHeader, IsFront, IsStore, other_kind}

pub header_length : (version kind : ℕ) (head : List ℕ) → IsHeader version kind head → length head ≡ 16
header_length version kind head is = is.long

-- the fifth byte is the version
fifth_is : (version kind : ℕ) (head : List ℕ) → take 6 head ≡ front_of version kind → get_or head 4 0 ≡ version
fifth_is version kind head is = sym (get_or-take 6 head 4 0 (omega arith)) ∙ ap (λ (l : List ℕ). get_or l 4 0) is

pub one_version : (v w kind : ℕ) (head : List ℕ) → IsHeader v kind head → IsHeader w kind head → v ≡ w
one_version v w kind head is_v is_w = sym (fifth_is v kind head is_v.front) ∙ fifth_is w kind head is_w.front

-- the fifth byte is no version
pub no_version : (kind : ℕ) (head : List ℕ) → is_version (get_or head 4 0) ≡ false → (version : ℕ) → IsHeader version kind head → ⊥
no_version kind head none version is = let both : true ≡ false = sym is.known ∙ ap is_version (sym (fifth_is version kind head is.front)) ∙ none in cc

-- the first bytes are others than those of its fifth byte
pub other_header : (kind : ℕ) (head first : List ℕ) → first ≡ take 6 head → first ≢ front_of (get_or head 4 0) kind → (version : ℕ) → IsHeader version kind head → ⊥
other_header kind head first first_is differ version is =
    differ (first_is ∙ is.front ∙ ap (λ n. front_of n kind) (sym (fifth_is version kind head is.front)))

-- fewer bytes are none
pub too_short : (kind : ℕ) (bytes : List ℕ) → length bytes < 16 → HasHeader kind bytes → ⊥
too_short kind bytes short (version, is) = omega (arith, header_length version kind (take 16 bytes) is, length-take 16 bytes)

pub no_front : (kind : ℕ) (bytes : List ℕ) → length bytes < 6 → IsStore kind bytes → ⊥
no_front kind bytes short (version, is) = omega (arith, ap length is, length-take 6 bytes)

pub ruleset of_headers = no_front

pub header_store : (bytes : List ℕ) (kind : ℕ) → HasHeader kind bytes → IsStore kind bytes
header_store bytes kind (version, is) = (version, sym (take-take 6 16 bytes (omega arith)) ∙ is.front)

pub one_kind : (bytes : List ℕ) (kind : ℕ) → IsStore kind bytes → IsStore (other_kind kind) bytes → ⊥
one_kind bytes kind (v, is) (w, other) = differ kind (ap (λ (l : List ℕ). get_or l 5 0) (sym is ∙ other))
  where
    differ : (kind : ℕ) → kind ≡ other_kind kind → ⊥
    differ kind same = grind (arith, nat_tests)

-- the first bytes of a store have one fifth byte
pub other_front : (kind : ℕ) (front : List ℕ) → front ≢ front_of (get_or front 4 0) kind → IsFront kind front → ⊥
other_front kind front differ (version, is) = differ (is ∙ ap (λ n. front_of n kind) (sym (ap (λ (l : List ℕ). get_or l 4 0) is)))
