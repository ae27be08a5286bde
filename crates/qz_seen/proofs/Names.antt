-- The names of different nodes differ.
use Rattle.std.proofs.Common.{◌≡◌, ◌≢◌, ℕ, ◌+◌, ◌<◌, ◌^◌, nat_lt, true, false, [], ◌∷◌, refl, arith, if◌then◌else◌}
use Rattle.std.specs.Fmt.{decimal}
use Rattle.std.proofs.lemmas.Bool.{false_from_ne_true, lt-ltb, ltb-true}
use Rattle.std.proofs.lemmas.Fmt.{decimal_injective}
use Rattle.std.proofs.lemmas.Map.Lookups.{exact_bytes}
use Rattle.qz_types.specs.Words.{text_cmp, same_text}
use Rattle.qz_model.proofs.LookUps.{equal_from}
use Rattle.qz_seen.specs.Seen.{node_name}

-- a number of 32 bits has a name
pub name_of : (n : ℕ) → n < 2 ^ 32 → node_name n ≡ 110 ∷ decimal (n + 1)
unfolding node_name
name_of n small = rw (lt-ltb n (2 ^ 32) small) refl

-- two names that are one are of one number
same_number : (n k : ℕ) → n < 2 ^ 32 → node_name n ≡ node_name k → k ≡ n
unfolding node_name
same_number n k small e = elim (nat_lt k (2 ^ 32)) as (λ b. nat_lt k (2 ^ 32) ≡ b → node_name n ≡ (if b then 110 ∷ decimal (k + 1) else []) → k ≡ n) [
  | true ↦ λ is own.
      let also : k < 2 ^ 32 = ltb-true k (2 ^ 32) is in
      let named : node_name n ≡ 110 ∷ decimal (n + 1) = name_of n small in
      let digits : decimal (n + 1) ≡ decimal (k + 1) = cc in
      let same : n + 1 ≡ k + 1 = decimal_injective (n + 1) (k + 1) (omega arith) (omega arith) digits in
      omega arith
  | false ↦ λ is own. let named : node_name n ≡ 110 ∷ decimal (n + 1) = name_of n small in absurd (cc)
] refl e

pub other_name : (n k : ℕ) → n < 2 ^ 32 → k ≢ n → same_text (node_name n) (node_name k) ≡ false
unfolding same_text
other_name n k small differ = false_from_ne_true (same_text (node_name n) (node_name k)) (λ same. differ (same_number n k small (exact_bytes (node_name n) (node_name k) (equal_from (text_cmp (node_name n) (node_name k)) same))))
