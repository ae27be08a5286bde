-- Keys that the order doesn't tell apart are the same.
pub use Rattle.qz_tables.specs.QueueOrder.{key_exact, key_total}
use Rattle.std.proofs.Common.{◌≡◌, ◌≢◌, List, ℕ, true, false, refl}
use Rattle.std.specs.Ordering.{is_eq, nat_cmp, ordering_reverse}
use Rattle.std.specs.Cmp.Lexicographic.{slice_cmp}
use Rattle.std.specs.declared.cmp.Ordering.{Ordering}
use Rattle.std.specs.declared.cmp.Ordering.TheVariants.{Less, Equal, Greater}
use Rattle.std.proofs.lemmas.Cmp.{nat_list_cmp_total}
use Rattle.qz_types.specs.Words.{key_cmp}
use Rattle.qz_types.specs.declared.keys.Key.{Key}

tied : (o : Ordering) → o ≡ ordering_reverse o → o ≡ Equal
tied Less e = absurd (cc)
tied Equal e = refl
tied Greater e = absurd (cc)

text_itself : (x : List ℕ) → slice_cmp nat_cmp x x ≡ Equal
text_itself x = tied (slice_cmp nat_cmp x x) (nat_list_cmp_total.antisymm x x)

pub key_itself : (a : Key) → is_eq (key_cmp a a) ≡ true
key_itself a = rw (text_itself a.group, text_itself a.name) refl

pub key_differs : (a b : Key) → a ≢ b → is_eq (key_cmp a b) ≡ false
key_differs a b differs = elim (is_eq (key_cmp a b)) as (λ t. is_eq (key_cmp a b) ≡ t → t ≡ false) [
  | true ↦ λ e. absurd (differs (key_exact a b e))
  | false ↦ λ e. refl
] refl
