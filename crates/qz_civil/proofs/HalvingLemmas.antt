-- The stretches that have begun are those before one place, so that they can be counted by halves.
use Rattle.std.proofs.Common.{◌≡◌, ℕ, zero, suc, ◌≤◌, true, false, sym, arith, ℤ, pos, ◌≤ℤ◌, int_le, List, [], ◌∷◌, length, Option, None, Some, get_or}
use Rattle.std.specs.List.Sorted.{IsPartitionPoint, IsPartitionedBy}
use Rattle.std.proofs.lemmas.Int.{ints}
use Rattle.std.proofs.lemmas.List.Sums.{prefix_len_is}
use Rattle.std.proofs.lemmas.Option.{slice_get-get_or}
use Rattle.qz_civil.specs.declared.stretches.Stretch.{Stretch}
use Rattle.qz_civil.specs.Zones.{begun, bad_zone}
use Rattle.qz_civil.proofs.ZoneLemmas.{IsTable, begins_after, zone-table}

began : (s : Stretch) (t : ℤ) → int_le s.from t ≡ true → s.from ≤ℤ t
began s t h = grind (arith, ints)

parted : (before : Option ℤ) (zs : List Stretch) (t : ℤ) → IsTable before zs → IsPartitionedBy (λ s. int_le s.from t) zs
parted before [] t h i j d le lt begins = absurd (omega arith)
parted before (x ∷ rest) t h zero zero d le lt begins = begins
parted before (x ∷ rest) t h zero (suc j) d le lt begins =
    let later = begins_after x.from rest j (get_or rest j d) h.2 (slice_get-get_or rest j d (omega arith)) in
    let at = began (get_or rest j d) t begins in
    grind (arith, ints)
parted before (x ∷ rest) t h (suc i) zero d le lt begins = absurd (omega arith)
parted before (x ∷ rest) t h (suc i) (suc j) d le lt begins = parted (Some x.from) rest t h.2 i j d (omega arith) (omega arith) begins

pub zone-parted : (zs : List Stretch) (t : ℤ) → bad_zone zs ≡ None → IsPartitionedBy (λ s. int_le s.from t) zs
zone-parted zs t h = parted None zs t (zone-table zs h)

any : Stretch
any = record { from = pos 0; offset = pos 0 }

pub begun-parted : (zs : List Stretch) (t : ℤ) (n : ℕ) → n ≤ length zs → IsPartitionPoint (λ s. int_le s.from t ≡ true) (λ s. int_le s.from t ≡ false) zs n → n ≡ begun zs t
unfolding begun
begun-parted zs t n le point = sym (prefix_len_is (λ s. int_le s.from t) zs n any le (λ k lt. point.0 k any (omega arith) lt) (λ lt. point.1 n any (omega arith) lt))
