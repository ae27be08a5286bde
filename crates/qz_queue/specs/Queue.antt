-- What contracts see of a due queue.
use Rattle.std.specs.Prelude.{ℕ, List, Bool, refl}
use Rattle.std.specs.Coded.{Coded, code_by, coded×, coded_ℕ, coded_list}
use Rattle.qz_queue.specs.Heap.{IsHeap, IsPlaced, AreKeysApart}

-- The pairs of a key and its slot, in the order of the keys; how many more pairs go in without memory; slots below
-- `places` have a place.
pub record QueueData (K : Type 0) : Type 0 where
  pub pairs : List (K × ℕ)
  pub spare : ℕ
  pub places : ℕ

abbrev pub queue_code : {K : Type 0} → Coded K → Coded (QueueData K)
queue_code {K} code =
    code_by (List (K × ℕ) × (ℕ × ℕ)) (coded× (coded_list (coded× code coded_ℕ)) (coded× coded_ℕ coded_ℕ))
    (λ q. (q.pairs, (q.spare, q.places)))
    (λ p. record { pairs = p.0; spare = p.1.0; places = p.1.1 })
    (λ _. refl)

-- A heap of pairs with different keys, whose places are in the table.
pub record IsIndexed {K : Type 0} (before : K → K → Bool) (xs : List (K × ℕ)) (ps : List ℕ) : Type 0 where
  pub heap : IsHeap before xs
  pub placed : IsPlaced xs ps
  pub apart : AreKeysApart xs
