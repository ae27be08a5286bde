-- Lists by places and by recursion.
use Rattle.std.proofs.Common.{◌≡◌, ◌≢◌, ℕ, zero, suc, ◌<◌, ◌≤◌, Bool, true, false, List, [], ◌∷◌, ◌⊎◌, ⊎_elim, inl, inr, length, get_or, refl, subst, ltb, ltb-true, ltb-false, arith, if◌then◌else◌}
use Rattle.std.proofs.lemmas.List.Kept.{AllPairs-cons}
use Rattle.std.specs.List.{All, AllPairs, Contains}
use Rattle.qz_queue.specs.Lists.{Every, EachLater}

pub below_or : (k n : ℕ) → (k < n) ⊎ (n ≤ k)
below_or k n = by_test (ltb k n) refl
  where
    by_test : (r : Bool) → ltb k n ≡ r → (k < n) ⊎ (n ≤ k)
    by_test true e = inl (ltb-true k n e)
    by_test false e = inr (ltb-false k n e)

pub lt_or : (i j : ℕ) → i ≢ j → (i < j) ⊎ (j < i)
lt_or i j n = ⊎_elim (λ (h : i < j). inl h) (λ (h : j ≤ i). inr (omega arith)) (below_or i j)

pub same_default : {X : Type 0} (xs : List X) (i : ℕ) (d e : X) → i < length xs → get_or xs i d ≡ get_or xs i e
same_default [] i d e h = absurd (omega arith)
same_default (x ∷ xs) zero d e h = refl
same_default (x ∷ xs) (suc i) d e h = same_default xs i d e (omega arith)

contains_at : {X : Type 0} (xs : List X) (k : ℕ) (d : X) → k < length xs → get_or xs k (get_or xs k d) ≡ get_or xs k d
contains_at [] k d h = absurd (omega arith)
contains_at (x ∷ xs) zero d h = refl
contains_at (x ∷ xs) (suc k) d h = contains_at xs k d (omega arith)

pub is_in : {X : Type 0} (xs : List X) (k : ℕ) (d : X) → k < length xs → Contains xs (get_or xs k d)
is_in xs k d h = (k, h, contains_at xs k d h)

module _ {X : Type 0} (P : X → Type 0) where
  pub every_at : (xs : List X) (k : ℕ) (d : X) → Every P xs → k < length xs → P (get_or xs k d)
  every_at [] k d h p = absurd (omega arith)
  every_at (x ∷ xs) zero d h p = h.0
  every_at (x ∷ xs) (suc k) d h p = every_at xs k d h.1 (omega arith)

  pub every_from : (xs : List X) → All P xs → Every P xs
  every_from [] h = tt
  every_from (x ∷ xs) h = (h 0 x (omega arith), every_from xs (λ k d p. h (suc k) d (omega arith)))

  pub every_in : (xs : List X) (a : X) → Every P xs → Contains xs a → P a
  every_in xs a h c = subst P c.2 (every_at xs c.0 a h c.1)

module _ {X : Type 0} (R : X → X → Type 0) where
  pub all_pairs : (xs : List X) → EachLater R xs → AllPairs R xs
  all_pairs [] h = λ i j d p q. absurd (omega arith)
  all_pairs (x ∷ xs) h = AllPairs-cons R x xs (λ k d p. every_at (R x) xs k d h.0 p) (all_pairs xs h.1)

  pub later_if : (r : Bool) (a b : List X) → (r ≡ true → EachLater R a) → (r ≡ false → EachLater R b) → EachLater R (if r then a else b)
  later_if true a b p q = p refl
  later_if false a b p q = q refl
