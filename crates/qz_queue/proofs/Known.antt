-- Which keys are known, after edits of the pairs.
use Rattle.std.proofs.Common.{◌≡◌, ℕ, zero, suc, ◌<◌, Bool, List, [], ◌∷◌, ◌++◌, length, get_or, set, subst}
use Rattle.std.proofs.lemmas.List.Sorted.{IsPermutation-sym, Contains-permutation}
use Rattle.std.specs.List.Sorted.{IsPermutation}
use Rattle.qz_queue.specs.Lists.{Every}
use Rattle.qz_queue.specs.Order.{IsStrictOrder, in_order, AreKnown, KeepsKnown}
use Rattle.qz_queue.proofs.Lists.{every_in, every_from, is_in}
use Rattle.qz_queue.proofs.Sorts.{sorted_every}

module _ {K : Type 0} where
  pub known_moved : (P Q : K → Type 0) (xs ys : List (K × ℕ)) → AreKnown P xs → KeepsKnown P Q → IsPermutation xs ys → AreKnown Q ys
  known_moved P Q xs ys h keep p = λ x c. keep x.0 (h x (Contains-permutation ys xs x (IsPermutation-sym xs ys p) c))

  pub known_later : (P Q : K → Type 0) (xs : List (K × ℕ)) → AreKnown P xs → KeepsKnown P Q → AreKnown Q xs
  known_later P Q xs h keep = λ x c. keep x.0 (h x c)

  pub known_at : (P : K → Type 0) (xs : List (K × ℕ)) (k : ℕ) (d : K × ℕ) → AreKnown P xs → k < length xs → P (get_or xs k d).0
  known_at P xs k d h p = h (get_or xs k d) (is_in xs k d p)

  pub every_known : (P : K → Type 0) (xs : List (K × ℕ)) → AreKnown P xs → Every (λ (x : K × ℕ). P x.0) xs
  every_known P xs h = every_from (λ (x : K × ℕ). P x.0) xs (λ k d p. known_at P xs k d h p)

  pub known_every : (P : K → Type 0) (xs : List (K × ℕ)) → Every (λ (x : K × ℕ). P x.0) xs → AreKnown P xs
  known_every P xs h = λ x c. every_in (λ (y : K × ℕ). P y.0) xs x h c

  pub known_set : (P : K → Type 0) (xs : List (K × ℕ)) (k : ℕ) (x : K × ℕ) → AreKnown P xs → P x.0 → AreKnown P (set xs k x)
  known_set P xs k x h p = known_every P (set xs k x) (every_set xs k x (every_known P xs h) p)
    where
      every_set : (ys : List (K × ℕ)) (i : ℕ) (y : K × ℕ) → Every (λ (z : K × ℕ). P z.0) ys → P y.0 → Every (λ (z : K × ℕ). P z.0) (set ys i y)
      every_set [] i y e q = tt
      every_set (z ∷ zs) zero y e q = (q, e.1)
      every_set (z ∷ zs) (suc i) y e q = (e.0, every_set zs i y e.1 q)

  every_append : (P : K × ℕ → Type 0) (xs : List (K × ℕ)) (x : K × ℕ) → Every P xs → P x → Every P (xs ++ x ∷ [])
  every_append P [] x h p = (p, tt)
  every_append P (y ∷ ys) x h p = (h.0, every_append P ys x h.1 p)

  every_front : (P : K × ℕ → Type 0) (xs : List (K × ℕ)) (x : K × ℕ) → Every P (xs ++ x ∷ []) → Every P xs
  every_front P [] x h = tt
  every_front P (y ∷ ys) x h = (h.0, every_front P ys x h.1)

  pub known_append : (P : K → Type 0) (xs : List (K × ℕ)) (x : K × ℕ) → AreKnown P xs → P x.0 → AreKnown P (xs ++ x ∷ [])
  known_append P xs x h p = known_every P (xs ++ x ∷ []) (every_append (λ (y : K × ℕ). P y.0) xs x (every_known P xs h) p)

  pub known_front : (P : K → Type 0) (xs ys : List (K × ℕ)) (x : K × ℕ) → xs ≡ ys ++ x ∷ [] → AreKnown P xs → AreKnown P ys
  known_front P xs ys x e h = known_every P ys (every_front (λ (y : K × ℕ). P y.0) ys x (every_known P (ys ++ x ∷ []) (subst (AreKnown P) e h)))

module _ {K : Type 0} (before : K → K → Bool) (o : IsStrictOrder before) where
  -- the keys of a heap, where those of its list are known
  pub known_heap : (P : K → Type 0) (xs : List (K × ℕ)) → AreKnown P (in_order before xs) → AreKnown P xs
  known_heap P xs h = known_every P xs (sorted_every before o (λ (x : K × ℕ). P x.0) xs (every_known P (in_order before xs) h))
