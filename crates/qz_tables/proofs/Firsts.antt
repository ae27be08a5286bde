-- The first item that passes a test, from a place on.
use Rattle.std.proofs.Common.{◌≡◌, ℕ, zero, suc, ◌≤◌, length, arith, List, [], ◌∷◌, drop, filter, Bool, true, false, Some, None, refl, ap}
use Rattle.std.specs.List.{slice_get}

module _ {X : Type 0} where
  pub drop-at : (xs : List X) (n : ℕ) (x : X) → slice_get xs n ≡ Some x → drop n xs ≡ x ∷ drop (suc n) xs
  drop-at [] n x e = absurd (cc)
  drop-at (y ∷ ys) zero x e = let same : y ≡ x = cc in ap (λ z. z ∷ ys) same
  drop-at (y ∷ ys) (suc n) x e = drop-at ys n x e

  pub drop-end : (xs : List X) (n : ℕ) → slice_get xs n ≡ None → drop n xs ≡ []
  drop-end [] zero e = refl
  drop-end [] (suc n) e = refl
  drop-end (y ∷ ys) zero e = absurd (cc)
  drop-end (y ∷ ys) (suc n) e = drop-end ys n e

  pub passes-at : (p : X → Bool) (xs : List X) (n : ℕ) (x : X) → slice_get xs n ≡ Some x → p x ≡ true → filter p (drop n xs) ≡ x ∷ filter p (drop (suc n) xs)
  passes-at p xs n x at passes = rw (drop-at xs n x at, passes) refl

  pub fails-at : (p : X → Bool) (xs : List X) (n : ℕ) (x : X) → slice_get xs n ≡ Some x → p x ≡ false → filter p (drop n xs) ≡ filter p (drop (suc n) xs)
  fails-at p xs n x at fails = rw (drop-at xs n x at, fails) refl

  pub drop-past : (xs : List X) (n : ℕ) → length xs ≤ n → drop n xs ≡ []
  drop-past [] zero le = refl
  drop-past [] (suc n) le = refl
  drop-past (y ∷ ys) zero le = absurd (omega arith)
  drop-past (y ∷ ys) (suc n) le = drop-past ys n (omega arith)
