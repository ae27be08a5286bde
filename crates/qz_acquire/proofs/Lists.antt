-- Filters and searches of lists.
use Rattle.std.proofs.Common.{◌≡◌, ℕ, zero, suc, ◌+◌, ◌-◌, ◌<◌, ◌≤◌, Bool, true, false, cond, ◌||◌, List, [], ◌∷◌, ◌++◌, drop, take, filter, Some, None, refl, sym, ap, subst, ◌∙◌, arith}
use Rattle.std.specs.List.{AllByRecursion, list_any, slice_get}

false_unless : (a b : Bool) → (a ≡ true → b ≡ true) → b ≡ false → a ≡ false
false_unless true b f isnt = let is = f refl in absurd (cc)
false_unless false b f isnt = refl

pub or_neither : (a b : Bool) → (a || b) ≡ false → (a ≡ false) × (b ≡ false)
or_neither true b e = absurd (cc)
or_neither false b e = (refl, e)

pub or_other : (a b : Bool) → (a || b) ≡ true → a ≡ false → b ≡ true
or_other true b e f = absurd (cc)
or_other false b e f = e

module _ {X : Type 0} where
  -- a filter after a weaker one
  pub filter-within : (p q : X → Bool) (xs : List X) → ((x : X) → p x ≡ true → q x ≡ true) → filter p (filter q xs) ≡ filter p xs
  filter-within p q [] within = refl
  filter-within p q (x ∷ xs) within = elim (q x) as (λ b. q x ≡ b → filter p (cond b (x ∷ filter q xs) (filter q xs)) ≡ filter p (x ∷ xs)) [
    | true ↦ λ e. rw (filter-within p q xs within) refl
    | false ↦ λ e. rw (false_unless (p x) (q x) (within x) e) (filter-within p q xs within)
  ] refl

  pub filter-same : (p q : X → Bool) (xs : List X) → ((x : X) → p x ≡ q x) → filter p xs ≡ filter q xs
  filter-same p q [] same = refl
  filter-same p q (x ∷ xs) same = rw (same x, filter-same p q xs same) refl

  pub filter-none : (p : X → Bool) (xs : List X) → AllByRecursion (λ x. p x ≡ false) xs → filter p xs ≡ []
  filter-none p [] none = refl
  filter-none p (x ∷ xs) none = rw none.0 (filter-none p xs none.1)

  pub drop-at : (xs : List X) (n : ℕ) (x : X) → Some x ≡ slice_get xs n → drop n xs ≡ x ∷ drop (suc n) xs
  drop-at [] n x at = absurd (cc)
  drop-at (y ∷ ys) zero x at = let same : x ≡ y = cc in ap (λ z. z ∷ ys) (sym same)
  drop-at (y ∷ ys) (suc n) x at = drop-at ys n x at

  pub drop-past : (xs : List X) (n : ℕ) → None ≡ slice_get xs n → drop n xs ≡ []
  drop-past [] zero past = refl
  drop-past [] (suc n) past = refl
  drop-past (y ∷ ys) zero past = absurd (cc)
  drop-past (y ∷ ys) (suc n) past = drop-past ys n past

  pub list_any-append : (p : X → Bool) (xs : List X) (y : X) → list_any p (xs ++ y ∷ []) ≡ (list_any p xs || p y)
  list_any-append p [] y = elim (p y) as (λ b. (b || false) ≡ b) [ true ↦ refl | false ↦ refl ]
  list_any-append p (x ∷ xs) y = elim (p x) as (λ b. (b || list_any p (xs ++ y ∷ [])) ≡ ((b || list_any p xs) || p y)) [ true ↦ refl | false ↦ list_any-append p xs y ]

  -- one more is taken
  pub take-one : (n k : ℕ) (x : X) (xs : List X) → k < n → take (n - k) (x ∷ xs) ≡ x ∷ take (n - (k + 1)) xs
  take-one n k x xs less = let e : n - k ≡ suc (n - (k + 1)) = omega arith in rw e refl

  -- none is taken any more
  pub take-full : (n k : ℕ) (xs : List X) → n ≤ k → take (n - k) xs ≡ []
  take-full n k xs full = let e : n - k ≡ zero = omega arith in rw e refl

  pub take-empty : (n : ℕ) (xs : List X) → xs ≡ [] → take n xs ≡ []
  take-empty zero xs empty = refl
  take-empty (suc n) xs empty = rw empty refl

  -- the first that passes, its place, and those before it
  pub record IsFirst (p : X → Bool) (xs : List X) (x : X) : Type 0 where
    pub skipped : ℕ
    pub at : Some x ≡ slice_get xs skipped
    pub passes : p x ≡ true
    pub over : AllByRecursion (λ y. p y ≡ false) (take skipped xs)

  pub first-passing : (p : X → Bool) (xs : List X) (x : X) → Some x ≡ slice_get (filter p xs) 0 → IsFirst p xs x
  first-passing p [] x e = absurd (cc)
  first-passing p (y ∷ ys) x e = elim (p y) as (λ b. p y ≡ b → Some x ≡ slice_get (cond b (y ∷ filter p ys) (filter p ys)) 0 → IsFirst p (y ∷ ys) x) [
    | true ↦ λ is h. let same : y ≡ x = cc in record { skipped = 0; at = h; passes = subst (λ z. p z ≡ true) same is; over = tt }
    | false ↦ λ isnt h. (let f = first-passing p ys x h in record { skipped = suc f.skipped; at = f.at; passes = f.passes; over = (isnt, f.over) })
  ] refl e

  pub none-passing : (p : X → Bool) (xs : List X) → None ≡ slice_get (filter p xs) 0 → AllByRecursion (λ y. p y ≡ false) xs
  none-passing p [] e = tt
  none-passing p (y ∷ ys) e = elim (p y) as (λ b. p y ≡ b → None ≡ slice_get (cond b (y ∷ filter p ys) (filter p ys)) 0 → AllByRecursion (λ z. p z ≡ false) (y ∷ ys)) [
    | true ↦ λ is h. absurd (cc)
    | false ↦ λ isnt h. (isnt, none-passing p ys h)
  ] refl e

  pub get-drop : (xs : List X) (n k : ℕ) → slice_get (drop n xs) k ≡ slice_get xs (n + k)
  get-drop xs zero k = let e : k ≡ 0 + k = omega arith in ap (slice_get xs) e
  get-drop [] (suc n) k = refl
  get-drop (x ∷ xs) (suc n) k = let e : suc (n + k) ≡ suc n + k = omega arith in get-drop xs n k ∙ ap (slice_get (x ∷ xs)) e

  -- those that don't pass are left out
  pub filter-over : (p : X → Bool) (xs : List X) (k : ℕ) → AllByRecursion (λ y. p y ≡ false) (take k xs) → filter p xs ≡ filter p (drop k xs)
  filter-over p xs zero over = refl
  filter-over p [] (suc k) over = refl
  filter-over p (x ∷ xs) (suc k) over = rw over.0 (filter-over p xs k over.1)
