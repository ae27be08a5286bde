-- Pairs of a key and a slot, in the order of their keys.
use Rattle.std.specs.Prelude.{◌≡◌, ◌≢◌, ℕ, ◌+◌, ◌-◌, ◌*◌, ◌^◌, ◌≤◌, Bool, true, false, List, [], ◌∷◌, ◌⊎◌, Option, Some, None, if◌then◌else◌, ◌==◌}
use Rattle.std.specs.List.{All, AllPairs, Contains}

-- Of any two different keys exactly one stands before the other, and no key stands before itself.
pub record IsStrictOrder {K : Type 0} (before : K → K → Bool) : Type 0 where
  pub one_way : (a b : K) → before a b ≡ true → before b a ≡ false
  pub chain : (a b c : K) → before a b ≡ true → before b c ≡ true → before a c ≡ true
  pub total : (a b : K) → before a b ≡ false → before b a ≡ false → a ≡ b

-- A count rises by one, or has reached the end of its type and stays there.
abbrev pub CountsOne : ℕ → ℕ → Type 0
CountsOne old new = (new ≡ old + 1) ⊎ ((old ≡ 2 ^ 64 - 1) × (new ≡ 2 ^ 64 - 1))

-- What compares keys knows each key of the pairs, and so can compare them.
abbrev pub AreKnown : {K : Type 0} → (K → Type 0) → List (K × ℕ) → Type 0
AreKnown {K} knows xs = (x : K × ℕ) → Contains xs x → knows x.0

-- It knows each key that it knew.
abbrev pub KeepsKnown : {K : Type 0} → (K → Type 0) → (K → Type 0) → Type 0
KeepsKnown {K} old new = (k : K) → old k → new k

-- In a queue of n pairs a count rises by at most 2 d + 2, for a d with 2 ^ d at most 2 n + 1: by the logarithm of n,
-- but for a factor and a constant.
abbrev pub IsLogarithmic : ℕ → ℕ → ℕ → Type 0
IsLogarithmic n old new = (d : ℕ) × (2 ^ d ≤ 2 * n + 1) × (new ≤ old + (2 * d + 2))

module _ {K : Type 0} (before : K → K → Bool) where
  -- The pairs with one more, which goes before the first whose key doesn't stand before its own.
  abbrev pub put_pair : K × ℕ → List (K × ℕ) → List (K × ℕ)
  put_pair x [] = x ∷ []
  put_pair x (y ∷ ys) = if before y.0 x.0 then y ∷ put_pair x ys else x ∷ y ∷ ys

  -- The pairs in the order of their keys: put in one after the other.
  abbrev pub in_order : List (K × ℕ) → List (K × ℕ)
  in_order [] = []
  in_order (x ∷ xs) = put_pair x (in_order xs)

  -- Each key stands before all keys after it.
  abbrev pub AreAscending : List (K × ℕ) → Type 0
  AreAscending = AllPairs (λ x y. before x.0 y.0 ≡ true)

module _ {K : Type 0} where
  -- The key of a slot, where the slot has one.
  abbrev pub key_of : ℕ → List (K × ℕ) → Option K
  key_of slot [] = None
  key_of slot (x ∷ xs) = if x.1 == slot then Some x.0 else key_of slot xs

  -- The pairs without that of a slot.
  abbrev pub without_slot : ℕ → List (K × ℕ) → List (K × ℕ)
  without_slot slot [] = []
  without_slot slot (x ∷ xs) = if x.1 == slot then xs else x ∷ without_slot slot xs

  -- No other slot than this one has this key.
  abbrev pub IsKeyFree : K → ℕ → List (K × ℕ) → Type 0
  IsKeyFree due slot = All (λ x. x.0 ≡ due → x.1 ≡ slot)

  -- No slot has two pairs.
  abbrev pub AreSlotsApart : List (K × ℕ) → Type 0
  AreSlotsApart = AllPairs (λ x y. x.1 ≢ y.1)
