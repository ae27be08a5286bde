-- What is found by halves in a list that ascends is in the list.
use Rattle.std.proofs.Common.{◌≡◌, ℕ, zero, suc, ◌<◌, ◌≤◌, inl, inr, Bool, true, false, ◌&&◌, nat_lt, ◌==◌, sym, arith, List, [], ◌∷◌, length, get_or, Option, Some, None, Result, Ok, Err, is_ok}
use Rattle.std.specs.List.Sorted.{IsBinarySearchResult}
use Rattle.std.specs.Ordering.{nat_cmp}
use Rattle.std.proofs.lemmas.Bool.{and_parts, cases_lt}
use Rattle.std.proofs.lemmas.List.Elements.{All-from_get_or}
use Rattle.std.proofs.lemmas.List.Folds.{list_any_at, list_any_none}
use Rattle.std.proofs.lemmas.List.Sorted.{searched}
use Rattle.qz_civil.specs.Calendars.{are_above, is_above}
use Rattle.qz_calendar.specs.Exclusions.{lists}

is_same : (m n : ℕ) → m ≡ n → (m == n) ≡ true
is_same m n h = grind arith

is_other : (m n : ℕ) → m < n → (m == n) ≡ false
is_other m n h = grind arith

is_over : (m n : ℕ) → n < m → (m == n) ≡ false
is_over m n h = grind arith

is_lt : (m n : ℕ) → nat_lt m n ≡ true → m < n
is_lt m n h = grind arith

-- a number and the rest behind a number
above_parts : (passes : ℕ → Bool) (x y : ℕ) (rest : List ℕ) → are_above passes (Some x) (y ∷ rest) ≡ true → (x < y) × (are_above passes (Some y) rest ≡ true)
above_parts passes x y rest h =
    let parts = and_parts (passes y && nat_lt x y) (are_above passes (Some y) rest) h in
    let both = and_parts (passes y) (nat_lt x y) parts.0 in
    (is_lt x y both.1, parts.1)

-- each number of an ascending list is above what is before the list
below : (passes : ℕ → Bool) (x : ℕ) (rest : List ℕ) → are_above passes (Some x) rest ≡ true → (j : ℕ) → j < length rest → x < get_or rest j 0
below passes x [] h j lt = absurd (omega arith)
below passes x (y ∷ rest) h zero lt = (above_parts passes x y rest h).0
below passes x (y ∷ rest) h (suc j) lt =
    let parts = above_parts passes x y rest h in
    let over = parts.0 in
    let later = below passes y rest parts.1 j (omega arith) in
    omega arith

rest_above : (passes : ℕ → Bool) (before : Option ℕ) (n : ℕ) (rest : List ℕ) → are_above passes before (n ∷ rest) ≡ true → are_above passes (Some n) rest ≡ true
rest_above passes before n rest h = let parts = and_parts (passes n && is_above before n) (are_above passes (Some n) rest) h in parts.1

rises : (passes : ℕ → Bool) (before : Option ℕ) (ns : List ℕ) → are_above passes before ns ≡ true → (i j : ℕ) → i ≤ j → j < length ns → get_or ns i 0 ≤ get_or ns j 0
rises passes before [] h i j le lt = absurd (omega arith)
rises passes before (n ∷ rest) h zero zero le lt = omega arith
rises passes before (n ∷ rest) h zero (suc j) le lt =
    let over = below passes n rest (rest_above passes before n rest h) j (omega arith) in
    omega arith
rises passes before (n ∷ rest) h (suc i) zero le lt = absurd (omega arith)
rises passes before (n ∷ rest) h (suc i) (suc j) le lt = rises passes (Some n) rest (rest_above passes before n rest h) i j (omega arith) (omega arith)

pub lists-found : (passes : ℕ → Bool) (ns : List ℕ) (n : ℕ) (r : Result ℕ ℕ) → are_above passes None ns ≡ true → IsBinarySearchResult (λ m. nat_cmp m n) ns r → is_ok r ≡ lists ns n
lists-found passes ns n (Ok i) h search =
    let found = searched ns n (Ok i) search (rises passes None ns h) in
    sym (list_any_at (λ m. m == n) ns i 0 found.0 (is_same (get_or ns i 0) n found.1))
lists-found passes ns n (Err i) h search =
    let found = searched ns n (Err i) search (rises passes None ns h) in
    sym (list_any_none (λ m. m == n) ns (All-from_get_or (λ m. (m == n) ≡ false) ns 0 (λ k within. elim (cases_lt k i) [
      | inl lt ↦ is_other (get_or ns k 0) n (found.1 k lt)
      | inr ge ↦ is_over (get_or ns k 0) n (found.2 k ge within)
    ])))
