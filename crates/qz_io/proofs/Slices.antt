-- Ranges of a list.
use Rattle.std.proofs.Common.{◌≡◌, ◌∙◌, ℕ, ◌+◌, ◌-◌, ◌≤◌, ◌<◌, List, [], ◌∷◌, ◌++◌, take, drop, length, get_or, slice_range, refl, sym, ap, arith}
use Rattle.std.proofs.lemmas.List.{take-append-drop, drop-drop, take-take, length-take, length-drop, drop_more, take_at, take_rest, length-take-le}
use Rattle.std.proofs.Math.Seq.{take-add}

-- a range is its part before a place and its part behind it
pub slice_range-join : (xs : List ℕ) (a b c : ℕ) → a ≤ b → b ≤ c → slice_range xs a b ++ slice_range xs b c ≡ slice_range xs a c
slice_range-join xs a b c low high =
    let from : drop b xs ≡ drop (b - a) (drop a xs) = sym (drop-drop (b - a) a xs ∙ ap (λ n. drop n xs) (omega arith)) in
    let size : c - a ≡ (b - a) + (c - b) = omega arith in
    rw (size, take-add) (rw from refl)

-- the range of one place
pub slice_range-one : (xs : List ℕ) (a : ℕ) → a < length xs → slice_range xs a (a + 1) ≡ get_or xs a 0 ∷ []
slice_range-one xs a lt =
    let one : (a + 1) - a ≡ 1 = omega arith in
    rw (one, drop_more xs a 0) refl

-- nothing stands between a place and itself
pub slice_range-none : (xs : List ℕ) (a : ℕ) → slice_range xs a a ≡ []
slice_range-none xs a = let none : a - a ≡ 0 = omega arith in rw none refl

-- how long a range is
pub length-slice_range : (xs : List ℕ) (a b : ℕ) → a ≤ b → b ≤ length xs → length (slice_range xs a b) ≡ b - a
length-slice_range xs a b low high = simp (length-take, length-drop) (omega arith)

-- the front of a range
pub take-slice_range : (xs : List ℕ) (a b n : ℕ) → n ≤ b - a → take n (slice_range xs a b) ≡ slice_range xs a (a + n)
take-slice_range xs a b n le =
    let size : (a + n) - a ≡ n = omega arith in
    take-take n (b - a) (drop a xs) le ∙ rw size refl

-- a range from the front
pub slice_range-front : (xs : List ℕ) (n : ℕ) → slice_range xs 0 n ≡ take n xs
slice_range-front xs n = let whole : n - 0 ≡ n = omega arith in rw whole refl

-- a read from a list: what was copied to the front of a buffer, and what is left of the list
pub read_front : (xs rest ys tail : List ℕ) (at n : ℕ) → rest ≡ xs → n ≤ length xs - at
    → ys ≡ take n (take (length rest - at) (drop at rest)) → drop at xs ≡ take n (ys ++ tail) ++ drop (at + n) xs
read_front xs rest ys tail at n same within copied =
    let front : ys ≡ take n (drop at xs) = copied ∙ rw same (ap (take n) (take_rest xs at)) in
    let size : length ys ≡ n = ap length front ∙ length-take-le n (drop at xs) (simp length-drop within) in
    sym (
    ap (λ bs. bs ++ drop (at + n) xs) (take_at ys tail n size ∙ front)
    ∙ ap (λ bs. take n (drop at xs) ++ bs) (sym (drop-drop n at xs))
    ∙ take-append-drop n (drop at xs)
    )
