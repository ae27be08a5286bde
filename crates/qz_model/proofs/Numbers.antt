-- Names that end in a number name no other.
use Rattle.std.proofs.Common.{◌≡◌, ℕ, ◌<◌, ◌^◌, true, List, [], ◌∷◌, ◌++◌, sym, subst, ◌∙◌}
use Rattle.std.specs.Fmt.{decimal}
use Rattle.std.specs.Char.{is_ascii_digit}
use Rattle.std.specs.Str.{all_ascii_digits}
use Rattle.std.proofs.lemmas.Bool.{and_parts}
use Rattle.std.proofs.lemmas.Fmt.{digits_decimal, decimal_injective}
use Rattle.std.proofs.lemmas.Str.Parse.{numerals_by_value, tells_all_ascii_digits}
use Rattle.qz_model.specs.Invariant.{EndsIn}

decimal-digits : (n : ℕ) → n < 2 ^ 64 → all_ascii_digits (decimal n) ≡ true
decimal-digits n small = digits_decimal (numerals_by_value (λ ds. all_ascii_digits ds ≡ true) tells_all_ascii_digits) n small

-- an underscore is no digit
no_underscore : (front ds : List ℕ) → all_ascii_digits (front ++ 95 ∷ ds) ≡ true → ⊥
no_underscore [] ds digits = cc
no_underscore (x ∷ front) ds digits = no_underscore front ds (and_parts (is_ascii_digit x) (all_ascii_digits (front ++ 95 ∷ ds)) digits).1

-- what follows the last underscore
same_end : (f g a b : List ℕ) → all_ascii_digits a ≡ true → all_ascii_digits b ≡ true → f ++ 95 ∷ a ≡ g ++ 95 ∷ b → a ≡ b
same_end [] [] a b da db same = cc
same_end [] (y ∷ g) a b da db same = let rest : a ≡ g ++ 95 ∷ b = cc in absurd (no_underscore g b (subst (λ xs. all_ascii_digits xs ≡ true) rest da))
same_end (x ∷ f) [] a b da db same = let rest : f ++ 95 ∷ a ≡ b = cc in absurd (no_underscore f a (subst (λ xs. all_ascii_digits xs ≡ true) (sym rest) db))
same_end (x ∷ f) (y ∷ g) a b da db same = same_end f g a b da db (cc)

-- a name ends in one number at most
pub one_number : (name : List ℕ) (n m : ℕ) → n < 2 ^ 64 → m < 2 ^ 64 → EndsIn name n → EndsIn name m → n ≡ m
one_number name n m small also one other =
    decimal_injective n m small also (same_end one.0 other.0 (decimal n) (decimal m) (decimal-digits n small) (decimal-digits m also) (sym one.1 ∙ other.1))
