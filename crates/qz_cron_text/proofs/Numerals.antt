-- Numerals: reading them agrees with what they are.
use Rattle.std.proofs.Common.{◌≡◌, ◌∙◌, ap, sym, refl, ℕ, ◌+◌, ◌-◌, ◌*◌, ◌^◌, ◌≤◌, true, false, arith, List, [], ◌∷◌, ◌++◌, length}
use Rattle.std.specs.Prelude.{Some, None}
use Rattle.std.specs.Str.{all_ascii_digits}
use Rattle.std.specs.Char.{is_ascii_digit}
use Rattle.std.proofs.Math.Nat.{pow-suc}
use Rattle.qz_cron_text.specs.Values.{decimal, number_of}
use Rattle.qz_cron_text.specs.Grammar.{IsNumeral, digits_sum}
use Rattle.qz_cron_text.proofs.Free.{IsPlain}

scaled : (n x p w : ℕ) → (n * 10 + x) * p + w ≡ n * (p * 10) + (x * p + w)
scaled n x p w = grind arith

decimal-digits : (n : ℕ) (ds : List ℕ) → all_ascii_digits ds ≡ true → decimal n ds ≡ Some (n * 10 ^ length ds + digits_sum ds)
decimal-digits n [] digits = ap (λ (m : ℕ). Some m) (grind arith)
decimal-digits n (d ∷ ds) digits =
    let first : is_ascii_digit d ≡ true = grind (arith, digits) in
    let others : all_ascii_digits ds ≡ true = grind (arith, digits) in
    rw first (decimal-digits (n * 10 + (d - 48)) ds others ∙ ap (λ (m : ℕ). Some m) (scaled n (d - 48) (10 ^ length ds) (digits_sum ds) ∙ sym (ap (λ (p : ℕ). n * p + ((d - 48) * 10 ^ length ds + digits_sum ds)) (pow-suc 10 (length ds)))))

digits_from_decimal : (n m : ℕ) (ds : List ℕ) → decimal n ds ≡ Some m → all_ascii_digits ds ≡ true
digits_from_decimal n m [] is = refl
digits_from_decimal n m (d ∷ ds) is = grind (arith, is, digits_from_decimal (n * 10 + (d - 48)) m ds)

sum_read : (ds : List ℕ) → all_ascii_digits ds ≡ true → decimal 0 ds ≡ Some (digits_sum ds)
sum_read ds digits = decimal-digits 0 ds digits ∙ ap (λ (m : ℕ). Some m) (grind arith)

pub numeral_read : (text : List ℕ) (n : ℕ) → IsNumeral text n → number_of text ≡ Some n
unfolding number_of
numeral_read text n is = grind (arith, sum_read text is.digits, is.some, is.few, is.value)

pub number_is : (text : List ℕ) (n : ℕ) → number_of text ≡ Some n → IsNumeral text n
unfolding number_of
number_is text n is =
    let some : 1 ≤ length text = grind (arith, is) in
    let few : length text ≤ 4 = grind (arith, is) in
    let read : decimal 0 text ≡ Some n = grind (arith, is) in
    let digits : all_ascii_digits text ≡ true = digits_from_decimal 0 n text read in
    record { some = some; few = few; digits = digits; value = same_number (sym (sum_read text digits) ∙ read) }
  where
    same_number : {a b : ℕ} → Some a ≡ Some b → a ≡ b
    same_number e = cc

-- a text with another byte than a digit is no numeral
decimal_none : (n : ℕ) (xs : List ℕ) (b : ℕ) (ys : List ℕ) → is_ascii_digit b ≡ false → decimal n (xs ++ b ∷ ys) ≡ None
decimal_none n [] b ys other = rw other refl
decimal_none n (x ∷ xs) b ys other = grind (arith, decimal_none (n * 10 + (x - 48)) xs b ys other)

pub number_none : (xs : List ℕ) (b : ℕ) (ys : List ℕ) → is_ascii_digit b ≡ false → number_of (xs ++ b ∷ ys) ≡ None
unfolding number_of
number_none xs b ys other = grind (arith, decimal_none 0 xs b ys other)

digits_plain : (ds : List ℕ) → all_ascii_digits ds ≡ true → IsPlain ds
digits_plain [] digits = tt
digits_plain (d ∷ ds) digits = (grind (arith, digits), digits_plain ds (grind (arith, digits)))

pub numeral_plain : (text : List ℕ) (n : ℕ) → IsNumeral text n → IsPlain text
numeral_plain text n is = digits_plain text is.digits

pub numeral_some : (text : List ℕ) (n : ℕ) → IsNumeral text n → 1 ≤ length text
numeral_some text n is = is.some
