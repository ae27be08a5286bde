-- The years of a text: four words, bit by bit.
use Rattle.std.proofs.Common.{◌≡◌, ◌∙◌, sym, refl, subst, ℕ, ◌+◌, ◌-◌, ◌/◌, ◌%◌, ◌^◌, ◌<◌, ◌≤◌, Bool, true, false, arith, List, [], ◌∷◌, length, map, lit<}
use Rattle.std.specs.Prelude.{◌↔◌, nat_lt, bit_or}
use Rattle.std.specs.List.{AllByRecursion}
use Rattle.std.specs.Int.{bit_at}
use Rattle.std.proofs.lemmas.Nat.{or_lt}
use Rattle.qz_civil.specs.declared.fields.Field.{Field}
use Rattle.qz_civil.specs.declared.fields.Field.TheVariants.{Year}
use Rattle.qz_civil.specs.Fields.{least, has_bit, has_word}
use Rattle.qz_cron_text.specs.declared.runs.Run.{Run}
use Rattle.qz_cron_text.specs.declared.forms.Form.TheVariants.{Values}
use Rattle.qz_cron_text.specs.Sets.{word_of}
use Rattle.qz_cron_text.specs.Runs.{has_value}
use Rattle.qz_cron_text.specs.Grammar.{AreElements, SomeHas, HasBits, IsSet, AreYears}
use Rattle.qz_cron_text.proofs.SetLemmas.{set_of-lt}
use Rattle.qz_cron_text.proofs.FieldLaws.{words_of, set_word}
use Rattle.qz_cron_text.proofs.PrintStars.{low_bit, bit_has, bit_is_one}

-- A word of a set has 64 bits.

word_fits : (field : Field) (run : Run) (from : ℕ) → word_of field run from < 2 ^ 64
unfolding word_of
word_fits field run from = set_of-lt (λ i. has_value field run (from + i)) 64

words_fit : (field : Field) (from word : ℕ) (runs : List Run) → word < 2 ^ 64 → words_of field from word runs < 2 ^ 64
words_fit field from word [] small = small
words_fit field from word (run ∷ runs) small =
    words_fit field from (bit_or word (word_of field run from)) runs (or_lt 64 word (word_of field run from) small (word_fits field run from))

pub set_fits : (field : Field) (from : ℕ) (text : List ℕ) (word : ℕ) → IsSet field from text word → word < 2 ^ 64
set_fits field from text word is = subst (λ (w : ℕ). w < 2 ^ 64) (set_word field from text word is) (words_fit field from 0 is.runs (lit< tt))

-- The bits of four words.

abbrev pub four_words : ℕ → ℕ → ℕ → ℕ → List ℕ
four_words a b c d = a ∷ b ∷ c ∷ d ∷ []

-- number `from + i` of the words is bit i of this one
abbrev pub IsWordAt : List ℕ → ℕ → ℕ → Type 0
IsWordAt years from word = (i : ℕ) → i < 64 → has_word years (from + i) ≡ has_bit word i

pub word_first : (a b c d : ℕ) → IsWordAt (four_words a b c d) 0 a
unfolding has_word
word_first a b c d i low =
    let e : (0 + i) / 64 ≡ 0 = omega arith in
    let f : (0 + i) % 64 ≡ i = omega arith in
    rw (e, f) refl

pub word_second : (a b c d : ℕ) → IsWordAt (four_words a b c d) 64 b
unfolding has_word
word_second a b c d i low =
    let e : (64 + i) / 64 ≡ 1 = omega arith in
    let f : (64 + i) % 64 ≡ i = omega arith in
    rw (e, f) refl

pub word_third : (a b c d : ℕ) → IsWordAt (four_words a b c d) 128 c
unfolding has_word
word_third a b c d i low =
    let e : (128 + i) / 64 ≡ 2 = omega arith in
    let f : (128 + i) % 64 ≡ i = omega arith in
    rw (e, f) refl

pub word_fourth : (a b c d : ℕ) → IsWordAt (four_words a b c d) 192 d
unfolding has_word
word_fourth a b c d i low =
    let e : (192 + i) / 64 ≡ 3 = omega arith in
    let f : (192 + i) % 64 ≡ i = omega arith in
    rw (e, f) refl

-- the years' bits are those of some run
abbrev pub HasYears : List Run → List ℕ → Type 0
HasYears runs years = (i : ℕ) → i < 256 → (has_word years i ≡ true) ↔ SomeHas Year runs (1970 + i)

-- from bits of all words to those of one
word_bits : (runs : List Run) (years : List ℕ) (from word : ℕ) → HasYears runs years → IsWordAt years from word → word < 2 ^ 64 → from ≤ 192 → HasBits Year from runs word
unfolding least
word_bits runs years from word bits at small within i = (there, back)
  where
    same : i < 64 → 1970 + (from + i) ≡ 1970 + from + i
    same low = omega arith

    there : bit_at word i ≡ 1 → (i < 64) × SomeHas Year runs (1970 + from + i)
    there one =
        let low : i < 64 = low_bit word 64 i small one in
        (low, subst (λ (v : ℕ). SomeHas Year runs v) (same low) ((bits (from + i) (omega arith)).0 (at i low ∙ bit_has word i one)))

    back : (i < 64) × SomeHas Year runs (1970 + from + i) → bit_at word i ≡ 1
    back has = bit_is_one word i (sym (at i has.0) ∙ (bits (from + i) (omega (arith, has.0))).1 (subst (λ (v : ℕ). SomeHas Year runs v) (sym (same has.0)) has.1))

-- and back
bit_of_word : (runs : List Run) (years : List ℕ) (from word i : ℕ) → HasBits Year from runs word → IsWordAt years from word → i < 64
    → (has_word years (from + i) ≡ true) ↔ SomeHas Year runs (1970 + (from + i))
unfolding least
bit_of_word runs years from word i bits at low = (there, back)
  where
    same : 1970 + from + i ≡ 1970 + (from + i)
    same = omega arith

    there : has_word years (from + i) ≡ true → SomeHas Year runs (1970 + (from + i))
    there has = subst (λ (v : ℕ). SomeHas Year runs v) same ((bits i).0 (bit_is_one word i (sym (at i low) ∙ has))).1

    back : SomeHas Year runs (1970 + (from + i)) → has_word years (from + i) ≡ true
    back has = at i low ∙ bit_has word i ((bits i).1 (low, subst (λ (v : ℕ). SomeHas Year runs v) (sym same) has))

-- the four words of a list of years
pub record YearWords (text years : List ℕ) : Type 0 where
  pub first : ℕ
  pub second : ℕ
  pub third : ℕ
  pub fourth : ℕ
  pub is : years ≡ four_words first second third fourth
  pub runs : List Run
  pub elements : AreElements Year text (map (λ run. Values run) runs)
  pub first_bits : HasBits Year 0 runs first
  pub second_bits : HasBits Year 64 runs second
  pub third_bits : HasBits Year 128 runs third
  pub fourth_bits : HasBits Year 192 runs fourth

pub year_words : (text years : List ℕ) → AreYears text years → YearWords text years
year_words text years are = by_words years are.four are.words are.bits
  where
    by_words : (ws : List ℕ) → length ws ≡ 4 → AllByRecursion (λ w. w < 2 ^ 64) ws → HasYears are.runs ws → YearWords text ws
    by_words [] four small bits = absurd (omega (arith, four))
    by_words (a ∷ []) four small bits = absurd (omega (arith, four))
    by_words (a ∷ b ∷ []) four small bits = absurd (omega (arith, four))
    by_words (a ∷ b ∷ c ∷ []) four small bits = absurd (omega (arith, four))
    by_words (a ∷ b ∷ c ∷ d ∷ []) four small bits = record {
      first = a;
      second = b;
      third = c;
      fourth = d;
      is = refl;
      runs = are.runs;
      elements = are.elements;
      first_bits = word_bits are.runs (four_words a b c d) 0 a bits (word_first a b c d) small.0 (omega arith);
      second_bits = word_bits are.runs (four_words a b c d) 64 b bits (word_second a b c d) small.1.0 (omega arith);
      third_bits = word_bits are.runs (four_words a b c d) 128 c bits (word_third a b c d) small.1.1.0 (omega arith);
      fourth_bits = word_bits are.runs (four_words a b c d) 192 d bits (word_fourth a b c d) small.1.1.1.0 (omega arith);
    }
    by_words (a ∷ b ∷ c ∷ d ∷ e ∷ more) four small bits = absurd (omega (arith, four))

-- a word of them is a set of its own
pub one_set : (text years : List ℕ) (words : YearWords text years) (from word : ℕ) → HasBits Year from words.runs word → IsSet Year from text word
one_set text years words from word bits = record { runs = words.runs; elements = words.elements; bits = bits }

-- four words of the same runs
pub years_of_words : (text : List ℕ) (runs : List Run) (a b c d : ℕ) → AreElements Year text (map (λ run. Values run) runs)
    → HasBits Year 0 runs a → HasBits Year 64 runs b → HasBits Year 128 runs c → HasBits Year 192 runs d → AreYears text (four_words a b c d)
years_of_words text runs a b c d elements first second third fourth = record {
  runs = runs;
  elements = elements;
  four = refl;
  words = (fits 0 a first, (fits 64 b second, (fits 128 c third, (fits 192 d fourth, tt))));
  bits = bits;
}
  where
    fits : (from word : ℕ) → HasBits Year from runs word → word < 2 ^ 64
    fits from word bits' = set_fits Year from text word (record { runs = runs; elements = elements; bits = bits' })

    at : (from word i : ℕ) → HasBits Year from runs word → IsWordAt (four_words a b c d) from word → from ≤ i → i - from < 64
        → (has_word (four_words a b c d) i ≡ true) ↔ SomeHas Year runs (1970 + i)
    at from word i has word_at le low =
        let same : from + (i - from) ≡ i = omega arith in
        subst (λ (n : ℕ). (has_word (four_words a b c d) n ≡ true) ↔ SomeHas Year runs (1970 + n)) same (bit_of_word runs (four_words a b c d) from word (i - from) has word_at low)

    by_place : (i : ℕ) (x y z : Bool) → i < 256 → nat_lt i 64 ≡ x → nat_lt i 128 ≡ y → nat_lt i 192 ≡ z → (has_word (four_words a b c d) i ≡ true) ↔ SomeHas Year runs (1970 + i)
    by_place i true y z less in_first in_second in_third = at 0 a i first (word_first a b c d) (omega arith) (grind (arith, in_first))
    by_place i false true z less past_first in_second in_third = at 64 b i second (word_second a b c d) (grind (arith, past_first)) (grind (arith, past_first, in_second))
    by_place i false false true less past_first past_second in_third = at 128 c i third (word_third a b c d) (grind (arith, past_second)) (grind (arith, past_second, in_third))
    by_place i false false false less past_first past_second past_third = at 192 d i fourth (word_fourth a b c d) (grind (arith, past_third)) (grind (arith, past_third, less))

    bits : (i : ℕ) → i < 256 → (has_word (four_words a b c d) i ≡ true) ↔ SomeHas Year runs (1970 + i)
    bits i less = by_place i (nat_lt i 64) (nat_lt i 128) (nat_lt i 192) less refl refl refl
