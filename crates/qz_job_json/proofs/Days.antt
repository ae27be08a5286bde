-- Sets of numbers as bits.
use Rattle.std.proofs.Common.{◌≡◌, ◌∙◌, refl, sym, ap, ℕ, ◌+◌, ◌-◌, ◌*◌, ◌^◌, ◌%◌, ◌<◌, ◌≤◌, max, List, [], ◌∷◌, Bool, true, false, Option, Some, None, arith}
use Rattle.std.specs.Prelude.{◌||◌, ◌&&◌, ◌==◌, nat_lt, bit_or, option_map}
use Rattle.std.specs.Int.{bit_at}
use Rattle.std.specs.Int.Bits.{or_zero_l, or_zero_r}
use Rattle.std.proofs.lemmas.Nat.{or_lt}
use Rattle.std.proofs.lemmas.Nat.Bits.{same_from_bits, bit_at_or, bit_at-pow_same, bit_at-pow_other}
use Rattle.std.proofs.Math.Nat.{mod-eq_of_lt}
use Rattle.std.proofs.Math.Pow.{pow-lt}
use Rattle.qz_cron_text.proofs.HasLaws.{bit_of, set_of-bit}
use Rattle.qz_job_json.specs.Clocks.{set_of_numbers}

or_assoc : (a b c : ℕ) → bit_or (bit_or a b) c ≡ bit_or a (bit_or b c)
or_assoc a b c = same_from_bits _ _ (λ i. rw (bit_at_or (bit_or a b) c i, bit_at_or a b i, bit_at_or a (bit_or b c) i, bit_at_or b c i) (omega arith))

-- bit i of the set, where a number is added
bit_more : (last n i : ℕ) (rest : Bool) → 1 ≤ n → n ≤ last → bit_of (nat_lt i last && ((n == i + 1) || rest)) ≡ max (bit_at (2 ^ (n - 1)) i) (bit_of (nat_lt i last && rest))
bit_more last n i rest low high = by_number (n == i + 1) refl
  where
    here : (b : Bool) → 1 ≡ max 1 (bit_of b)
    here true = refl
    here false = refl

    by_number : (b : Bool) → (n == i + 1) ≡ b → bit_of (nat_lt i last && (b || rest)) ≡ max (bit_at (2 ^ (n - 1)) i) (bit_of (nat_lt i last && rest))
    by_number true is =
        let e : n - 1 ≡ i = grind (arith, is) in
        let within : nat_lt i last ≡ true = grind (arith, is, low, high) in
        rw (e, within, bit_at-pow_same i) (here rest)
    by_number false is = rw (bit_at-pow_other (n - 1) i (λ same. grind (arith, is, same, low))) (omega arith)

numbers_more : (last n : ℕ) (ns : List ℕ) → 1 ≤ n → n ≤ last → set_of_numbers last (n ∷ ns) ≡ bit_or (2 ^ (n - 1)) (set_of_numbers last ns)
numbers_more last n ns low high =
    same_from_bits _ _ (λ i. set_of-bit _ last i ∙ bit_more last n i _ low high ∙ sym (bit_at_or (2 ^ (n - 1)) (set_of_numbers last ns) i ∙ ap (max (bit_at (2 ^ (n - 1)) i)) (set_of-bit _ last i)))

bit_small : (last n : ℕ) → 1 ≤ n → n ≤ last → 2 ^ (n - 1) < 2 ^ last
bit_small last n low high = pow-lt {i = n - 1} {j = last} (omega (arith, low, high))

-- the bit that the code computes
shifted : (last n : ℕ) → 1 ≤ n → n ≤ last → last ≤ 31 → 1 * 2 ^ (n - 1) % 2 ^ 32 ≡ 2 ^ (n - 1)
shifted last n low high most = mod-eq_of_lt {m = 2 ^ 32} (omega (arith, bit_small 32 n low (omega (arith, high, most)))) ∙ omega arith

-- a list whose first number is added to a set
pub with_number : (last set n : ℕ) (rest : Option (List ℕ)) → 1 ≤ n → n ≤ last → last ≤ 31
    → option_map (λ ns. bit_or set (set_of_numbers last ns)) (option_map (λ ns. n ∷ ns) rest) ≡ option_map (λ ns. bit_or (bit_or set (1 * 2 ^ (n - 1) % 2 ^ 32)) (set_of_numbers last ns)) rest
with_number last set n None low high most = refl
with_number last set n (Some ns) low high most =
    ap Some (ap (bit_or set) (numbers_more last n ns low high) ∙ sym (or_assoc set (2 ^ (n - 1)) (set_of_numbers last ns)) ∙ ap (λ bit. bit_or (bit_or set bit) (set_of_numbers last ns)) (sym (shifted last n low high most)))

pub number_small : (last set n : ℕ) → 1 ≤ n → n ≤ last → last ≤ 31 → set < 2 ^ last → bit_or set (1 * 2 ^ (n - 1) % 2 ^ 32) < 2 ^ last
number_small last set n low high most small = rw (shifted last n low high most) (or_lt last set (2 ^ (n - 1)) small (bit_small last n low high))

no_bits : (last : ℕ) → set_of_numbers last [] ≡ 0
no_bits last = same_from_bits _ _ (λ i. set_of-bit _ last i ∙ none (nat_lt i last) ∙ sym (zero i))
  where
    none : (b : Bool) → bit_of (b && false) ≡ 0
    none true = refl
    none false = refl

    zero : (i : ℕ) → bit_at 0 i ≡ 0
    zero i = grind arith

pub with_none : (last : ℕ) (rest : Option (List ℕ)) → option_map (λ ns. bit_or 0 (set_of_numbers last ns)) rest ≡ option_map (set_of_numbers last) rest
with_none last None = refl
with_none last (Some ns) = ap Some (or_zero_l (set_of_numbers last ns))

pub all_set : (last set : ℕ) → bit_or set (set_of_numbers last []) ≡ set
all_set last set = ap (bit_or set) (no_bits last) ∙ or_zero_r set
