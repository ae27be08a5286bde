-- A printed set is in the grammar, as `*` too.
use Rattle.std.proofs.Common.{◌≡◌, ◌≢◌, ◌∙◌, ap, sym, refl, subst, ℕ, ◌+◌, ◌-◌, ◌*◌, ◌/◌, ◌%◌, ◌^◌, ◌<◌, ◌≤◌, Bool, true, false, arith, zero, suc, cond, List, [], ◌∷◌, ◌++◌, lit≤, inl, inr}
use Rattle.std.specs.Prelude.{◌==◌, ◌&&◌, nat_lt}
use Rattle.std.specs.Int.{bit_at}
use Rattle.std.proofs.lemmas.Nat.Bits.{bit_at-zero, bit_at-lt, bit_at_above, same_from_bits}
use Rattle.std.proofs.Math.Nat.{mod-eq_of_lt, add-mod_right}
use Rattle.qz_civil.specs.declared.fields.Field.{Field}
use Rattle.qz_civil.specs.Fields.{least, greatest, size, has_bit, has_word, is_set}
use Rattle.qz_cron_text.specs.declared.runs.Run.{Run}
use Rattle.qz_cron_text.specs.Runs.{all_by}
use Rattle.qz_cron_text.specs.Printing.{one_word, members, has_all, values_text, set_text}
use Rattle.qz_cron_text.specs.Grammar.{every, of_values, RunInRange, one_element, HasValue, SomeHas, IsSet}
use Rattle.qz_cron_text.proofs.FieldLemmas.{size_some}
use Rattle.qz_cron_text.proofs.PrintSets.{IsWordFrom, values_are_set}

-- bit by bit in a set of four words
word_at : (a b c d i : ℕ) → i < 64 → has_word (a ∷ b ∷ c ∷ d ∷ []) i ≡ has_bit a i
unfolding has_word
word_at a b c d i low =
    let e : i / 64 ≡ 0 = omega arith in
    let f : i % 64 ≡ i = omega arith in
    rw (e, f) refl

pub bit_has : (w i : ℕ) → bit_at w i ≡ 1 → has_bit w i ≡ true
unfolding has_bit
bit_has w i one = grind (arith, one)

pub bit_is_one : (w i : ℕ) → has_bit w i ≡ true → bit_at w i ≡ 1
unfolding has_bit
bit_is_one w i is = grind (arith, is)

-- a bit of a small word is a low one
pub low_bit : (w k i : ℕ) → w < 2 ^ k → bit_at w i ≡ 1 → i < k
low_bit w k i small one = by_place (nat_lt i k) refl
  where
    by_place : (b : Bool) → nat_lt i k ≡ b → i < k
    by_place true low = grind (arith, low)
    by_place false high =
        let none : bit_at w i ≡ 0 = bit_at_above w k i small (grind (arith, high)) in
        absurd (omega (arith, none, one))

set_small : (field : Field) (w : ℕ) → is_set field w ≡ true → (0 < w) × (w < 2 ^ size field)
unfolding is_set
set_small field w is = (grind (arith, is), grind (arith, is))

-- a set of up to 64 values, as the word that it is
one_word_from : (field : Field) (w : ℕ) → size field ≤ 64 → w < 2 ^ size field → IsWordFrom field (one_word w) 0 w
one_word_from field w few small = record { there = there; back = back }
  where
    there : (i : ℕ) → bit_at w i ≡ 1 → (i < 64) × (0 + i < size field) × (has_word (one_word w) (0 + i) ≡ true)
    there i one =
        let low : i < size field = low_bit w (size field) i small one in
        let e : 0 + i ≡ i = omega arith in
        (omega arith, omega arith, ap (λ (j : ℕ). has_word (one_word w) j) e ∙ word_at w 0 0 0 i (omega arith) ∙ bit_has w i one)

    back : (i : ℕ) → i < 64 → 0 + i < size field → has_word (one_word w) (0 + i) ≡ true → bit_at w i ≡ 1
    back i low within has =
        let e : 0 + i ≡ i = omega arith in
        bit_is_one w i (sym (word_at w 0 0 0 i low) ∙ sym (ap (λ (j : ℕ). has_word (one_word w) j) e) ∙ has)

-- a set without members has no number
pub no_member : (set : List ℕ) (n i : ℕ) → members set n ≡ [] → i < n → has_word set i ≡ false
unfolding members
no_member set zero i none less = absurd (omega arith)
no_member set (suc n) i none less = step (has_word set n) refl none (nat_lt i n) refl (no_member set n i)
  where
    pushed : (xs : List ℕ) → xs ++ n ∷ [] ≡ [] → ⊥
    pushed [] e = cc
    pushed (x ∷ xs) e = cc

    step : (b : Bool) → has_word set n ≡ b → cond b (members set n ++ n ∷ []) (members set n) ≡ [] → (t : Bool) → nat_lt i n ≡ t
        → (members set n ≡ [] → i < n → has_word set i ≡ false) → has_word set i ≡ false
    step true top e t place before = absurd (pushed (members set n) e)
    step false top e true low before = before e (grind (arith, low))
    step false top e false high before = let same : i ≡ n = grind (arith, high) in ap (λ (j : ℕ). has_word set j) same ∙ top

pub false_true : {A : Type 0} → false ≡ true → A
false_true e = absurd (clash e)
  where
    clash : false ≡ true → ⊥
    clash x = cc

pub both_true : (p q : Bool) → (p && q) ≡ true → (p ≡ true) × (q ≡ true)
both_true true true both = (refl, refl)
both_true true false both = false_true both
both_true false q both = false_true both

pub no_bits : (w : ℕ) → ((i : ℕ) → bit_at w i ≡ 1 → ⊥) → w ≡ 0
no_bits w none = same_from_bits w 0 (λ i. by_bit i (bit_at w i == 1) refl)
  where
    by_bit : (i : ℕ) (b : Bool) → (bit_at w i == 1) ≡ b → bit_at w i ≡ bit_at 0 i
    by_bit i true is = let one : bit_at w i ≡ 1 = grind (arith, is) in absurd (none i one)
    by_bit i false other = let zero_bit : bit_at 0 i ≡ 0 = bit_at-zero i in grind (arith, other, bit_at-lt w i, zero_bit)

-- a word that isn't 0 leaves members
pub word_members : (field : Field) (set : List ℕ) (from word : ℕ) → IsWordFrom field set from word → 0 < word → members set (size field) ≢ []
word_members field set from word is some none =
    let zero_word : word ≡ 0 = no_bits word (λ i one. false_true (sym (no_member set (size field) (from + i) none (is.there i one).1) ∙ (is.there i one).2)) in
    omega (arith, some, zero_word)

-- `*`: each value
pub all_in_range : (field : Field) → RunInRange field (all_by field 1)
unfolding greatest
all_in_range field =
    let some : 1 ≤ size field = size_some field in
    record { first = (omega arith, omega arith); last = (omega arith, omega arith); years = λ _. omega arith; step = (lit≤ tt, lit≤ tt) }

pub all_has : (field : Field) (i : ℕ) → i < size field → HasValue field (all_by field 1) (least field + i)
unfolding greatest
all_has field i less =
    let some : 1 ≤ size field = size_some field in
    let regroup : least field + size field - 1 + size field - least field ≡ (size field - 1) + size field = omega arith in
    let whole : (least field + size field - 1 + size field - least field) % size field ≡ size field - 1 =
    ap (λ (m : ℕ). m % size field) regroup ∙ add-mod_right (size field - 1) (size field) ∙ mod-eq_of_lt (omega arith) in
    let e : least field - least field + i * 1 ≡ i = omega arith in
    (i, omega (arith, whole), ap (λ (m : ℕ). least field + m) (sym (ap (λ (m : ℕ). m % size field) e ∙ mod-eq_of_lt less)))

pub has_low : (field : Field) (run : Run) (v : ℕ) → HasValue field run v → v < least field + size field
has_low field run v (k, within, at) =
    let some : 1 ≤ size field = size_some field in
    let low : (run.first - least field + k * run.step) % size field < size field = omega arith in
    omega (arith, at, low)

pub all_numbers : (set : List ℕ) (n i : ℕ) → has_all set n ≡ true → i < n → has_word set i ≡ true
unfolding has_all
all_numbers set zero i all less = absurd (omega arith)
all_numbers set (suc n) i all less = step (nat_lt i n) refl (all_numbers set n i both.0)
  where
    both : (has_all set n ≡ true) × (has_word set n ≡ true)
    both = both_true (has_all set n) (has_word set n) all

    step : (t : Bool) → nat_lt i n ≡ t → (i < n → has_word set i ≡ true) → has_word set i ≡ true
    step true low before = before (grind (arith, low))
    step false high before = let same : i ≡ n = grind (arith, high) in ap (λ (j : ℕ). has_word set j) same ∙ both.1

star_is_set : (field : Field) (set : List ℕ) (word : ℕ) → has_all set (size field) ≡ true → IsWordFrom field set 0 word → IsSet field 0 (42 ∷ []) word
star_is_set field set word all is =
    record { runs = all_by field 1 ∷ []; elements = one_element (record { is_form = of_values every; in_range = all_in_range field }); bits = λ i. (there i, back i) }
  where
    there : (i : ℕ) → bit_at word i ≡ 1 → (i < 64) × SomeHas field (all_by field 1 ∷ []) (least field + 0 + i)
    there i one =
        let at : (i < 64) × (0 + i < size field) × (has_word set (0 + i) ≡ true) = is.there i one in
        let e : least field + i ≡ least field + 0 + i = omega arith in
        (at.0, inl (subst (λ (v : ℕ). HasValue field (all_by field 1) v) e (all_has field i (omega (arith, at.1)))))

    by_run : (i : ℕ) → i < 64 → SomeHas field (all_by field 1 ∷ []) (least field + 0 + i) → bit_at word i ≡ 1
    by_run i low (inl has) =
        let less : least field + 0 + i < least field + size field = has_low field (all_by field 1) (least field + 0 + i) has in
        is.back i low (omega (arith, less)) (all_numbers set (size field) (0 + i) all (omega (arith, less)))
    by_run i low (inr none) = absurd none

    back : (i : ℕ) → (i < 64) × SomeHas field (all_by field 1 ∷ []) (least field + 0 + i) → bit_at word i ≡ 1
    back i at = by_run i at.0 at.1

-- a printed set
pub set_is : (field : Field) (w : ℕ) → size field ≤ 64 → is_set field w ≡ true → IsSet field 0 (set_text field (one_word w)) w
unfolding set_text
set_is field w few valid = by_all (has_all (one_word w) (size field)) refl
  where
    small : (0 < w) × (w < 2 ^ size field)
    small = set_small field w valid

    from : IsWordFrom field (one_word w) 0 w
    from = one_word_from field w few small.1

    by_all : (b : Bool) → has_all (one_word w) (size field) ≡ b → IsSet field 0 (cond b (42 ∷ []) (values_text field (one_word w) (size field))) w
    by_all true all = star_is_set field (one_word w) w all from
    by_all false other = values_are_set field (one_word w) 0 w (word_members field (one_word w) 0 w from small.0) from
