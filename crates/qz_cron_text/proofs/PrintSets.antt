-- Printed sets are in the grammar.
use Rattle.std.proofs.Common.{◌≡◌, ◌≢◌, ◌∙◌, ap, sym, refl, subst, ℕ, ◌+◌, ◌-◌, ◌*◌, ◌/◌, ◌%◌, ◌^◌, ◌<◌, ◌≤◌, Bool, true, false, arith, zero, suc, cond, List, [], ◌∷◌, ◌++◌, length, map, lit<, lit≤, inl, inr}
use Rattle.std.specs.Prelude.{nat_lt, ◌⊎◌}
use Rattle.std.specs.Fmt.{decimal as printed}
use Rattle.std.specs.Str.{all_ascii_digits}
use Rattle.std.specs.Char.{is_ascii_digit}
use Rattle.std.specs.Int.{bit_at}
use Rattle.std.specs.List.{AllByRecursion, join_with_byte}
use Rattle.std.proofs.lemmas.Fmt.{decimal_by_steps, decimal_nonempty, length-decimal-le}
use Rattle.std.proofs.Math.Nat.{pow-suc, mod-eq_of_lt, mod_self}
use Rattle.qz_civil.specs.declared.fields.Field.{Field}
use Rattle.qz_civil.specs.Fields.{least, greatest, size, has_word}
use Rattle.qz_cron_text.specs.declared.runs.Run.{Run}
use Rattle.qz_cron_text.specs.declared.forms.Form.TheVariants.{Values}
use Rattle.qz_cron_text.specs.Printing.{members, values_text}
use Rattle.qz_cron_text.specs.Grammar.{digits_sum, IsNumeral, numeral, single, of_values, RunInRange, IsElement, AreElements, one_element, more_elements, span, HasValue, SomeHas, HasBits, IsSet}
use Rattle.qz_cron_text.proofs.FieldLemmas.{values_most}

-- a digit at the end
length_push : (ds : List ℕ) (d : ℕ) → length (ds ++ d ∷ []) ≡ suc (length ds)
length_push [] d = refl
length_push (x ∷ ds) d = grind (arith, length_push ds d)

regroup_digits : (x p w y : ℕ) → x * (p * 10) + (w * 10 + y) ≡ (x * p + w) * 10 + y
regroup_digits x p w y = grind arith

digits_sum-push : (ds : List ℕ) (d : ℕ) → digits_sum (ds ++ d ∷ []) ≡ digits_sum ds * 10 + (d - 48)
digits_sum-push [] d = grind arith
digits_sum-push (x ∷ ds) d =
    rw (length_push ds d, pow-suc 10 (length ds), digits_sum-push ds d) (regroup_digits (x - 48) (10 ^ length ds) (digits_sum ds) (d - 48))

digits_push : (ds : List ℕ) (d : ℕ) → all_ascii_digits ds ≡ true → is_ascii_digit d ≡ true → all_ascii_digits (ds ++ d ∷ []) ≡ true
digits_push [] d all is = rw is refl
digits_push (x ∷ ds) d all is = grind (arith, all, digits_push ds d, is)

record AreDigitsOf (n : ℕ) (text : List ℕ) : Type 0 where
  digits : all_ascii_digits text ≡ true
  value : digits_sum text ≡ n

digit_is : (n : ℕ) → n < 10 → is_ascii_digit (48 + n) ≡ true
digit_is n small = grind arith

one_digit : (n : ℕ) → n < 10 → AreDigitsOf n ((48 + n) ∷ [])
one_digit n small = record { digits = rw (digit_is n small) refl; value = grind arith }

more_digits : (n : ℕ) (ds : List ℕ) → 10 ≤ n → AreDigitsOf (n / 10) ds → AreDigitsOf n (ds ++ ((48 + n % 10) ∷ []))
more_digits n ds big is =
    record { digits = digits_push ds (48 + n % 10) is.digits (digit_is (n % 10) (omega arith)); value = digits_sum-push ds (48 + n % 10) ∙ omega (arith, is.value) }

printed_digits : (n : ℕ) → n < 2 ^ 64 → AreDigitsOf n (printed n)
printed_digits = decimal_by_steps (λ n text. AreDigitsOf n text) one_digit more_digits

-- a number below 10000 is printed as its numeral
pub printed_numeral : (n : ℕ) → n < 10000 → IsNumeral (printed n) n
printed_numeral n small =
    let fits : n < 2 ^ 64 = omega arith in
    let is : AreDigitsOf n (printed n) = printed_digits n fits in
    record { some = decimal_nonempty n fits; few = length-decimal-le 4 n (lit< tt) small fits; digits = is.digits; value = is.value }

-- the run of one value
abbrev pub only : Field → ℕ → Run
only field i = record { first = least field + i; last = least field + i; step = 1 }

only_in_range : (field : Field) (i : ℕ) → i < size field → RunInRange field (only field i)
unfolding greatest
only_in_range field i less =
    record { first = (omega arith, omega arith); last = (omega arith, omega arith); years = λ _. omega arith; step = (lit≤ tt, lit≤ tt) }

pub value_element : (field : Field) (i : ℕ) → i < size field → IsElement field (printed (least field + i)) (Values (only field i))
value_element field i less =
    record { is_form = of_values (single (numeral (printed_numeral (least field + i) (omega (arith, values_most field))))); in_range = only_in_range field i less }

abbrev pub AreBelow : ℕ → List ℕ → Type 0
AreBelow n is = AllByRecursion (λ i. i < n) is

-- the values of some numbers, with commas
pub values_elements : (field : Field) (i : ℕ) (is : List ℕ) → AreBelow (size field) (i ∷ is)
    → AreElements field (join_with_byte 44 (map (λ j. printed (least field + j)) (i ∷ is))) (map (λ run. Values run) (map (only field) (i ∷ is)))
values_elements field i [] below = one_element (value_element field i below.0)
values_elements field i (j ∷ is) below = more_elements (value_element field i below.0) (values_elements field j is below.1)

below_push : (n i : ℕ) (is : List ℕ) → AreBelow n is → i < n → AreBelow n (is ++ i ∷ [])
below_push n i [] all less = (less, tt)
below_push n i (j ∷ is) all less = (all.0, below_push n i is all.1 less)

members_below : (set : List ℕ) (n k : ℕ) → n ≤ k → AreBelow k (members set n)
unfolding members
members_below set zero k less = tt
members_below set (suc n) k less = step (has_word set n) (members_below set n k (omega arith))
  where
    step : (b : Bool) → AreBelow k (members set n) → AreBelow k (cond b (members set n ++ n ∷ []) (members set n))
    step true all = below_push k n (members set n) all (omega arith)
    step false all = all

-- a run of one value has it, and no other
only_has : (field : Field) (i : ℕ) → i < size field → HasValue field (only field i) (least field + i)
only_has field i less =
    let e : least field + i - least field + 0 * 1 ≡ i = omega arith in
    (0, omega arith, ap (λ (m : ℕ). least field + m) (sym (ap (λ (m : ℕ). m % size field) e ∙ mod-eq_of_lt less)))

has_only : (field : Field) (i v : ℕ) → i < size field → HasValue field (only field i) v → v ≡ least field + i
has_only field i v less (k, within, at) =
    let whole : least field + i + size field - (least field + i) ≡ size field = omega arith in
    let none : span field (only field i) ≡ 0 = ap (λ (m : ℕ). m % size field) whole ∙ mod_self (size field) in
    let k_none : k * 1 ≡ 0 = omega (arith, within, none) in
    let e : least field + i - least field + k * 1 ≡ i = omega (arith, k_none) in
    at ∙ ap (λ (m : ℕ). least field + m) (ap (λ (m : ℕ). m % size field) e ∙ mod-eq_of_lt less)

some_push : (field : Field) (i v : ℕ) (is : List ℕ) → HasValue field (only field i) v → SomeHas field (map (only field) (is ++ i ∷ [])) v
some_push field i v [] has = inl has
some_push field i v (j ∷ is) has = inr (some_push field i v is has)

some_stays : (field : Field) (i v : ℕ) (is : List ℕ) → SomeHas field (map (only field) is) v → SomeHas field (map (only field) (is ++ i ∷ [])) v
some_stays field i v [] has = absurd has
some_stays field i v (j ∷ is) (inl has) = inl has
some_stays field i v (j ∷ is) (inr has) = inr (some_stays field i v is has)

some_of_push : (field : Field) (i v : ℕ) (is : List ℕ) → SomeHas field (map (only field) (is ++ i ∷ [])) v
    → SomeHas field (map (only field) is) v ⊎ HasValue field (only field i) v
some_of_push field i v [] (inl has) = inr has
some_of_push field i v [] (inr none) = absurd none
some_of_push field i v (j ∷ is) (inl has) = inl (inl has)
some_of_push field i v (j ∷ is) (inr has) = deeper (some_of_push field i v is has)
  where
    deeper : (SomeHas field (map (only field) is) v ⊎ HasValue field (only field i) v) → SomeHas field (map (only field) (j ∷ is)) v ⊎ HasValue field (only field i) v
    deeper (inl x) = inl (inr x)
    deeper (inr x) = inr x

-- the set's numbers are those of its members
pub member_has : (field : Field) (set : List ℕ) (n i : ℕ) → n ≤ size field → i < n → has_word set i ≡ true → SomeHas field (map (only field) (members set n)) (least field + i)
unfolding members
member_has field set zero i within less has = absurd (omega arith)
member_has field set (suc n) i within less has = step (has_word set n) refl (nat_lt i n) refl (member_has field set n i (omega arith))
  where
    step : (b : Bool) → has_word set n ≡ b → (t : Bool) → nat_lt i n ≡ t
        → (i < n → has_word set i ≡ true → SomeHas field (map (only field) (members set n)) (least field + i))
        → SomeHas field (map (only field) (cond b (members set n ++ n ∷ []) (members set n))) (least field + i)
    step true top true low before = some_stays field n (least field + i) (members set n) (before (grind (arith, low)) has)
    step false top true low before = before (grind (arith, low)) has
    step true top false high before =
        let same : i ≡ n = grind (arith, high) in
        some_push field n (least field + i) (members set n) (subst (λ (m : ℕ). HasValue field (only field n) (least field + m)) (sym same) (only_has field n (omega arith)))
    step false top false high before =
        let same : i ≡ n = grind (arith, high) in
        absurd (clash (sym has ∙ ap (λ (m : ℕ). has_word set m) same ∙ top))
      where
        clash : true ≡ false → ⊥
        clash e = cc

pub has_member : (field : Field) (set : List ℕ) (n v : ℕ) → n ≤ size field → SomeHas field (map (only field) (members set n)) v
    → (i : ℕ) × (i < n) × (v ≡ least field + i) × (has_word set i ≡ true)
unfolding members
has_member field set zero v within has = absurd has
has_member field set (suc n) v within has = step (has_word set n) refl has (has_member field set n v (omega arith))
  where
    by_part : has_word set n ≡ true → (SomeHas field (map (only field) (members set n)) v ⊎ HasValue field (only field n) v)
        → (SomeHas field (map (only field) (members set n)) v → (i : ℕ) × (i < n) × (v ≡ least field + i) × (has_word set i ≡ true))
        → (i : ℕ) × (i < suc n) × (v ≡ least field + i) × (has_word set i ≡ true)
    by_part top (inl x) before = let found : (i : ℕ) × (i < n) × (v ≡ least field + i) × (has_word set i ≡ true) = before x in (found.0, omega (arith, found.1), found.2, found.3)
    by_part top (inr x) before = (n, omega arith, has_only field n v (omega arith) x, top)

    step : (b : Bool) → has_word set n ≡ b → SomeHas field (map (only field) (cond b (members set n ++ n ∷ []) (members set n))) v
        → (SomeHas field (map (only field) (members set n)) v → (i : ℕ) × (i < n) × (v ≡ least field + i) × (has_word set i ≡ true))
        → (i : ℕ) × (i < suc n) × (v ≡ least field + i) × (has_word set i ≡ true)
    step true top x before = by_part top (some_of_push field n v (members set n) x) before
    step false top x before = let found : (i : ℕ) × (i < n) × (v ≡ least field + i) × (has_word set i ≡ true) = before x in (found.0, omega (arith, found.1), found.2, found.3)

-- a word that has the set's numbers from `from` on
pub record IsWordFrom (field : Field) (set : List ℕ) (from word : ℕ) : Type 0 where
  pub there : (i : ℕ) → bit_at word i ≡ 1 → (i < 64) × (from + i < size field) × (has_word set (from + i) ≡ true)
  pub back : (i : ℕ) → i < 64 → from + i < size field → has_word set (from + i) ≡ true → bit_at word i ≡ 1

-- the runs of a printed list
abbrev pub member_runs : Field → List ℕ → List Run
member_runs field set = map (only field) (members set (size field))

pub members_elements : (field : Field) (set : List ℕ) → members set (size field) ≢ []
    → AreElements field (values_text field set (size field)) (map (λ run. Values run) (member_runs field set))
unfolding values_text
members_elements field set some = by_members (members set (size field)) refl (members_below set (size field) (size field) (omega arith))
  where
    by_members : (ms : List ℕ) → members set (size field) ≡ ms → AreBelow (size field) ms
        → AreElements field (join_with_byte 44 (map (λ j. printed (least field + j)) ms)) (map (λ run. Values run) (map (only field) ms))
    by_members [] none below = absurd (some none)
    by_members (m ∷ ms) same below = values_elements field m ms below

pub members_bits : (field : Field) (set : List ℕ) (from word : ℕ) → IsWordFrom field set from word → HasBits field from (member_runs field set) word
members_bits field set from word is i = (there, back)
  where
    there : bit_at word i ≡ 1 → (i < 64) × SomeHas field (member_runs field set) (least field + from + i)
    there one =
        let at : (i < 64) × (from + i < size field) × (has_word set (from + i) ≡ true) = is.there i one in
        let has : SomeHas field (member_runs field set) (least field + (from + i)) = member_has field set (size field) (from + i) (omega arith) at.1 at.2 in
        let e : least field + (from + i) ≡ least field + from + i = omega arith in
        (at.0, subst (λ (v : ℕ). SomeHas field (member_runs field set) v) e has)

    back : (i < 64) × SomeHas field (member_runs field set) (least field + from + i) → bit_at word i ≡ 1
    back at =
        let found : (j : ℕ) × (j < size field) × (least field + from + i ≡ least field + j) × (has_word set j ≡ true) =
        has_member field set (size field) (least field + from + i) (omega arith) at.1 in
        let e : found.0 ≡ from + i = omega (arith, found.2) in
        is.back i at.0 (omega (arith, e, found.1)) (subst (λ (j : ℕ). has_word set j ≡ true) e found.3)

pub values_are_set : (field : Field) (set : List ℕ) (from word : ℕ) → members set (size field) ≢ [] → IsWordFrom field set from word
    → IsSet field from (values_text field set (size field)) word
values_are_set field set from word some is =
    record { runs = member_runs field set; elements = members_elements field set some; bits = members_bits field set from word is }
