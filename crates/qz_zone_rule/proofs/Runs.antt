-- Stretches that are still to come, step by step.
use Rattle.std.proofs.Common.{◌≡◌, ℕ, zero, suc, ◌+◌, ◌-◌, ◌≤◌, ◌<◌, arith, refl, sym, ap, subst, ◌≢◌, inl, inr, ◌∙◌, List, [], ◌∷◌, map, Bool, true, false, not, ℤ}
use Rattle.std.specs.Prelude.{filter, if◌then◌else◌}
use Rattle.std.specs.List.{range_with_len}
use Rattle.std.specs.Ordering.{int_eq}
use Rattle.std.proofs.lemmas.Bool.Decides.{Decides-int_eq, leb_tells}
use Rattle.qz_zone_rule.specs.Tables.{later, stretch, is_change, table}
use Rattle.qz_zone_rule.specs.declared.quarters.TheConstants.{QUARTERS}

-- one quarter on
pub one_on : (offset : ℕ → ℤ) (i : ℕ) → i + 1 < QUARTERS → later offset i ≡ (if is_change offset (i + 1) then stretch offset (i + 1) ∷ later offset (i + 1) else later offset (i + 1))
unfolding later
one_on offset i h =
    let more : QUARTERS - (i + 1) ≡ suc (QUARTERS - (i + 1 + 1)) = omega arith in
    rw more (step (is_change offset (i + 1)) refl)
  where
    step : (t : Bool) → is_change offset (i + 1) ≡ t → map (stretch offset) (filter (is_change offset) (range_with_len (i + 1) (suc (QUARTERS - (i + 1 + 1))))) ≡ (if t then stretch offset (i + 1) ∷ later offset (i + 1) else later offset (i + 1))
    step true e = rw e refl
    step false e = rw e refl

-- after the last quarter nothing comes
pub none_after_last : (offset : ℕ → ℤ) (i : ℕ) → i + 1 ≡ QUARTERS → later offset i ≡ []
unfolding later
none_after_last offset i h = let none : QUARTERS - (i + 1) ≡ 0 = omega arith in rw none refl

int_same : (a b : ℤ) → a ≡ b → not (int_eq a b) ≡ false
int_same a b e = rw ((Decides-int_eq a b).1 e) refl

-- a quarter with the offset of the one before gives no stretch
pub still : (offset : ℕ → ℤ) (i : ℕ) → i + 1 < QUARTERS → offset (i + 1) ≡ offset i → later offset i ≡ later offset (i + 1)
still offset i h same =
    let one : i + 1 - 1 ≡ i = omega arith in
    let none : is_change offset (i + 1) ≡ false = int_same (offset (i + 1)) (offset (i + 1 - 1)) (same ∙ ap (offset) (sym one)) in
    one_on offset i h ∙ rw none refl

-- quarters of one offset are passed over
pub passed : (offset : ℕ → ℤ) (i k : ℕ) → i + k < QUARTERS → ((j : ℕ) → i ≤ j → j ≤ i + k → offset j ≡ offset i) → later offset i ≡ later offset (i + k)
passed offset i zero h same = ap (later offset) (omega arith)
passed offset i (suc k) h same =
    let sum : i + suc k ≡ i + k + 1 = omega arith in
    rw sum (passed offset i k (omega arith) (λ j a b. same j a (omega arith)) ∙ still offset (i + k) (omega arith) (same (i + k + 1) (omega arith) (omega arith) ∙ sym (same (i + k) (omega arith) (omega arith))))

-- Up to the next quarter with another offset.

changes_at : (offset : ℕ → ℤ) (i : ℕ) → offset (i + 1) ≢ offset i → is_change offset (i + 1) ≡ true
changes_at offset i h =
    let one : i + 1 - 1 ≡ i = omega arith in
    other (offset (i + 1)) (offset (i + 1 - 1)) (λ e. h (e ∙ ap (offset) one))
  where
    other : (a b : ℤ) → a ≢ b → not (int_eq a b) ≡ true
    other a b h = by (int_eq a b) refl
      where
        by : (t : Bool) → int_eq a b ≡ t → not (int_eq a b) ≡ true
        by true e = absurd (h ((Decides-int_eq a b).0 e))
        by false e = rw e refl

-- a quarter with the offset of those before
pub to_same : (offset : ℕ → ℤ) (i k : ℕ) → i ≤ k → k < QUARTERS → ((j : ℕ) → i ≤ j → j < k → offset j ≡ offset i) → offset k ≡ offset i → later offset i ≡ later offset k
to_same offset i k h bound same e =
    let sum : i + (k - i) ≡ k = omega arith in
    passed offset i (k - i) (omega arith) (λ j a b. elim (leb_tells k j) [
      | inl last ↦ let is : j ≡ k = omega (arith, last.1) in ap (offset) is ∙ e
      | inr before ↦ same j a before.1
    ]) ∙ ap (later offset) sum

-- the first quarter with another offset
pub to_change : (offset : ℕ → ℤ) (i k : ℕ) → i < k → k < QUARTERS → ((j : ℕ) → i ≤ j → j < k → offset j ≡ offset i) → offset k ≢ offset i → later offset i ≡ stretch offset k ∷ later offset k
to_change offset i k h bound same other =
    let j : ℕ = k - 1 in
    let next : j + 1 ≡ k = omega arith in
    let last : offset j ≡ offset i = same j (omega arith) (omega arith) in
    let before = to_same offset i j (omega arith) (omega arith) (λ m a b. same m a (omega arith)) last in
    let change = changes_at offset j (λ e. other (ap (offset) (sym next) ∙ e ∙ last)) in
    let step : later offset j ≡ stretch offset (j + 1) ∷ later offset (j + 1) = one_on offset j (omega arith) ∙ rw change refl in
    before ∙ subst (λ n. later offset j ≡ stretch offset n ∷ later offset n) next step

-- no other quarter has another offset
pub to_end : (offset : ℕ → ℤ) (i k : ℕ) → i < k → k ≡ QUARTERS → ((j : ℕ) → i ≤ j → j < k → offset j ≡ offset i) → later offset i ≡ []
to_end offset i k h e same =
    let j : ℕ = k - 1 in
    to_same offset i j (omega arith) (omega arith) (λ m a b. same m a (omega arith)) (same j (omega arith) (omega arith)) ∙ none_after_last offset j (omega arith)

-- Clocks with the same offsets have one table.

same_filter : (a b : ℕ → ℤ) → ((i : ℕ) → a i ≡ b i) → (xs : List ℕ) → map (stretch a) (filter (is_change a) xs) ≡ map (stretch b) (filter (is_change b) xs)
same_filter a b h [] = refl
same_filter a b h (x ∷ xs) = step (is_change a x) refl (sym change) (same_filter a b h xs)
  where
    here : a x ≡ b x
    here = h x

    change : is_change a x ≡ is_change b x
    change = let before = h (x - 1) in rw (here, before) refl

    step : (t : Bool) → is_change a x ≡ t → is_change b x ≡ is_change a x → map (stretch a) (filter (is_change a) xs) ≡ map (stretch b) (filter (is_change b) xs) → map (stretch a) (filter (is_change a) (x ∷ xs)) ≡ map (stretch b) (filter (is_change b) (x ∷ xs))
    step true e f rest = let g = f ∙ e in rw (e, g, rest, here) refl
    step false e f rest = let g = f ∙ e in rw (e, g) rest

same_later : (a b : ℕ → ℤ) → ((i : ℕ) → a i ≡ b i) → (i : ℕ) → later a i ≡ later b i
unfolding later
same_later a b h i = same_filter a b h (range_with_len (i + 1) (QUARTERS - (i + 1)))

pub same_table : (a b : ℕ → ℤ) → ((i : ℕ) → a i ≡ b i) → table a ≡ table b
same_table a b h =
    let rest = same_later a b h 0 in
    let first = h 0 in
    rw (rest, first) refl
