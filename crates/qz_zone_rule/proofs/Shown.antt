-- What the table of a clock shows at each quarter.
use Rattle.std.proofs.Common.{◌≡◌, ℕ, zero, suc, ◌+◌, ◌-◌, ◌≤◌, ◌<◌, arith, refl, sym, ap, subst, ◌∙◌, List, [], ◌∷◌, map, Bool, true, false, not, ℤ, pos, ◌≤ℤ◌, ◌<ℤ◌, int_le}
use Rattle.std.specs.Prelude.{filter, slice_get, if◌then◌else◌}
use Rattle.std.specs.List.{range_with_len}
use Rattle.std.specs.Ordering.{int_eq}
use Rattle.std.proofs.lemmas.Bool.Decides.{Decides-int_eq}
use Rattle.std.proofs.lemmas.Int.{ints}
use Rattle.qz_civil.specs.declared.stretches.Stretch.{Stretch}
use Rattle.qz_civil.specs.Zones.{begun, offset_of, offset_at}
use Rattle.qz_zone_rule.specs.Tables.{later, quarter, stretch, is_change, table}
use Rattle.qz_zone_rule.specs.declared.quarters.TheConstants.{QUARTERS}
use Rattle.qz_zone_rule.proofs.Runs.{one_on}

le_yes : (a b : ℤ) → a ≤ℤ b → int_le a b ≡ true
le_yes a b h = grind (arith, ints)

le_no : (a b : ℤ) → b <ℤ a → int_le a b ≡ false
le_no a b h = grind (arith, ints)

-- Stretches that have begun.

begun_yes : (s : Stretch) (rest : List Stretch) (t : ℤ) → s.from ≤ℤ t → begun (s ∷ rest) t ≡ 1 + begun rest t
unfolding begun
begun_yes s rest t h = rw (le_yes s.from t h) refl

begun_no : (s : Stretch) (rest : List Stretch) (t : ℤ) → t <ℤ s.from → begun (s ∷ rest) t ≡ 0
unfolding begun
begun_no s rest t h = rw (le_no s.from t h) refl

begun_nil : (t : ℤ) → begun [] t ≡ 0
unfolding begun
begun_nil t = refl

-- none of those that begin with later quarters
none_begun : (offset : ℕ → ℤ) (n from i : ℕ) → i < from → begun (map (stretch offset) (filter (is_change offset) (range_with_len from n))) (pos (quarter i)) ≡ 0
none_begun offset zero from i h = begun_nil (pos (quarter i))
none_begun offset (suc n) from i h = step (is_change offset from) refl (none_begun offset n (from + 1) i (omega arith))
  where
    step : (t : Bool) → is_change offset from ≡ t → begun (map (stretch offset) (filter (is_change offset) (range_with_len (from + 1) n))) (pos (quarter i)) ≡ 0 → begun (map (stretch offset) (filter (is_change offset) (range_with_len from (suc n)))) (pos (quarter i)) ≡ 0
    step true e rest = rw e (begun_no (stretch offset from) _ (pos (quarter i)) (omega (arith, ints)))
    step false e rest = rw e rest

none_later : (offset : ℕ → ℤ) (i : ℕ) → begun (later offset i) (pos (quarter i)) ≡ 0
unfolding later
none_later offset i = none_begun offset (QUARTERS - (i + 1)) (i + 1) i (omega arith)

-- The offset of a table.

at_first : (s : Stretch) (rest : List Stretch) (t : ℤ) → s.from ≤ℤ t → begun rest t ≡ 0 → offset_at (s ∷ rest) t ≡ s.offset
at_first s rest t h none =
    let one : begun (s ∷ rest) t - 1 ≡ 0 = omega (arith, begun_yes s rest t h, none) in
    ap (λ n. offset_of (slice_get (s ∷ rest) n)) one

at_next : (s r : Stretch) (rest : List Stretch) (t : ℤ) → s.from ≤ℤ t → r.from ≤ℤ t → offset_at (s ∷ r ∷ rest) t ≡ offset_at (r ∷ rest) t
at_next s r rest t h k =
    let later = begun_yes r rest t k in
    let place : begun (s ∷ r ∷ rest) t - 1 ≡ suc (begun (r ∷ rest) t - 1) = omega (arith, begun_yes s (r ∷ rest) t h, later) in
    ap (λ n. offset_of (slice_get (s ∷ r ∷ rest) n)) place

same_offset : (a b : ℤ) → not (int_eq a b) ≡ false → a ≡ b
same_offset a b h = by (int_eq a b) refl
  where
    by : (t : Bool) → int_eq a b ≡ t → a ≡ b
    by true e = (Decides-int_eq a b).0 e
    by false e = absurd (cc (rw e at h))

-- k quarters after the a-th, where the current stretch began with quarter `began`
shown : (offset : ℕ → ℤ) (k began a : ℕ) → began ≤ a → a + k < QUARTERS → offset began ≡ offset a → offset_at (stretch offset began ∷ later offset a) (pos (quarter (a + k))) ≡ offset (a + k)
shown offset zero began a h bound e =
    let here : a ≡ a + 0 = omega arith in
    subst (λ i. offset_at (stretch offset began ∷ later offset a) (pos (quarter i)) ≡ offset i) here
    (at_first (stretch offset began) (later offset a) (pos (quarter a)) (omega (arith, ints)) (none_later offset a) ∙ e)
shown offset (suc k) began a h bound e =
    let next : a + 1 + k ≡ a + suc k = omega arith in
    step (is_change offset (a + 1)) refl (one_on offset a (omega arith))
    (shown offset k (a + 1) (a + 1) (omega arith) (omega arith) refl)
    (λ same. shown offset k began (a + 1) (omega arith) (omega arith) (e ∙ sym same)) next
  where
    step : (t : Bool) → is_change offset (a + 1) ≡ t
        → later offset a ≡ (if is_change offset (a + 1) then stretch offset (a + 1) ∷ later offset (a + 1) else later offset (a + 1))
        → offset_at (stretch offset (a + 1) ∷ later offset (a + 1)) (pos (quarter (a + 1 + k))) ≡ offset (a + 1 + k)
        → (offset (a + 1) ≡ offset a → offset_at (stretch offset began ∷ later offset (a + 1)) (pos (quarter (a + 1 + k))) ≡ offset (a + 1 + k))
        → a + 1 + k ≡ a + suc k
        → offset_at (stretch offset began ∷ later offset a) (pos (quarter (a + suc k))) ≡ offset (a + suc k)
    step true t more fresh same next =
        let begins : later offset a ≡ stretch offset (a + 1) ∷ later offset (a + 1) = more ∙ rw t refl in
        let here = at_next (stretch offset began) (stretch offset (a + 1)) (later offset (a + 1)) (pos (quarter (a + 1 + k))) (omega (arith, ints)) (omega (arith, ints)) in
        subst (λ i. offset_at (stretch offset began ∷ later offset a) (pos (quarter i)) ≡ offset i) next
        (ap (λ rest. offset_at (stretch offset began ∷ rest) (pos (quarter (a + 1 + k)))) begins ∙ here ∙ fresh)
    step false t more fresh same next =
        let goes_on : later offset a ≡ later offset (a + 1) = more ∙ rw t refl in
        let one : a + 1 - 1 ≡ a = omega arith in
        let equal : offset (a + 1) ≡ offset a = same_offset (offset (a + 1)) (offset (a + 1 - 1)) t ∙ ap offset one in
        subst (λ i. offset_at (stretch offset began ∷ later offset a) (pos (quarter i)) ≡ offset i) next
        (ap (λ rest. offset_at (stretch offset began ∷ rest) (pos (quarter (a + 1 + k)))) goes_on ∙ same equal)

-- the table of a clock has the clock's offset at each quarter
pub table_shows : (offset : ℕ → ℤ) (i : ℕ) → i < QUARTERS → offset_at (table offset) (pos (quarter i)) ≡ offset i
table_shows offset i h =
    let start : 0 + i ≡ i = omega arith in
    subst (λ j. offset_at (table offset) (pos (quarter j)) ≡ offset j) start (shown offset i 0 0 (omega arith) (omega arith) refl)
