-- The triggers of a job, whose slots stand side by side.
use Rattle.std.proofs.Common.{◌≡◌, ◌≢◌, ◌⊎◌, ℕ, zero, suc, ◌+◌, ◌-◌, ◌<◌, ◌≤◌, List, [], ◌∷◌, ◌++◌, length, map, filter, cond, not, take, drop, get_or, Bool, true, false, if◌then◌else◌, Option, Some, None, refl, sym, ap, subst, ◌∙◌, arith, inl, inr}
use Rattle.std.specs.Prelude.{IsSome, is_some, nat_eq, option_map, IsPermutation}
use Rattle.std.specs.List.{remove, slice_get}
use Rattle.std.specs.Ordering.{is_eq}
use Rattle.std.specs.declared.cmp.Ordering.{Ordering}
use Rattle.std.specs.declared.cmp.Ordering.TheVariants.{Less, Equal, Greater}
use Rattle.std.proofs.lemmas.Bool.{cases_lt, cases_eq, eq-eqb, ne_eqb}
use Rattle.std.proofs.lemmas.Cmp.{tied_back}
use Rattle.std.proofs.lemmas.List.Sorted.{IsPermutation-refl, IsPermutation-trans, IsPermutation-append_comm, IsPermutation-append_left, IsPermutation-append_right}
use Rattle.qz_types.specs.Changes.{with_state, with_states}
use Rattle.qz_types.specs.Rows.{TriggerData}
use Rattle.qz_types.specs.Words.{key_cmp, same_key}
use Rattle.qz_types.specs.declared.keys.Key.{Key}
use Rattle.qz_types.specs.declared.triggers.TriggerState.{TriggerState}
use Rattle.qz_tables.specs.ByJob.{IsRangeOf, AreSlotsOf}
use Rattle.qz_tables.specs.Jobs.{triggers_of}
use Rattle.qz_tables.specs.Linking.{links_of}
use Rattle.qz_tables.specs.Links.{linked}
use Rattle.qz_tables.specs.Once.{times, AreOnce, AreApart}
use Rattle.qz_tables.specs.Changes.{trigger_edited}
use Rattle.qz_tables.specs.Slots.{rows_at, with_found, AreFilled, IsWritten, has_number, edited_in}
use Rattle.qz_tables.specs.declared.edits.TriggerEdit.{TriggerEdit}
use Rattle.qz_tables.proofs.BulkLemmas.{changed_if}
use Rattle.qz_tables.proofs.Filled.{length-rows, filled_at, nth_row}
use Rattle.qz_tables.proofs.Keys.{key_exact, key_total}
use Rattle.qz_tables.proofs.LinkLemmas.{linked-links, tie, AreAlike, edited_tie}
use Rattle.qz_tables.proofs.OnceLemmas.{times-first, times-remove, once_here, place_of_slot, filled-once}

-- ---- a part of a list

less_none : (n : ℕ) → n - 0 ≡ n
less_none n = omega arith

less_one : (n m : ℕ) → suc n - suc m ≡ n - m
less_one n m = omega arith

module _ {X : Type 0} where
  -- the items from place low on, and before place high
  abbrev pub part : ℕ → ℕ → List X → List X
  part zero high xs = take high xs
  part (suc low) zero xs = []
  part (suc low) (suc high) [] = []
  part (suc low) (suc high) (x ∷ xs) = part low high xs

  take-none : (n : ℕ) → take {A = X} n [] ≡ []
  take-none zero = refl
  take-none (suc n) = refl

  pub part-is : (low high : ℕ) (xs : List X) → low ≤ high → take (high - low) (drop low xs) ≡ part low high xs
  part-is zero high xs le = ap (λ n. take n xs) (less_none high)
  part-is (suc low) zero xs le = absurd (omega arith)
  part-is (suc low) (suc high) [] le = take-none (suc high - suc low)
  part-is (suc low) (suc high) (x ∷ xs) le = ap (λ n. take n (drop low xs)) (less_one high low) ∙ part-is low high xs (omega arith)

  some_same : (x y : X) → Some x ≡ Some y → x ≡ y
  some_same x y e = cc

  filter-none : (p : X → Bool) (xs : List X) → ((i : ℕ) (x : X) → slice_get xs i ≡ Some x → p x ≡ false) → filter p xs ≡ []
  filter-none p [] h = refl
  filter-none p (x ∷ xs) h = rw (h 0 x refl) (filter-none p xs (λ i y e. h (suc i) y e))

  -- those that pass stand side by side
  pub filter-part : (p : X → Bool) (xs : List X) (low high : ℕ) → low ≤ high → high ≤ length xs
      → ((i : ℕ) (x : X) → i < low → slice_get xs i ≡ Some x → p x ≡ false)
      → ((i : ℕ) (x : X) → low ≤ i → i < high → slice_get xs i ≡ Some x → p x ≡ true)
      → ((i : ℕ) (x : X) → high ≤ i → slice_get xs i ≡ Some x → p x ≡ false)
      → filter p xs ≡ part low high xs
  filter-part p [] zero zero le within before here after = refl
  filter-part p [] (suc low) high le within before here after = absurd (omega arith)
  filter-part p [] zero (suc high) le within before here after = absurd (omega arith)
  filter-part p (x ∷ xs) zero zero le within before here after = filter-none p (x ∷ xs) (λ i y e. after i y (omega arith) e)
  filter-part p (x ∷ xs) zero (suc high) le within before here after =
      rw (here 0 x (omega arith) (omega arith) refl) (ap (λ ys. x ∷ ys) (filter-part p xs zero high (omega arith) (omega arith) (λ i y lt e. absurd (omega arith)) (λ i y l lt e. here (suc i) y (omega arith) (omega arith) e) (λ i y l e. after (suc i) y (omega arith) e)))
  filter-part p (x ∷ xs) (suc low) zero le within before here after = absurd (omega arith)
  filter-part p (x ∷ xs) (suc low) (suc high) le within before here after =
      rw (before 0 x (omega arith) refl) (filter-part p xs low high (omega arith) (omega arith) (λ i y lt e. before (suc i) y (omega arith) e) (λ i y l lt e. here (suc i) y (omega arith) (omega arith) e) (λ i y l e. after (suc i) y (omega arith) e))

-- ---- numbers in a part of a list

times-part_zero : (n high : ℕ) (xs : List ℕ) → times n (take high xs) ≤ times n xs
times-part_zero n zero xs = omega arith
times-part_zero n (suc high) [] = omega arith
times-part_zero n (suc high) (x ∷ xs) = let l = times-part_zero n high xs in omega (arith, times-first n x xs, times-first n x (take high xs))

pub times-part : (n low high : ℕ) (xs : List ℕ) → times n (part low high xs) ≤ times n xs
times-part n zero high xs = times-part_zero n high xs
times-part n (suc low) zero xs = omega arith
times-part n (suc low) (suc high) [] = omega arith
times-part n (suc low) (suc high) (x ∷ xs) = let l = times-part n low high xs in omega (arith, times-first n x xs)

at_most : (b : Bool) (n : ℕ) → n ≡ (if b then 1 else 0) → n ≤ 1
at_most true n e = omega (arith, e)
at_most false n e = omega (arith, e)

-- a part of an order of slots has no slot twice
pub apart-part : {R : Type 0} (slots : List (Option R)) (order : List ℕ) (low high : ℕ) → AreOnce slots order → AreApart (part low high order)
apart-part slots order low high once n = let l = times-part n low high order in let m = at_most (is_some (get_or slots n None)) (times n order) (once.once n) in omega arith

filled-take : {R : Type 0} (slots : List (Option R)) (order : List ℕ) (n : ℕ) → AreFilled slots order → AreFilled slots (take n order)
filled-take slots order zero f = tt
filled-take slots [] (suc n) f = tt
filled-take slots (s ∷ ss) (suc n) f = (f.0, filled-take slots ss n f.1)

pub filled-part : {R : Type 0} (slots : List (Option R)) (order : List ℕ) (low high : ℕ) → AreFilled slots order → AreFilled slots (part low high order)
filled-part slots order zero high f = filled-take slots order high f
filled-part slots order (suc low) zero f = tt
filled-part slots [] (suc low) (suc high) f = tt
filled-part slots (s ∷ ss) (suc low) (suc high) f = filled-part slots ss low high f.1

found-take : {R : Type 0} (o : Option R) (xs : List R) (n : ℕ) → IsSome o → take (suc n) (with_found o xs) ≡ with_found o (take n xs)
found-take None xs n f = absurd cc
found-take (Some r) xs n f = refl

found-part : {R : Type 0} (o : Option R) (xs : List R) (low high : ℕ) → IsSome o → part (suc low) (suc high) (with_found o xs) ≡ part low high xs
found-part None xs low high f = absurd cc
found-part (Some r) xs low high f = refl

rows-take : {R : Type 0} (slots : List (Option R)) (order : List ℕ) (n : ℕ) → AreFilled slots order → rows_at slots (take n order) ≡ take n (rows_at slots order)
rows-take slots order zero f = refl
rows-take slots [] (suc n) f = refl
rows-take slots (s ∷ ss) (suc n) f = ap (with_found (get_or slots s None)) (rows-take slots ss n f.1) ∙ sym (found-take (get_or slots s None) (rows_at slots ss) n f.0)

pub rows-part : {R : Type 0} (slots : List (Option R)) (order : List ℕ) (low high : ℕ) → AreFilled slots order → rows_at slots (part low high order) ≡ part low high (rows_at slots order)
rows-part slots order zero high f = rows-take slots order high f
rows-part slots order (suc low) zero f = refl
rows-part slots [] (suc low) (suc high) f = refl
rows-part slots (s ∷ ss) (suc low) (suc high) f = rows-part slots ss low high f.1 ∙ sym (found-part (get_or slots s None) (rows_at slots ss) low high f.0)

-- ---- which numbers stand in a part

has-first : (n x : ℕ) (xs : List ℕ) → has_number n (x ∷ xs) ≡ true → (n ≡ x) ⊎ (has_number n xs ≡ true)
has-first n x xs e = elim (cases_eq n x) [
  | inl same ↦ inl same
  | inr differs ↦ inr (sym (ap (λ b. if b then true else has_number n xs) (ne_eqb n x differs)) ∙ e)
]

has-take : (n high : ℕ) (xs : List ℕ) → has_number n (take high xs) ≡ true → (i : ℕ) × (i < high) × (i < length xs) × (get_or xs i 0 ≡ n)
has-take n zero xs e = absurd (cc)
has-take n (suc high) [] e = absurd (cc)
has-take n (suc high) (x ∷ xs) e = elim (has-first n x (take high xs) e) [
  | inl same ↦ (0, omega arith, omega arith, sym same)
  | inr more ↦ (let h = has-take n high xs more in (suc h.0, omega (arith, h.1), omega (arith, h.2), h.3))
]

-- a number of a part stands at a place of it
pub has-part : (n low high : ℕ) (xs : List ℕ) → has_number n (part low high xs) ≡ true → (i : ℕ) × (low ≤ i) × (i < high) × (i < length xs) × (get_or xs i 0 ≡ n)
has-part n zero high xs e = let h = has-take n high xs e in (h.0, omega arith, h.1, h.2, h.3)
has-part n (suc low) zero xs e = absurd (cc)
has-part n (suc low) (suc high) [] e = absurd (cc)
has-part n (suc low) (suc high) (x ∷ xs) e = let h = has-part n low high xs e in (suc h.0, omega (arith, h.1), omega (arith, h.2), omega (arith, h.3), h.4)

has-itself : (n : ℕ) (xs : List ℕ) → has_number n (n ∷ xs) ≡ true
has-itself n xs = rw (eq-eqb n n refl) refl

has-more : (n x : ℕ) (xs : List ℕ) → has_number n xs ≡ true → has_number n (x ∷ xs) ≡ true
has-more n x xs e = elim (nat_eq n x) as (λ b. (if b then true else has_number n xs) ≡ true) [
  | true ↦ refl
  | false ↦ e
]

taken-has : (n high i : ℕ) (xs : List ℕ) → i < high → i < length xs → get_or xs i 0 ≡ n → has_number n (take high xs) ≡ true
taken-has n zero i xs lt within e = absurd (omega arith)
taken-has n (suc high) i [] lt within e = absurd (omega arith)
taken-has n (suc high) zero (x ∷ xs) lt within e = subst (λ y. has_number n (y ∷ take high xs) ≡ true) (sym e) (has-itself n (take high xs))
taken-has n (suc high) (suc i) (x ∷ xs) lt within e = has-more n x (take high xs) (taken-has n high i xs (omega arith) (omega arith) e)

-- what stands at a place of a part is a number of it
pub part-has : (n low high i : ℕ) (xs : List ℕ) → low ≤ i → i < high → i < length xs → get_or xs i 0 ≡ n → has_number n (part low high xs) ≡ true
part-has n zero high i xs le lt within e = taken-has n high i xs lt within e
part-has n (suc low) zero i xs le lt within e = absurd (omega arith)
part-has n (suc low) (suc high) i [] le lt within e = absurd (omega arith)
part-has n (suc low) (suc high) zero (x ∷ xs) le lt within e = absurd (omega arith)
part-has n (suc low) (suc high) (suc i) (x ∷ xs) le lt within e = part-has n low high i xs (omega arith) (omega arith) (omega arith) e

-- ---- the triggers of a job

abbrev job_of : TriggerData → Key
job_of t = t.spec.job

eq-from : (o : Ordering) → o ≡ Equal → is_eq o ≡ true
eq-from o e = rw e refl

ne-less : (o : Ordering) → o ≡ Less → is_eq o ≡ false
ne-less o e = rw e refl

ne-greater : (o : Ordering) → o ≡ Greater → is_eq o ≡ false
ne-greater o e = rw e refl

module _ (k : Key) where
  pub is-here : (t : TriggerData) → key_cmp t.spec.job k ≡ Equal → is_eq (key_cmp k t.spec.job) ≡ true
  is-here t e = eq-from _ (tied_back key_total t.spec.job k e)

  turned : (t : TriggerData) (b : Bool) → is_eq (key_cmp k t.spec.job) ≡ b → is_eq (key_cmp t.spec.job k) ≡ false → b ≡ false
  turned t true e h = absurd (let f : key_cmp k t.spec.job ≡ Equal = equal_from _ e in let g = eq-from _ (tied_back key_total k t.spec.job f) in true_false _ g h)
    where
      equal_from : (o : Ordering) → is_eq o ≡ true → o ≡ Equal
      equal_from Less e = absurd (cc)
      equal_from Equal e = refl
      equal_from Greater e = absurd (cc)

      true_false : (b : Bool) → b ≡ true → b ≡ false → ⊥
      true_false b e f = cc
  turned t false e h = refl

  pub is-before : (t : TriggerData) → key_cmp t.spec.job k ≡ Less → is_eq (key_cmp k t.spec.job) ≡ false
  is-before t e = turned t (is_eq (key_cmp k t.spec.job)) refl (ne-less _ e)

  pub is-after : (t : TriggerData) → key_cmp t.spec.job k ≡ Greater → is_eq (key_cmp k t.spec.job) ≡ false
  is-after t e = turned t (is_eq (key_cmp k t.spec.job)) refl (ne-greater _ e)

  module _ (slots : List (Option TriggerData)) (order : List ℕ) (low high : ℕ) (filled : AreFilled slots order) (range : IsRangeOf job_of k (rows_at slots order) low high) where
    pub within_order : high ≤ length order
    within_order = let w = range.within in omega (arith, w, length-rows slots order filled)

    -- they are those of the range
    pub job-part : filter (λ t. is_eq (key_cmp k t.spec.job)) (rows_at slots order) ≡ rows_at slots (part low high order)
    job-part =
        filter-part (λ (t : TriggerData). is_eq (key_cmp k t.spec.job)) (rows_at slots order) low high range.ordered range.within
        (λ i t lt e. is-before t (range.before i t lt e)) (λ i t le lt e. is-here t (range.here i t le lt e)) (λ i t le e. is-after t (range.after i t le e))
        ∙ sym (rows-part slots order low high filled)

    pub keys-part : map (λ (t : TriggerData). t.spec.key) (rows_at slots (part low high order)) ≡ linked k (links_of (rows_at slots order))
    keys-part = ap (map (λ (t : TriggerData). t.spec.key)) (sym job-part) ∙ sym (linked-links k (rows_at slots order))

    -- a slot is one of the range exactly where its row is of the job
    pub slot-in : (s : ℕ) (t : TriggerData) → AreOnce slots order → get_or slots s None ≡ Some t → has_number s (part low high order) ≡ is_eq (key_cmp k t.spec.job)
    slot-in s t once is = elim (has_number s (part low high order)) as (λ b. has_number s (part low high order) ≡ b → b ≡ is_eq (key_cmp k t.spec.job)) [
      | true ↦ λ e. (
          let h = has-part s low high order e in
          let at : slice_get (rows_at slots order) h.0 ≡ Some t = nth_row slots order h.0 s filled h.3 (sym h.4) ∙ is in
          sym (is-here t (range.here h.0 t h.1 h.2 at))
          )
      | false ↦ λ e. (
          let one : times s order ≡ 1 = one_from (get_or slots s None) t (times s order) (once.once s) is in
          let p = place_of_slot s order (omega arith) in
          let at : slice_get (rows_at slots order) p.0 ≡ Some t = nth_row slots order p.0 s filled p.1 (sym p.2) ∙ is in
          sym (elim (cases_lt p.0 low) [
            | inl below ↦ is-before t (range.before p.0 t below at)
            | inr above ↦ elim (cases_lt p.0 high) [
              | inl inside ↦ absurd (false_true _ e (part-has s low high p.0 order (omega (arith, above)) inside p.1 p.2))
              | inr beyond ↦ is-after t (range.after p.0 t (omega (arith, beyond)) at)
            ]
          ])
          )
    ] refl
      where
        one_from : (o : Option TriggerData) (r : TriggerData) (n : ℕ) → n ≡ (if is_some o then 1 else 0) → o ≡ Some r → n ≡ 1
        one_from o r n e f = rw f at e

        false_true : (b : Bool) → b ≡ false → b ≡ true → ⊥
        false_true b e f = cc

-- ---- rows that were changed where they stand

mapped-step : {R : Type 0} (f : R → R) (o n : Option R) (xs ys : List R) → n ≡ option_map f o → ys ≡ map f xs → with_found n ys ≡ map f (with_found o xs)
mapped-step f None n xs ys e h = rw e h
mapped-step f (Some r) n xs ys e h = rw e (ap (λ zs. f r ∷ zs) h)

pub rows-mapped : {R : Type 0} (f : R → R) (old new : List (Option R)) (order : List ℕ) → ((s : ℕ) → get_or new s None ≡ option_map f (get_or old s None)) → rows_at new order ≡ map f (rows_at old order)
rows-mapped f old new [] h = refl
rows-mapped f old new (s ∷ ss) h = mapped-step f (get_or old s None) (get_or new s None) (rows_at old ss) (rows_at new ss) (h s) (rows-mapped f old new ss h)

module _ (change : TriggerState → TriggerState) (k : Key) (slots new : List (Option TriggerData)) (edited : List ℕ)
    (each : (s : ℕ) → get_or new s None ≡ edited_in (with_state change) edited s (get_or slots s None))
    (chosen : (s : ℕ) (t : TriggerData) → get_or slots s None ≡ Some t → has_number s edited ≡ is_eq (key_cmp k t.spec.job)) where
  unchanged : (b : Bool) (o : Option TriggerData) → o ≡ None → (if b then option_map (with_state change) o else o) ≡ option_map (changed_if change (λ t. is_eq (key_cmp k t.spec.job))) o
  unchanged true None e = refl
  unchanged false None e = refl
  unchanged b (Some t) e = absurd (cc)

  by_row : (s : ℕ) (o : Option TriggerData) → get_or slots s None ≡ o → edited_in (with_state change) edited s o ≡ option_map (changed_if change (λ t. is_eq (key_cmp k t.spec.job))) o
  by_row s None e = unchanged (has_number s edited) None refl
  by_row s (Some t) e = rw (chosen s t e) (either (is_eq (key_cmp k t.spec.job)))
    where
      either : (b : Bool) → (if b then Some (with_state change t) else Some t) ≡ Some (if b then with_state change t else t)
      either true = refl
      either false = refl

  -- the states of a job's triggers were changed
  pub job-changed : (order : List ℕ) → rows_at new order ≡ with_states change (λ t. same_key k t.spec.job) (rows_at slots order)
  unfolding with_states same_key
  job-changed order = rows-mapped (changed_if change (λ t. is_eq (key_cmp k t.spec.job))) slots new order (λ s. each s ∙ by_row s (get_or slots s None) refl)

-- ---- two orders of the same slots

module _ (slots : List (Option TriggerData)) (p : TriggerData → Bool) where
  abbrev passing : List ℕ → List TriggerData
  passing xs = filter p (rows_at slots xs)

  abbrev alone : ℕ → List TriggerData
  alone s = passing (s ∷ [])

  split : (s : ℕ) (xs : List ℕ) → passing (s ∷ xs) ≡ alone s ++ passing xs
  split s xs = by_row (get_or slots s None)
    where
      by_row : (o : Option TriggerData) → filter p (with_found o (rows_at slots xs)) ≡ filter p (with_found o []) ++ passing xs
      by_row None = refl
      by_row (Some t) = elim (p t) as (λ b. cond b (t ∷ passing xs) (passing xs) ≡ cond b (t ∷ []) [] ++ passing xs) [
        | true ↦ refl
        | false ↦ refl
      ]

  append-assoc : (xs ys zs : List TriggerData) → (xs ++ ys) ++ zs ≡ xs ++ (ys ++ zs)
  append-assoc [] ys zs = refl
  append-assoc (x ∷ xs) ys zs = ap (λ l. x ∷ l) (append-assoc xs ys zs)

  swapped : (s t : ℕ) (xs : List ℕ) → IsPermutation (passing (s ∷ t ∷ xs)) (passing (t ∷ s ∷ xs))
  swapped s t xs =
      let left : passing (s ∷ t ∷ xs) ≡ (alone s ++ alone t) ++ passing xs = split s (t ∷ xs) ∙ ap (λ l. alone s ++ l) (split t xs) ∙ sym (append-assoc (alone s) (alone t) (passing xs)) in
      let right : passing (t ∷ s ∷ xs) ≡ (alone t ++ alone s) ++ passing xs = split t (s ∷ xs) ∙ ap (λ l. alone t ++ l) (split s xs) ∙ sym (append-assoc (alone t) (alone s) (passing xs)) in
      rw (left, right) (IsPermutation-append_left (passing xs) (alone s ++ alone t) (alone t ++ alone s) (IsPermutation-append_comm (alone s) (alone t)))

  under : (s : ℕ) (xs ys : List ℕ) → IsPermutation (passing xs) (passing ys) → IsPermutation (passing (s ∷ xs)) (passing (s ∷ ys))
  under s xs ys h = rw (split s xs, split s ys) (IsPermutation-append_right (alone s) (passing xs) (passing ys) h)

  fronted : (s i : ℕ) (ys : List ℕ) → i < length ys → get_or ys i 0 ≡ s → IsPermutation (passing (s ∷ remove ys i)) (passing ys)
  fronted s i [] lt e = absurd (omega arith)
  fronted s zero (y ∷ ys) lt e = rw (← e) (IsPermutation-refl (passing (y ∷ ys)))
  fronted s (suc i) (y ∷ ys) lt e =
      IsPermutation-trans _ _ _ (swapped s y (remove ys i)) (under y (s ∷ remove ys i) ys (fronted s i ys (omega arith) e))

  pub same-rows : (xs ys : List ℕ) → ((n : ℕ) → times n xs ≡ times n ys) → IsPermutation (passing xs) (passing ys)
  same-rows [] [] h = IsPermutation-refl []
  same-rows [] (y ∷ ys) h = absurd (let e = h y in omega (arith, times-first y y ys, once_here y))
  same-rows (x ∷ xs) ys h =
      let e = h x in
      let at = place_of_slot x ys (omega (arith, times-first x x xs, once_here x)) in
      let rest : (n : ℕ) → times n xs ≡ times n (remove ys at.0) = λ n. (let f = h n in omega (arith, times-first n x xs, times-remove n x at.0 ys at.1 at.2)) in
      IsPermutation-trans _ _ _ (under x xs (remove ys at.0) (same-rows xs (remove ys at.0) rest)) (fronted x at.0 ys at.1 at.2)

-- ---- the slots of a job

all_step : (p : TriggerData → Bool) (o : Option TriggerData) (rows : List TriggerData) → ((t : TriggerData) → o ≡ Some t → p t ≡ true) → filter p rows ≡ rows → filter p (with_found o rows) ≡ with_found o rows
all_step p None rows h more = more
all_step p (Some t) rows h more = rw (h t refl) (ap (λ ts. t ∷ ts) more)

filter-all : (p : TriggerData → Bool) (slots : List (Option TriggerData)) (order : List ℕ) → ((s : ℕ) (t : TriggerData) → get_or slots s None ≡ Some t → p t ≡ true) → filter p (rows_at slots order) ≡ rows_at slots order
filter-all p slots [] h = refl
filter-all p slots (s ∷ ss) h = all_step p (get_or slots s None) (rows_at slots ss) (h s) (filter-all p slots ss h)

module _ (k : Key) (slots : List (Option TriggerData)) (order here : List ℕ) (once : AreOnce slots order) (of : AreSlotsOf job_of k slots order here) where
  is-part : here ≡ part of.low of.high order
  is-part = of.here_is ∙ part-is of.low of.high order of.range.ordered

  pub filled-here : AreFilled slots here
  filled-here = subst (λ xs. AreFilled slots xs) (sym is-part) (filled-part slots order of.low of.high (filled-once slots order once))

  pub apart-here : AreApart here
  apart-here = subst (λ xs. AreApart xs) (sym is-part) (apart-part slots order of.low of.high once)

  -- the keys of the triggers, in the order of linking
  pub keys-here : map (λ (t : TriggerData). t.spec.key) (rows_at slots here) ≡ linked k (links_of (rows_at slots order))
  keys-here = ap (λ xs. map (λ (t : TriggerData). t.spec.key) (rows_at slots xs)) is-part ∙ keys-part k slots order of.low of.high (filled-once slots order once) of.range

  -- a slot is one of them exactly where its row is of the job
  pub is-one : (s : ℕ) (t : TriggerData) → get_or slots s None ≡ Some t → has_number s here ≡ is_eq (key_cmp k t.spec.job)
  is-one s t is = ap (has_number s) is-part ∙ slot-in k slots order of.low of.high (filled-once slots order once) of.range s t once is

  -- the triggers of the job in another order of the slots
  pub permuted-here : (other : List ℕ) → AreOnce slots other → IsPermutation (triggers_of k (rows_at slots other)) (rows_at slots here)
  unfolding triggers_of same_key
  permuted-here other a =
      subst (λ l. IsPermutation (filter (λ t. is_eq (key_cmp k t.spec.job)) (rows_at slots other)) l)
      (job-part k slots order of.low of.high (filled-once slots order once) of.range ∙ ap (rows_at slots) (sym is-part))
      (same-rows slots (λ t. is_eq (key_cmp k t.spec.job)) other order (λ n. a.once n ∙ sym (once.once n)))

  -- where there is none, no trigger is of the job
  pub none-here : here ≡ [] → (other : List ℕ) → filter (λ t. not (same_key k t.spec.job)) (rows_at slots other) ≡ rows_at slots other
  unfolding same_key
  none-here e other = filter-all (λ t. not (is_eq (key_cmp k t.spec.job))) slots other (λ s t is. ap not (sym (is-one s t is) ∙ ap (has_number s) e))

  -- the first one is of the job
  pub first-here : (s : ℕ) (rest : List ℕ) (t : TriggerData) → here ≡ s ∷ rest → get_or slots s None ≡ Some t → same_key k t.spec.job ≡ true
  unfolding same_key
  first-here s rest t e is = sym (is-one s t is) ∙ ap (has_number s) e ∙ has-itself s rest

-- the filter leaves out what was taken out
pub filter-removed : (p : TriggerData → Bool) (xs : List TriggerData) (n : ℕ) (t : TriggerData) → slice_get xs n ≡ Some t → p t ≡ false → filter p (remove xs n) ≡ filter p xs
filter-removed p [] n t at e = absurd (cc)
filter-removed p (x ∷ xs) zero t at e = let same : x ≡ t = some_same x t at in rw (same, e) refl
filter-removed p (x ∷ xs) (suc n) t at e = elim (p x) as (λ b. cond b (x ∷ filter p (remove xs n)) (filter p (remove xs n)) ≡ cond b (x ∷ filter p xs) (filter p xs)) [
  | true ↦ ap (λ ts. x ∷ ts) (filter-removed p xs n t at e)
  | false ↦ filter-removed p xs n t at e
]

pub same_job_is : (k j : Key) → same_key k j ≡ true → j ≡ k
unfolding same_key
same_job_is k j e = sym (key_exact k j e)

-- slots whose triggers were edited have triggers of the same key and job
pub alike-in : (e : TriggerEdit) (edited : List ℕ) (old new : List (Option TriggerData)) → ((s : ℕ) → get_or new s None ≡ edited_in (trigger_edited e) edited s (get_or old s None)) → AreAlike old new
alike-in e edited old new each s = ap (option_map tie) (each s) ∙ either (has_number s edited)
  where
    either : (b : Bool) → option_map tie (if b then option_map (trigger_edited e) (get_or old s None) else get_or old s None) ≡ option_map tie (get_or old s None)
    either true = edited_tie e (get_or old s None)
    either false = refl

-- one step of a loop that edits slots
has-take_more : (s : ℕ) (xs : List ℕ) (i : ℕ) → i < length xs → s ≢ get_or xs i 0 → has_number s (take (suc i) xs) ≡ has_number s (take i xs)
has-take_more s [] i lt n = absurd (omega arith)
has-take_more s (x ∷ xs) zero lt n = rw (ne_eqb s x n) refl
has-take_more s (x ∷ xs) (suc i) lt n = ap (λ b. if nat_eq s x then true else b) (has-take_more s xs i (omega arith) n)

taken-before : (xs : List ℕ) (i : ℕ) → i < length xs → has_number (get_or xs i 0) (take i xs) ≡ true → 2 ≤ times (get_or xs i 0) xs
taken-before xs i lt e =
    let h = has-part (get_or xs i 0) 0 i xs e in
    twice xs h.0 i h.2 lt h.4
  where
    twice : (xs : List ℕ) (j i : ℕ) → j < i → i < length xs → get_or xs j 0 ≡ get_or xs i 0 → 2 ≤ times (get_or xs i 0) xs
    twice [] j i lt within same = absurd (omega arith)
    twice (x ∷ xs) j zero lt within same = absurd (omega arith)
    twice (x ∷ xs) zero (suc i) lt within same =
        let n = get_or xs i 0 in
        let one : 0 < times n xs = somewhere xs i (omega arith) in
        let here : times n (x ∷ []) ≡ 1 = ap (λ y. times n (y ∷ [])) same ∙ once_here n in
        omega (arith, times-first n x xs)
      where
        somewhere : (xs : List ℕ) (i : ℕ) → i < length xs → 0 < times (get_or xs i 0) xs
        somewhere [] i lt = absurd (omega arith)
        somewhere (y ∷ ys) zero lt = omega (arith, times-first y y ys, once_here y)
        somewhere (y ∷ ys) (suc i) lt = let l = somewhere ys i (omega arith) in omega (arith, times-first (get_or ys i 0) y ys)
    twice (x ∷ xs) (suc j) (suc i) lt within same = let l = twice xs j i (omega arith) (omega arith) same in omega (arith, times-first (get_or xs i 0) x xs)

not-yet : (xs : List ℕ) (i : ℕ) → AreApart xs → i < length xs → has_number (get_or xs i 0) (take i xs) ≡ false
not-yet xs i apart lt = elim (has_number (get_or xs i 0) (take i xs)) as (λ b. has_number (get_or xs i 0) (take i xs) ≡ b → b ≡ false) [
  | true ↦ λ e. absurd (let l = taken-before xs i lt e in let m = apart (get_or xs i 0) in omega arith)
  | false ↦ λ e. refl
] refl

module _ (f : TriggerData → TriggerData) (old now new : List (Option TriggerData)) (xs : List ℕ) (i : ℕ) (apart : AreApart xs) (lt : i < length xs)
    (each : (s : ℕ) → get_or now s None ≡ edited_in f (take i xs) s (get_or old s None)) where
  -- the next slot wasn't edited yet
  pub still : get_or now (get_or xs i 0) None ≡ get_or old (get_or xs i 0) None
  still = each (get_or xs i 0) ∙ ap (λ b. if b then option_map f (get_or old (get_or xs i 0) None) else get_or old (get_or xs i 0) None) (not-yet xs i apart lt)

  pub edited-more : IsWritten now new (get_or xs i 0) (option_map f (get_or now (get_or xs i 0) None)) → (s : ℕ) → get_or new s None ≡ edited_in f (take (suc i) xs) s (get_or old s None)
  edited-more w s = elim (cases_eq s (get_or xs i 0)) [
    | inl same ↦ (
        let has : has_number s (take (suc i) xs) ≡ true = part-has s 0 (suc i) i xs (omega arith) (omega arith) lt (sym same) in
        ap (λ t. get_or new t None) same ∙ w.changed ∙ ap (option_map f) still ∙ ap (λ t. option_map f (get_or old t None)) (sym same)
        ∙ sym (ap (λ b. if b then option_map f (get_or old s None) else get_or old s None) has)
        )
    | inr differs ↦ w.others s differs ∙ each s ∙ sym (ap (λ b. if b then option_map f (get_or old s None) else get_or old s None) (has-take_more s xs i lt differs))
  ]

pub filled-nth : (slots : List (Option TriggerData)) (xs : List ℕ) (i : ℕ) → AreFilled slots xs → i < length xs → IsSome (get_or slots (get_or xs i 0) None)
filled-nth slots xs i f lt = filled_at slots xs i f lt

pub none-first : (xs : List ℕ) → None ≡ slice_get xs 0 → xs ≡ []
none-first [] e = refl
none-first (x ∷ xs) e = absurd (cc)

pub some-first : (xs : List ℕ) (s : ℕ) → Some s ≡ slice_get xs 0 → (rest : List ℕ) × (xs ≡ s ∷ rest)
some-first [] s e = absurd (cc)
some-first (x ∷ xs) s e = (xs, (let same : x ≡ s = some_same x s (sym e) in ap (λ y. y ∷ xs) same))

pub one-fewer : (xs : List TriggerData) (n : ℕ) (t : TriggerData) → slice_get xs n ≡ Some t → length (remove xs n) + 1 ≡ length xs
one-fewer [] n t at = absurd (cc)
one-fewer (x ∷ xs) zero t at = omega arith
one-fewer (x ∷ xs) (suc n) t at = let e = one-fewer xs n t at in omega arith
