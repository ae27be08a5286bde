-- What the due queue finds is what comes first in due order.
use Rattle.std.proofs.Common.{◌≡◌, ℕ, zero, suc, ◌<◌, ◌⊎◌, ⊎_elim, Bool, true, false, not, List, [], ◌∷◌, length, get_or, filter, refl, sym, ap, subst, ◌∙◌, Option, Some, None, arith, inl, inr, if◌then◌else◌}
use Rattle.std.specs.Prelude.{IfSome, IsSome, option_map, option_and_then, ◌&&◌}
use Rattle.std.specs.List.{AllByRecursion, Contains, slice_get}
use Rattle.std.specs.Ordering.{is_eq, is_gt, is_lt, ordering_reverse, ordering_then, int_cmp, nat_cmp}
use Rattle.std.specs.Cmp.{nat_cmp_is}
use Rattle.std.specs.declared.cmp.Ordering.{Ordering}
use Rattle.std.specs.declared.cmp.Ordering.TheVariants.{Less, Equal, Greater}
use Rattle.std.proofs.lemmas.Bool.{and_parts}
use Rattle.qz_types.specs.Due.{is_waiting, next_cmp, due_cmp, in_due_order, earlier}
use Rattle.qz_types.specs.Rows.{TriggerData}
use Rattle.qz_types.specs.Sorted.{row_of, IsAscending}
use Rattle.qz_types.specs.Words.{key_cmp, trigger_of}
use Rattle.qz_types.specs.declared.keys.Key.{Key}
use Rattle.qz_queue.specs.Order.{AreAscending, AreSlotsApart}
use Rattle.qz_queue.specs.Walk.{is_after, is_wanted}
use Rattle.qz_tables.specs.Due.{is_later, waits_after, waits_and, waiting, waiting_only, due_first, due_next}
use Rattle.qz_tables.specs.DueKeys.{DueData, due_of, queue_cmp, is_sooner, IsInStep, row_in, after_key, rests_or_passes}
use Rattle.qz_tables.proofs.DueLemmas.{first-put}
use Rattle.qz_tables.proofs.DueWalk.{due_total, each_found, passing-waiting}
use Rattle.qz_tables.proofs.Keys.{key_exact, key_itself}
use Rattle.qz_tables.specs.QueueOrder.{both_equal, sooner_less, less_sooner, queue_order}
use Rattle.qz_tables.proofs.SortLaws.{filter-true}
use Rattle.qz_tables.proofs.Steps.{own_key, found_pair}

-- Lists.

module _ {X : Type 0} where
  some_same : (x y : X) → Some x ≡ Some y → x ≡ y
  some_same x y e = cc

  contains_tail : (x y : X) (xs : List X) → Contains xs y → Contains (x ∷ xs) y
  contains_tail x y xs c = (suc c.0, (let l = c.1 in omega arith), c.2)

  -- of each item of a list, found by place
  all_contained : (P : X → Type 0) (xs : List X) → ((x : X) → Contains xs x → P x) → AllByRecursion P xs
  all_contained P [] h = tt
  all_contained P (x ∷ xs) h = (h x (0, omega arith, refl), all_contained P xs (λ y c. h y (contains_tail x y xs c)))

  all_at : (P : X → Type 0) (xs : List X) (x : X) → AllByRecursion P xs → Contains xs x → P x
  all_at P xs x all c = by_place xs all c.0 c.1 c.2
    where
      by_place : (ys : List X) → AllByRecursion P ys → (k : ℕ) → k < length ys → get_or ys k x ≡ x → P x
      by_place [] all k p e = absurd (omega arith)
      by_place (y ∷ ys) all zero p e = subst P e all.0
      by_place (y ∷ ys) all (suc k) p e = by_place ys all.1 k (omega arith) e

-- The first in due order.

earlier-same : (t : TriggerData) (b : Bool) → (if b then t else t) ≡ t
earlier-same t true = refl
earlier-same t false = refl

-- t is the other, or stands before it
abbrev IsFirstOf : TriggerData → TriggerData → Type 0
IsFirstOf t u = (u ≡ t) ⊎ (due_cmp t u ≡ Less)

earlier-first : (t : TriggerData) (o : Option TriggerData) → IfSome o (IsFirstOf t) → earlier t o ≡ t
earlier-first t None h = refl
earlier-first t (Some u) h = elim h [
  | inl same ↦ ap (λ x. if is_gt (due_cmp t x) then x else t) same ∙ earlier-same t (is_gt (due_cmp t t))
  | inr less ↦ rw less refl
]

earlier-later : (t u : TriggerData) → IsFirstOf t u → earlier u (Some t) ≡ t
earlier-later t u h = elim h [
  | inl same ↦ ap (λ x. if is_gt (due_cmp x t) then t else x) same ∙ earlier-same t (is_gt (due_cmp t t))
  | inr less ↦ let turned : due_cmp u t ≡ Greater = due_total.antisymm u t ∙ ap ordering_reverse less in rw turned refl
]

module _ (p : TriggerData → Bool) (t : TriggerData) where
  abbrev AreLater : List TriggerData → Type 0
  AreLater = AllByRecursion (λ u. p u ≡ true → IsFirstOf t u)

  first_later : (rows : List TriggerData) → AreLater rows → IfSome (slice_get (in_due_order (filter p rows)) 0) (IsFirstOf t)
  first_later [] all = tt
  first_later (u ∷ us) all = by_test (p u) refl (first_later us all.1)
    where
      one : (o : Option TriggerData) → IfSome o (IsFirstOf t) → IsFirstOf t u → IsFirstOf t (earlier u o)
      one None h k = k
      one (Some v) h k = elim (is_gt (due_cmp u v)) as (λ b. IsFirstOf t (if b then v else u)) [ true ↦ h | false ↦ k ]

      by_test : (b : Bool) → p u ≡ b → IfSome (slice_get (in_due_order (filter p us)) 0) (IsFirstOf t) → IfSome (slice_get (in_due_order (filter p (u ∷ us))) 0) (IsFirstOf t)
      by_test true e h = rw (e, first-put u (in_due_order (filter p us))) (one (slice_get (in_due_order (filter p us)) 0) h (all.0 e))
      by_test false e h = rw e h

  -- one that passes, and stands before each other that does, is the first
  pub least_first : (rows : List TriggerData) → Contains rows t → p t ≡ true → AreLater rows → slice_get (in_due_order (filter p rows)) 0 ≡ Some t
  least_first rows c passes all = by_place rows c.0 c.1 c.2 all
    where
      by_place : (us : List TriggerData) (k : ℕ) → k < length us → get_or us k t ≡ t → AreLater us → slice_get (in_due_order (filter p us)) 0 ≡ Some t
      by_place [] k l e all = absurd (omega arith)
      by_place (u ∷ us) zero l e all =
          let one : earlier t (slice_get (in_due_order (filter p us)) 0) ≡ t = earlier-first t (slice_get (in_due_order (filter p us)) 0) (first_later us all.1) in
          rw (e, passes, first-put t (in_due_order (filter p us)), one) refl
      by_place (u ∷ us) (suc k) l e all = by_test (p u) refl (by_place us k (omega arith) e all.1)
        where
          by_test : (b : Bool) → p u ≡ b → slice_get (in_due_order (filter p us)) 0 ≡ Some t → slice_get (in_due_order (filter p (u ∷ us))) 0 ≡ Some t
          by_test true q h = rw (q, first-put u (in_due_order (filter p us)), h, earlier-later t u (all.0 q)) refl
          by_test false q h = rw q h

pub none_first : (p : TriggerData → Bool) (rows : List TriggerData) → AllByRecursion (λ u. p u ≡ false) rows → slice_get (in_due_order (filter p rows)) 0 ≡ None
none_first p [] all = refl
none_first p (u ∷ us) all = rw all.0 (none_first p us all.1)

-- The first of the pairs that pass.

module _ {K : Type 0} (before : K → K → Bool) (P : K × ℕ → Bool) where
  pub record IsFirstPair (pairs : List (K × ℕ)) (x : K × ℕ) : Type 0 where
    pub held : Contains pairs x
    pub passes : P x ≡ true
    pub first : (y : K × ℕ) → Contains pairs y → P y ≡ true → (y ≡ x) ⊎ (before x.0 y.0 ≡ true)

  pub first_pair : (pairs : List (K × ℕ)) (x : K × ℕ) → AreAscending before pairs → slice_get (filter P pairs) 0 ≡ Some x → IsFirstPair pairs x
  first_pair [] x up e = absurd (cc)
  first_pair (y ∷ ys) x up e = by_test (P y) refl (first_pair ys x (λ i j d a b. up (suc i) (suc j) d (omega arith) (omega arith)))
    where
      later : (z : K × ℕ) (k : ℕ) → k < length (y ∷ ys) → get_or (y ∷ ys) k z ≡ z → (z ≡ y) ⊎ (before y.0 z.0 ≡ true)
      later z zero p h = inl (sym h)
      later z (suc k) p h = inr (subst (λ (w : K × ℕ). before y.0 w.0 ≡ true) h (up 0 (suc k) z (omega arith) p))

      rest : (z : K × ℕ) (k : ℕ) → k < length (y ∷ ys) → get_or (y ∷ ys) k z ≡ z → (z ≡ y) ⊎ Contains ys z
      rest z zero p h = inl (sym h)
      rest z (suc k) p h = inr (k, omega arith, h)

      by_test : (b : Bool) → P y ≡ b → (slice_get (filter P ys) 0 ≡ Some x → IsFirstPair ys x) → IsFirstPair (y ∷ ys) x
      by_test true t more =
          let same : y ≡ x = some_same y x (subst (λ (b : Bool). slice_get (if b then y ∷ filter P ys else filter P ys) 0 ≡ Some x) t e) in
          subst (IsFirstPair (y ∷ ys)) same (record {
            held = (0, omega arith, refl);
            passes = t;
            first = λ z c q. later z c.0 c.1 c.2;
          })
      by_test false t more =
          let h = more (subst (λ (b : Bool). slice_get (if b then y ∷ filter P ys else filter P ys) 0 ≡ Some x) t e) in
          record {
            held = contains_tail y x ys h.held;
            passes = h.passes;
            first = λ z c q. ⊎_elim
                (λ (w : z ≡ y). let a : P z ≡ false = subst (λ (v : K × ℕ). P v ≡ false) (sym w) t in absurd (cc))
                (λ (w : Contains ys z). h.first z w q)
                (rest z c.0 c.1 c.2);
          }

  pub no_pair : (pairs : List (K × ℕ)) (y : K × ℕ) → slice_get (filter P pairs) 0 ≡ None → Contains pairs y → P y ≡ true → ⊥
  no_pair pairs y e c q = by_place pairs e c.0 c.1 c.2
    where
      by_place : (zs : List (K × ℕ)) → slice_get (filter P zs) 0 ≡ None → (k : ℕ) → k < length zs → get_or zs k y ≡ y → ⊥
      by_place [] e k p h = omega arith
      by_place (z ∷ zs) e zero p h =
          let t : P z ≡ true = subst (λ (v : K × ℕ). P v ≡ true) (sym h) q in
          let f : slice_get (if true then z ∷ filter P zs else filter P zs) 0 ≡ None = subst (λ (b : Bool). slice_get (if b then z ∷ filter P zs else filter P zs) 0 ≡ None) t e in
          absurd (cc)
      by_place (z ∷ zs) e (suc k) p h = by_place zs (rest (P z) e) k (omega arith) h
        where
          rest : (b : Bool) → slice_get (if b then z ∷ filter P zs else filter P zs) 0 ≡ None → slice_get (filter P zs) 0 ≡ None
          rest true f = absurd (cc)
          rest false f = f

-- Rows and their slots.

pub record AreSlotted (rows : List TriggerData) (slots : List (Option TriggerData)) : Type 0 where
  pub ascending : IsAscending key_cmp (λ (r : TriggerData). r.spec.key) rows
  pub whole : (s : ℕ) (r : TriggerData) → get_or slots s None ≡ Some r → row_of key_cmp (λ (r : TriggerData). r.spec.key) r.spec.key rows ≡ Some r
  pub apart : (s t : ℕ) (r q : TriggerData) → get_or slots s None ≡ Some r → get_or slots t None ≡ Some q → is_eq (key_cmp r.spec.key q.spec.key) ≡ true → s ≡ t
  pub listed : (k : Key) (r : TriggerData) → row_of key_cmp (λ (r : TriggerData). r.spec.key) k rows ≡ Some r → (s : ℕ) × (get_or slots s None ≡ Some r)

row_held : (rows : List TriggerData) (k : Key) (r : TriggerData) → row_of key_cmp (λ (r : TriggerData). r.spec.key) k rows ≡ Some r → Contains rows r
row_held [] k r e = absurd (cc)
row_held (x ∷ xs) k r e = by_test (is_eq (key_cmp k x.spec.key)) e (row_held xs k r)
  where
    by_test : (b : Bool) → (if b then Some x else row_of key_cmp (λ (r : TriggerData). r.spec.key) k xs) ≡ Some r → (row_of key_cmp (λ (r : TriggerData). r.spec.key) k xs ≡ Some r → Contains xs r) → Contains (x ∷ xs) r
    by_test true h more = (0, omega arith, some_same x r h)
    by_test false h more = contains_tail x r xs (more h)

module _ (rows : List TriggerData) (slots : List (Option TriggerData)) (laws : AreSlotted rows slots) where
  held_slot : (r : TriggerData) → Contains rows r → (s : ℕ) × (get_or slots s None ≡ Some r)
  held_slot r c = laws.listed r.spec.key r (all_at (λ (u : TriggerData). row_of key_cmp (λ (t : TriggerData). t.spec.key) u.spec.key rows ≡ Some u) rows r (each_found rows laws.ascending) c)

  slot_held : (s : ℕ) (r : TriggerData) → get_or slots s None ≡ Some r → Contains rows r
  slot_held s r e = row_held rows r.spec.key r (laws.whole s r e)

  -- two rows of one key are one row, in one slot
  same_row : (s t : ℕ) (r q : TriggerData) → get_or slots s None ≡ Some r → get_or slots t None ≡ Some q → r.spec.key ≡ q.spec.key → (s ≡ t) × (r ≡ q)
  same_row s t r q e f k =
      let slot = laws.apart s t r q e f (subst (λ (x : Key). is_eq (key_cmp r.spec.key x) ≡ true) k (key_itself r.spec.key)) in
      (slot, some_same r q (sym e ∙ ap (λ (x : ℕ). get_or slots x None) slot ∙ f))

-- The order of the queue and the due order.

tie_key : (t u : TriggerData) → due_cmp t u ≡ Equal → t.spec.key ≡ u.spec.key
unfolding due_cmp
tie_key t u e =
    let timed = both_equal (next_cmp t.next u.next) _ e in
    let ranked = both_equal (int_cmp u.spec.priority t.spec.priority) (key_cmp t.spec.key u.spec.key) timed.1 in
    key_exact t.spec.key u.spec.key (ap is_eq ranked.1)

then_apart : (a b c d : Ordering) → ordering_then (ordering_then a b) (ordering_then c d) ≡ ordering_then (ordering_then a (ordering_then b c)) d
then_apart Less b c d = refl
then_apart Equal Less c d = refl
then_apart Equal Equal c d = refl
then_apart Equal Greater c d = refl
then_apart Greater b c d = refl

-- of two that are both taken as waiting
pub as_due : (s t : ℕ) (a b : TriggerData) → queue_cmp (record (due_of s a) { rests = false }) (record (due_of t b) { rests = false }) ≡ ordering_then (due_cmp a b) (nat_cmp s t)
unfolding due_cmp
as_due s t a b = then_apart (next_cmp a.next b.next) (int_cmp b.spec.priority a.spec.priority) (key_cmp a.spec.key b.spec.key) (nat_cmp s t)

waits_is : (s : ℕ) (t : TriggerData) → is_waiting t.state ≡ true → due_of s t ≡ record (due_of s t) { rests = false }
waits_is s t e = ap (λ b. record (due_of s t) { rests = not b }) e

less_then : (o p : Ordering) → ordering_then o p ≡ Less → (o ≡ Less) ⊎ (o ≡ Equal)
less_then Less p e = inl refl
less_then Equal p e = inr refl
less_then Greater p e = absurd (cc)

rests_later : (s t : ℕ) (a b : TriggerData) → is_waiting a.state ≡ true → is_waiting b.state ≡ false → is_sooner (due_of s a) (due_of t b) ≡ true
rests_later s t a b w r = less_sooner (due_of s a) (due_of t b) (rw (w, r) refl)

module _ (rows : List TriggerData) (slots : List (Option TriggerData)) (pairs : List (DueData × ℕ)) (laws : AreSlotted rows slots) (step : IsInStep slots pairs) (up : AreAscending is_sooner pairs) (apart : AreSlotsApart pairs)
    (P : DueData × ℕ → Bool) (p : TriggerData → Bool)
    (waits : (r : TriggerData) → p r ≡ true → is_waiting r.state ≡ true)
    (tells : (s : ℕ) (r : TriggerData) → get_or slots s None ≡ Some r → is_waiting r.state ≡ true → P (due_of s r, s) ≡ p r) where
  pair_of : (s : ℕ) (r : TriggerData) → get_or slots s None ≡ Some r → Contains pairs (due_of s r, s)
  pair_of s r e = found_pair pairs s (due_of s r) (step.each s ∙ ap (option_map (due_of s)) e)

  pair_is : (x : DueData × ℕ) (r : TriggerData) → Contains pairs x → get_or slots x.1 None ≡ Some r → x.0 ≡ due_of x.1 r
  pair_is x r c e = some_same x.0 (due_of x.1 r) (sym (own_key pairs x apart c) ∙ step.each x.1 ∙ ap (option_map (due_of x.1)) e)

  -- each row that passes is that of the first pair, or later
  after_first : (x : DueData × ℕ) (r q : TriggerData) (t : ℕ) → IsFirstPair is_sooner P pairs x → get_or slots x.1 None ≡ Some r → get_or slots t None ≡ Some q → p q ≡ true → (q ≡ r) ⊎ (is_sooner (due_of x.1 r) (due_of t q) ≡ true)
  after_first x r q t h e f passes = ⊎_elim
      (λ (same : (due_of t q, t) ≡ x). inl (some_same q r (sym f ∙ ap (λ (y : DueData × ℕ). get_or slots y.1 None) same ∙ e)))
      (λ (less : is_sooner x.0 (due_of t q) ≡ true). inr (subst (λ (d : DueData). is_sooner d (due_of t q) ≡ true) (pair_is x r h.held e) less))
      (h.first (due_of t q, t) (pair_of t q f) (tells t q f (waits q passes) ∙ passes))

  pub found_waits : (x : DueData × ℕ) (r : TriggerData) → slice_get (filter P pairs) 0 ≡ Some x → get_or slots x.1 None ≡ Some r → is_waiting r.state ≡ true → slice_get (in_due_order (filter p rows)) 0 ≡ Some r
  found_waits x r e f w =
      let h = first_pair is_sooner P pairs x up e in
      let passes : p r ≡ true = sym (tells x.1 r f w) ∙ ap (λ (d : DueData). P (d, x.1)) (sym (pair_is x r h.held f)) ∙ h.passes in
      least_first p r rows (slot_held rows slots laws x.1 r f) passes (all_contained (λ (u : TriggerData). p u ≡ true → IsFirstOf r u) rows (λ q c ok.
      let there = held_slot rows slots laws q c in
      ⊎_elim
      (λ (same : q ≡ r). inl same)
      (λ (less : is_sooner (due_of x.1 r) (due_of there.0 q) ≡ true). sooner_due x.1 there.0 r q f there.1 w (waits q ok) less)
      (after_first x r q there.0 h f there.1 ok)))
    where
      sooner_due : (s t : ℕ) (a b : TriggerData) → get_or slots s None ≡ Some a → get_or slots t None ≡ Some b → is_waiting a.state ≡ true → is_waiting b.state ≡ true → is_sooner (due_of s a) (due_of t b) ≡ true → IsFirstOf a b
      sooner_due s t a b e f w v less =
          let o : ordering_then (due_cmp a b) (nat_cmp s t) ≡ Less = sym (as_due s t a b) ∙ ap (λ d. queue_cmp d (record (due_of t b) { rests = false })) (sym (waits_is s a w)) ∙ ap (queue_cmp (due_of s a)) (sym (waits_is t b v)) ∙ sooner_less (due_of s a) (due_of t b) less in
          ⊎_elim
          (λ (l : due_cmp a b ≡ Less). inr l)
          (λ (tie : due_cmp a b ≡ Equal). inl (sym (same_row rows slots laws s t a b e f (tie_key a b tie)).1))
          (less_then (due_cmp a b) (nat_cmp s t) o)

  pub found_rests : (x : DueData × ℕ) (r : TriggerData) → slice_get (filter P pairs) 0 ≡ Some x → get_or slots x.1 None ≡ Some r → is_waiting r.state ≡ false → slice_get (in_due_order (filter p rows)) 0 ≡ None
  found_rests x r e f w =
      let h = first_pair is_sooner P pairs x up e in
      none_first p rows (all_contained (λ (u : TriggerData). p u ≡ false) rows (λ q c. by_test q c h (p q) refl))
    where
      by_test : (q : TriggerData) → Contains rows q → IsFirstPair is_sooner P pairs x → (b : Bool) → p q ≡ b → p q ≡ false
      by_test q c h false t = t
      by_test q c h true t =
          let there = held_slot rows slots laws q c in
          let v = waits q t in
          absurd (⊎_elim
          (λ (same : q ≡ r). let a : is_waiting r.state ≡ true = subst (λ (u : TriggerData). is_waiting u.state ≡ true) same v in cc)
          (λ (less : is_sooner (due_of x.1 r) (due_of there.0 q) ≡ true). let back : is_sooner (due_of x.1 r) (due_of there.0 q) ≡ false = queue_order.one_way (due_of there.0 q) (due_of x.1 r) (rests_later there.0 x.1 q r v w) in cc)
          (after_first x r q there.0 h f there.1 t))

  pub found_none : slice_get (filter P pairs) 0 ≡ None → slice_get (in_due_order (filter p rows)) 0 ≡ None
  found_none e = none_first p rows (all_contained (λ (u : TriggerData). p u ≡ false) rows (λ q c. by_test q c (p q) refl))
    where
      by_test : (q : TriggerData) → Contains rows q → (b : Bool) → p q ≡ b → p q ≡ false
      by_test q c false t = t
      by_test q c true t =
          let there = held_slot rows slots laws q c in
          absurd (no_pair is_sooner P pairs (due_of there.0 q, there.0) e (pair_of there.0 q there.1) (tells there.0 q there.1 (waits q t) ∙ t))

-- What stands in a slot that the queue found.

slot_filled : (slots : List (Option TriggerData)) (pairs : List (DueData × ℕ)) (x : DueData × ℕ) → IsInStep slots pairs → AreSlotsApart pairs → Contains pairs x → (r : TriggerData) × (get_or slots x.1 None ≡ Some r)
slot_filled slots pairs x step apart c = by_row (get_or slots x.1 None) refl (sym (own_key pairs x apart c) ∙ step.each x.1)
  where
    by_row : (o : Option TriggerData) → get_or slots x.1 None ≡ o → Some x.0 ≡ option_map (due_of x.1) (get_or slots x.1 None) → (r : TriggerData) × (get_or slots x.1 None ≡ Some r)
    by_row None e h = absurd (let none : option_map (due_of x.1) (get_or slots x.1 None) ≡ None = ap (option_map (due_of x.1)) e in let both : Some x.0 ≡ None = h ∙ none in cc)
    by_row (Some r) e h = (r, e)

only_if : (b : Bool) (r : TriggerData) (o : Option TriggerData) → (b ≡ true → o ≡ Some r) → (b ≡ false → o ≡ None) → (if b then Some r else None) ≡ o
only_if true r o f g = sym (f refl)
only_if false r o f g = sym (g refl)

module _ (rows : List TriggerData) (slots : List (Option TriggerData)) (pairs : List (DueData × ℕ)) (laws : AreSlotted rows slots) (step : IsInStep slots pairs) (up : AreAscending is_sooner pairs) (apart : AreSlotsApart pairs) where
  module _ (P : DueData × ℕ → Bool) (p : TriggerData → Bool)
      (waits : (r : TriggerData) → p r ≡ true → is_waiting r.state ≡ true)
      (tells : (s : ℕ) (r : TriggerData) → get_or slots s None ≡ Some r → is_waiting r.state ≡ true → P (due_of s r, s) ≡ p r) where
    found_is : (x : DueData × ℕ) → slice_get (filter P pairs) 0 ≡ Some x → waiting_only (get_or slots x.1 None) ≡ slice_get (in_due_order (filter p rows)) 0
    found_is x e =
        let r = slot_filled slots pairs x step apart (first_pair is_sooner P pairs x up e).held in
        rw r.1 (only_if (is_waiting r.0.state) r.0 (slice_get (in_due_order (filter p rows)) 0)
        (λ w. found_waits rows slots pairs laws step up apart P p waits tells x r.0 e r.1 w)
        (λ w. found_rests rows slots pairs laws step up apart P p waits tells x r.0 e r.1 w))

  -- Of two that wait, one in a slot and another: the queue's order says which comes after.
  module _ (s : ℕ) (t : TriggerData) (here : get_or slots s None ≡ Some t) where
    abbrev Later : DueData × ℕ → Bool
    Later y = is_sooner (record (due_of s t) { rests = false }) y.0

    turned_test : (o p : Ordering) → (o ≡ Equal → p ≡ Equal) → is_lt (ordering_then o p) ≡ is_gt (ordering_reverse o)
    turned_test Less p h = refl
    turned_test Equal p h = ap is_lt (h refl)
    turned_test Greater p h = refl

    next_tells : (u : ℕ) (r : TriggerData) → get_or slots u None ≡ Some r → is_waiting r.state ≡ true → Later (due_of u r, u) ≡ waits_after (Some t) r
    unfolding is_sooner
    next_tells u r e w =
        let slots_tie : due_cmp t r ≡ Equal → nat_cmp s u ≡ Equal = λ tie. sym (nat_cmp_is s u Equal (same_row rows slots laws s u t r here e (tie_key t r tie)).0) in
        let one : is_lt (queue_cmp (record (due_of s t) { rests = false }) (due_of u r)) ≡ is_lt (ordering_then (due_cmp t r) (nat_cmp s u)) = ap is_lt (ap (queue_cmp (record (due_of s t) { rests = false })) (waits_is u r w) ∙ as_due s u t r) in
        one ∙ turned_test (due_cmp t r) (nat_cmp s u) slots_tie ∙ ap is_gt (sym (due_total.antisymm r t)) ∙ sym (ap (λ b. b && is_gt (due_cmp r t)) w)

  module _ (test : TriggerData → Bool) where
    key_tells : (after : Option ℕ) → IfSome after (λ a. IsSome (get_or slots a None)) → (s : ℕ) (r : TriggerData) → get_or slots s None ≡ Some r → is_waiting r.state ≡ true → is_after is_sooner (after_key slots after) (due_of s r) ≡ waits_after (row_in slots after) r
    key_tells None filled s r e w = rw w refl
    key_tells (Some a) filled s r e w = by_row (get_or slots a None) refl filled
      where
        by_row : (o : Option TriggerData) → get_or slots a None ≡ o → IsSome o → is_after is_sooner (option_map (λ t. record (due_of a t) { rests = false }) (get_or slots a None)) (due_of s r) ≡ waits_after (get_or slots a None) r
        by_row None h filled = absurd (cc)
        by_row (Some t) h filled = rw h (next_tells a t h s r e w)

    row_tells : (s : ℕ) (r : TriggerData) → get_or slots s None ≡ Some r → is_waiting r.state ≡ true → rests_or_passes test (get_or slots s None) ≡ test r
    row_tells s r e w = rw (e, w) refl

    both_waits : (after : Option TriggerData) (r : TriggerData) → waits_and after test r ≡ true → is_waiting r.state ≡ true
    both_waits after r e = (and_parts (is_waiting r.state) (is_later after r) (and_parts (waits_after after r) (test r) e).0).0

    module _ (after : Option ℕ) (filled : IfSome after (λ a. IsSome (get_or slots a None))) (due : Option DueData) (key : due ≡ after_key slots after) where
      abbrev Wanted : DueData × ℕ → Bool
      Wanted = is_wanted is_sooner (λ s. rests_or_passes test (get_or slots s None)) due

      tells : (s : ℕ) (r : TriggerData) → get_or slots s None ≡ Some r → is_waiting r.state ≡ true → Wanted (due_of s r, s) ≡ waits_and (row_in slots after) test r
      tells s r e w = rw (key, key_tells after filled s r e w, row_tells s r e w) refl

      in_order_is : slice_get (in_due_order (filter (waits_and (row_in slots after) test) rows)) 0 ≡ slice_get (filter test (waiting (row_in slots after) rows)) 0
      in_order_is = ap (λ ts. slice_get ts 0) (sym (passing-waiting (row_in slots after) test rows laws.ascending))

      pub next_found : (x : DueData × ℕ) → Some x ≡ slice_get (filter Wanted pairs) 0 → waiting_only (get_or slots x.1 None) ≡ slice_get (filter test (waiting (row_in slots after) rows)) 0
      next_found x e = found_is Wanted (waits_and (row_in slots after) test) (both_waits (row_in slots after)) tells x (sym e) ∙ in_order_is

      pub next_none : None ≡ slice_get (filter Wanted pairs) 0 → None ≡ slice_get (filter test (waiting (row_in slots after) rows)) 0
      next_none e = sym (found_none rows slots pairs laws step up apart Wanted (waits_and (row_in slots after) test) (both_waits (row_in slots after)) tells (sym e)) ∙ in_order_is

-- What comes after the trigger of a key, which is stored or not.

pub next_begins : (rows : List TriggerData) (p : TriggerData → Bool) (after : Option Key) (result : Option TriggerData) → after ≡ None → result ≡ slice_get (filter p (waiting None rows)) 0 → result ≡ due_next after p rows
unfolding due_next
next_begins rows p after result none h = h ∙ ap (λ o. due_next o p rows) (sym none)

pub next_stored : (rows : List TriggerData) (k : Key) (p : TriggerData → Bool) (o result : Option TriggerData) → o ≡ row_of key_cmp (λ (r : TriggerData). r.spec.key) k rows → IsSome o → result ≡ slice_get (filter p (waiting o rows)) 0 → result ≡ due_next (Some k) p rows
unfolding due_next trigger_of
next_stored rows k p None result e f h = absurd (cc)
next_stored rows k p (Some t) result e f h = h ∙ ap (option_and_then (λ (u : TriggerData). slice_get (filter p (waiting (Some u) rows)) 0)) e

pub next_missing : (rows : List TriggerData) (k : Key) (p : TriggerData → Bool) → row_of key_cmp (λ (r : TriggerData). r.spec.key) k rows ≡ None → None ≡ due_next (Some k) p rows
unfolding due_next trigger_of
next_missing rows k p e = sym (ap (option_and_then (λ (u : TriggerData). slice_get (filter p (waiting (Some u) rows)) 0)) e)

-- where each passes
pub any_first : (rows : List TriggerData) → due_next None (λ _. true) rows ≡ due_first rows
unfolding due_next due_first
any_first rows = ap (λ ts. slice_get ts 0) (filter-true (waiting None rows))
