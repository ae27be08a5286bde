-- Lists that are changed or filtered place by place.
use Rattle.std.proofs.Common.{◌≡◌, ℕ, zero, suc, ◌+◌, ◌-◌, ◌<◌, ◌≤◌, List, [], ◌∷◌, length, map, filter, cond, not, set, Bool, true, false, if◌then◌else◌, Some, refl, sym, ap, ◌∙◌, arith}
use Rattle.std.specs.Prelude.{IfSome}
use Rattle.std.specs.List.{remove, slice_get}
use Rattle.qz_types.specs.Changes.{with_state, with_states}
use Rattle.qz_types.specs.Rows.{TriggerData}
use Rattle.qz_types.specs.declared.triggers.TriggerState.{TriggerState}
use Rattle.qz_tables.specs.Changes.{changed_nth, changed_first}

module _ {R : Type 0} where
  some_same : (x y : R) → Some x ≡ Some y → x ≡ y
  some_same x y e = cc

  -- ---- changes

  pub changed-set : (f : R → R) (xs : List R) (n : ℕ) (r : R) → slice_get xs n ≡ Some r → set xs n (f r) ≡ changed_nth f n xs
  changed-set f [] n r e = absurd (cc)
  changed-set f (x ∷ xs) zero r e = ap (λ y. f y ∷ xs) (sym (some_same x r e))
  changed-set f (x ∷ xs) (suc n) r e = ap (λ ys. x ∷ ys) (changed-set f xs n r e)

  -- a change is known by what it makes of the row there
  pub changed-alike : (f g : R → R) (xs : List R) (n : ℕ) (r : R) → slice_get xs n ≡ Some r → f r ≡ g r → changed_nth f n xs ≡ changed_nth g n xs
  changed-alike f g [] n r at e = absurd (cc)
  changed-alike f g (x ∷ xs) zero r at e = let same = some_same x r at in rw (same, e) refl
  changed-alike f g (x ∷ xs) (suc n) r at e = ap (λ ys. x ∷ ys) (changed-alike f g xs n r at e)

  pub first-more : (f : R → R) (xs : List R) (n : ℕ) → changed_nth f n (changed_first f n xs) ≡ changed_first f (suc n) xs
  first-more f [] zero = refl
  first-more f [] (suc n) = refl
  first-more f (x ∷ xs) zero = refl
  first-more f (x ∷ xs) (suc n) = ap (λ ys. f x ∷ ys) (first-more f xs n)

  pub first-same : (f : R → R) (xs : List R) (n : ℕ) (r : R) → slice_get xs n ≡ Some r → f r ≡ r → changed_first f n xs ≡ changed_first f (suc n) xs
  first-same f [] n r at e = absurd (cc)
  first-same f (x ∷ xs) zero r at e = let same = some_same x r at in rw (same, e) refl
  first-same f (x ∷ xs) (suc n) r at e = ap (λ ys. f x ∷ ys) (first-same f xs n r at e)

  pub first-nth : (f : R → R) (xs : List R) (n : ℕ) → slice_get (changed_first f n xs) n ≡ slice_get xs n
  first-nth f [] zero = refl
  first-nth f [] (suc n) = refl
  first-nth f (x ∷ xs) zero = refl
  first-nth f (x ∷ xs) (suc n) = first-nth f xs n

  pub first-length : (f : R → R) (xs : List R) (n : ℕ) → length (changed_first f n xs) ≡ length xs
  first-length f xs zero = refl
  first-length f [] (suc n) = refl
  first-length f (x ∷ xs) (suc n) = ap suc (first-length f xs n)

  pub first-all : (f : R → R) (xs : List R) → changed_first f (length xs) xs ≡ map f xs
  first-all f [] = refl
  first-all f (x ∷ xs) = ap (λ ys. f x ∷ ys) (first-all f xs)

  -- ---- filters

  -- the items, of which those from a place on are filtered
  abbrev pub filtered_from : (R → Bool) → ℕ → List R → List R
  filtered_from p zero xs = filter p xs
  filtered_from p (suc n) [] = []
  filtered_from p (suc n) (x ∷ xs) = x ∷ filtered_from p n xs

  pub from-end : (p : R → Bool) (xs : List R) → filtered_from p (length xs) xs ≡ xs
  from-end p [] = refl
  from-end p (x ∷ xs) = ap (λ ys. x ∷ ys) (from-end p xs)

  pub from-stays : (p : R → Bool) (xs : List R) (n : ℕ) (r : R) → slice_get xs n ≡ Some r → p r ≡ true → filtered_from p (suc n) xs ≡ filtered_from p n xs
  from-stays p [] n r at e = absurd (cc)
  from-stays p (x ∷ xs) zero r at e = let same = some_same x r at in rw (same, e) refl
  from-stays p (x ∷ xs) (suc n) r at e = ap (λ ys. x ∷ ys) (from-stays p xs n r at e)

  pub from-goes : (p : R → Bool) (xs : List R) (n : ℕ) (r : R) → slice_get xs n ≡ Some r → p r ≡ false → remove (filtered_from p (suc n) xs) n ≡ filtered_from p n xs
  from-goes p [] n r at e = absurd (cc)
  from-goes p (x ∷ xs) zero r at e = let same = some_same x r at in rw (same, e) refl
  from-goes p (x ∷ xs) (suc n) r at e = ap (λ ys. x ∷ ys) (from-goes p xs n r at e)

  pub from-nth : (p : R → Bool) (xs : List R) (n : ℕ) → slice_get (filtered_from p (suc n) xs) n ≡ slice_get xs n
  from-nth p [] zero = refl
  from-nth p [] (suc n) = refl
  from-nth p (x ∷ xs) zero = refl
  from-nth p (x ∷ xs) (suc n) = from-nth p xs n

  pub from-length : (p : R → Bool) (xs : List R) (n : ℕ) → n < length xs → n < length (filtered_from p (suc n) xs)
  from-length p [] n lt = absurd (omega arith)
  from-length p (x ∷ xs) zero lt = omega arith
  from-length p (x ∷ xs) (suc n) lt = let l = from-length p xs n (omega arith) in omega arith

  -- each item passes or not
  pub both-lengths : (p : R → Bool) (xs : List R) → length (filter p xs) + length (filter (λ x. not (p x)) xs) ≡ length xs
  both-lengths p [] = refl
  both-lengths p (x ∷ xs) = elim (p x) as (λ b. length (cond b (x ∷ filter p xs) (filter p xs)) + length (cond (not b) (x ∷ filter (λ y. not (p y)) xs) (filter (λ y. not (p y)) xs)) ≡ suc (length xs)) [
    | true ↦ omega (arith, both-lengths p xs)
    | false ↦ omega (arith, both-lengths p xs)
  ]

  -- how many are left where those that pass are taken out
  pub fewer : (p : R → Bool) (xs : List R) (n m : ℕ) → n ≡ length xs → m ≡ length (filter (λ x. not (p x)) xs) → m ≤ n
  fewer p xs n m e f = omega (arith, e, f, both-lengths p xs)

  pub taken : (p : R → Bool) (xs : List R) (n m : ℕ) → n ≡ length xs → m ≡ length (filter (λ x. not (p x)) xs) → n - m ≡ length (filter p xs)
  taken p xs n m e f = omega (arith, e, f, both-lengths p xs)

  pub there : (xs : List R) (n : ℕ) → n < length xs → (r : R) × (slice_get xs n ≡ Some r)
  there [] n lt = absurd (omega arith)
  there (x ∷ xs) zero lt = (x, refl)
  there (x ∷ xs) (suc n) lt = there xs n (omega arith)

  -- one step of a loop that takes out the items that pass, from the last one down
  here : (t : R → Bool) (xs ys : List R) (n m : ℕ) → n ≡ suc m → ys ≡ filtered_from (λ r. not (t r)) n xs → ys ≡ filtered_from (λ r. not (t r)) (suc m) xs
  here t xs ys n m is e = e ∙ ap (λ k. filtered_from (λ r. not (t r)) k xs) is

  known : (ys : List R) (n : ℕ) (r : R) (t : R → Bool) (b : Bool) → slice_get ys n ≡ Some r → IfSome (slice_get ys n) (λ x. b ≡ t x) → t r ≡ b
  known ys n r t b e h = sym (rw e at h)

  pub known_at : (ys : List R) (n : ℕ) (r : R) (t : R → Bool) (b : Bool) → Some r ≡ slice_get ys n → IfSome (slice_get ys n) (λ x. b ≡ t x) → t r ≡ b
  known_at ys n r t b e h = known ys n r t b (sym e) h

  pub stays : (t : R → Bool) (xs ys : List R) (n m : ℕ) → n ≡ suc m → m < length xs → ys ≡ filtered_from (λ r. not (t r)) n xs
      → IfSome (slice_get ys m) (λ r. false ≡ t r) → ys ≡ filtered_from (λ r. not (t r)) m xs
  stays t xs ys n m is lt e h =
      let at = there xs m lt in
      let e1 = here t xs ys n m is e in
      let there_too : slice_get ys m ≡ Some at.0 = ap (λ zs. slice_get zs m) e1 ∙ from-nth (λ r. not (t r)) xs m ∙ at.1 in
      e1 ∙ from-stays (λ r. not (t r)) xs m at.0 at.1 (ap not (known ys m at.0 t false there_too h))

  pub goes : (t : R → Bool) (xs ys : List R) (n m : ℕ) → n ≡ suc m → m < length xs → ys ≡ filtered_from (λ r. not (t r)) n xs
      → IfSome (slice_get ys m) (λ r. true ≡ t r) → remove ys m ≡ filtered_from (λ r. not (t r)) m xs
  goes t xs ys n m is lt e h =
      let at = there xs m lt in
      let e1 = here t xs ys n m is e in
      let there_too : slice_get ys m ≡ Some at.0 = ap (λ zs. slice_get zs m) e1 ∙ from-nth (λ r. not (t r)) xs m ∙ at.1 in
      ap (λ zs. remove zs m) e1 ∙ from-goes (λ r. not (t r)) xs m at.0 at.1 (ap not (known ys m at.0 t true there_too h))

  pub goes-within : (t : R → Bool) (xs ys : List R) (n m : ℕ) → n ≡ suc m → m < length xs → ys ≡ filtered_from (λ r. not (t r)) n xs → m < length ys
  goes-within t xs ys n m is lt e = rw (here t xs ys n m is e) (from-length (λ r. not (t r)) xs m lt)

-- ---- triggers that pass

-- what the change of those that pass makes of a trigger
abbrev pub changed_if : (TriggerState → TriggerState) → (TriggerData → Bool) → TriggerData → TriggerData
changed_if change passes t = if passes t then with_state change t else t

pub all-states : (change : TriggerState → TriggerState) (passes : TriggerData → Bool) (xs : List TriggerData) → changed_first (changed_if change passes) (length xs) xs ≡ with_states change passes xs
unfolding with_states
all-states change passes xs = first-all (changed_if change passes) xs

module _ (change : TriggerState → TriggerState) (passes : TriggerData → Bool) where
  if_true : (r : TriggerData) → passes r ≡ true → with_state change r ≡ changed_if change passes r
  if_true r e = rw e refl

  if_false : (r : TriggerData) → passes r ≡ false → changed_if change passes r ≡ r
  if_false r e = rw e refl

  -- one step of a loop that changes the triggers that pass
  pub more-changed : (xs ys zs : List TriggerData) (n : ℕ) → n < length xs → ys ≡ changed_first (changed_if change passes) n xs
      → IfSome (slice_get ys n) (λ r. true ≡ passes r) → zs ≡ changed_nth (with_state change) n ys → zs ≡ changed_first (changed_if change passes) (suc n) xs
  more-changed xs ys zs n lt e h is =
      let at = there xs n lt in
      let there_too : slice_get ys n ≡ Some at.0 = ap (λ l. slice_get l n) e ∙ first-nth (changed_if change passes) xs n ∙ at.1 in
      is ∙ changed-alike (with_state change) (changed_if change passes) ys n at.0 there_too (if_true at.0 (known ys n at.0 passes true there_too h))
      ∙ ap (changed_nth (changed_if change passes) n) e ∙ first-more (changed_if change passes) xs n

  pub more-same : (xs ys : List TriggerData) (n : ℕ) → n < length xs → ys ≡ changed_first (changed_if change passes) n xs
      → IfSome (slice_get ys n) (λ r. false ≡ passes r) → ys ≡ changed_first (changed_if change passes) (suc n) xs
  more-same xs ys n lt e h =
      let at = there xs n lt in
      let there_too : slice_get ys n ≡ Some at.0 = ap (λ l. slice_get l n) e ∙ first-nth (changed_if change passes) xs n ∙ at.1 in
      e ∙ first-same (changed_if change passes) xs n at.0 at.1 (if_false at.0 (known ys n at.0 passes false there_too h))
