-- The due queue stays in step with the rows.
use Rattle.std.proofs.Common.{◌≡◌, ◌≢◌, ℕ, zero, suc, ◌<◌, Bool, true, false, List, [], ◌∷◌, length, get_or, refl, sym, ap, subst, ◌∙◌, Option, Some, None, arith, inl, inr, if◌then◌else◌}
use Rattle.std.specs.Prelude.{◌==◌, IsSome, IfSome, IsSomeAnd, option_map}
use Rattle.std.specs.List.{Contains}
use Rattle.std.proofs.lemmas.Bool.{cases_eq}
use Rattle.std.proofs.lemmas.Bool.Decides.{nat_tests}
use Rattle.qz_types.specs.Rows.{TriggerData}
use Rattle.qz_queue.specs.Order.{put_pair, without_slot, key_of, IsKeyFree, AreSlotsApart, AreKnown}
use Rattle.qz_queue.proofs.Lists.{is_in}
use Rattle.qz_queue.proofs.Sorts.{none_at, key_of_put}
use Rattle.qz_tables.specs.DueKeys.{DueData, due_of, after_key, is_sooner, IsKeyOfRow, IsOwn, IsTold, IsInStep, IsInStepBut}
use Rattle.qz_tables.specs.Slots.{IsWritten}
use Rattle.qz_tables.specs.QueueOrder.{queue_order}

same_slot : (a b : ℕ) → a ≡ b → (a == b) ≡ true
same_slot a b e = grind (arith, nat_tests)

other_slot : (a b : ℕ) → a ≢ b → (a == b) ≡ false
other_slot a b e = grind (arith, nat_tests)

module _ {K : Type 0} where
  -- each pair is found by its slot
  pub own_key : (xs : List (K × ℕ)) (x : K × ℕ) → AreSlotsApart xs → Contains xs x → key_of x.1 xs ≡ Some x.0
  own_key xs x apart c = by_place xs apart c.0 c.1 c.2
    where
      by_place : (ys : List (K × ℕ)) → AreSlotsApart ys → (k : ℕ) → k < length ys → get_or ys k x ≡ x → key_of x.1 ys ≡ Some x.0
      by_place [] apart k p e = absurd (omega arith)
      by_place (y ∷ ys) apart zero p e = let q : (y.1 == x.1) ≡ true = same_slot y.1 x.1 (ap (λ (z : K × ℕ). z.1) e) in rw q (ap (λ (z : K × ℕ). Some z.0) e)
      by_place (y ∷ ys) apart (suc k) p e =
          let n : y.1 ≢ x.1 = λ s. apart 0 (suc k) x (omega arith) (omega arith) (s ∙ ap (λ (z : K × ℕ). z.1) (sym e)) in
          let q : (y.1 == x.1) ≡ false = other_slot y.1 x.1 n in
          rw q (by_place ys (λ i j d a b. apart (suc i) (suc j) d (omega arith) (omega arith)) k (omega arith) e)

  -- what a slot is found under is a pair
  pub found_pair : (xs : List (K × ℕ)) (s : ℕ) (k : K) → key_of s xs ≡ Some k → Contains xs (k, s)
  found_pair [] s k e = absurd (cc)
  found_pair (x ∷ xs) s k e = elim (x.1 == s) as (λ b. (x.1 == s) ≡ b → (if b then Some x.0 else key_of s xs) ≡ Some k → Contains (x ∷ xs) (k, s)) [
    | true ↦ λ q h. (0, omega arith, (let same : x.1 ≡ s = grind (arith, nat_tests) in let key : x.0 ≡ k = cc in pair_is x k s key same))
    | false ↦ λ q h. (let c = found_pair xs s k h in (suc c.0, (let l = c.1 in omega arith), c.2))
  ] refl e
    where
      pair_is : (y : K × ℕ) (j : K) (t : ℕ) → y.0 ≡ j → y.1 ≡ t → y ≡ (j, t)
      pair_is y j t a b = subst (λ (u : ℕ). y ≡ (j, u)) b (subst (λ (i : K). y ≡ (i, y.1)) a refl)

  pub other_without : (slot s : ℕ) (xs : List (K × ℕ)) → s ≢ slot → key_of s (without_slot slot xs) ≡ key_of s xs
  other_without slot s [] n = refl
  other_without slot s (x ∷ xs) n = elim (x.1 == slot) as (λ b. (x.1 == slot) ≡ b → key_of s (if b then xs else x ∷ without_slot slot xs) ≡ key_of s (x ∷ xs)) [
    | true ↦ λ e. let same : x.1 ≡ slot = grind (arith, nat_tests) in let q : (x.1 == s) ≡ false = other_slot x.1 s (λ h. n (sym h ∙ same)) in rw q refl
    | false ↦ λ e. ap (λ o. if x.1 == s then Some x.0 else o) (other_without slot s xs n)
  ] refl

  pub other_put : (before : K → K → Bool) (slot s : ℕ) (due : K) (ys : List (K × ℕ)) → s ≢ slot → key_of s (put_pair before (due, slot) ys) ≡ key_of s ys
  other_put before slot s due [] n = let q : (slot == s) ≡ false = other_slot slot s (λ e. n (sym e)) in rw q refl
  other_put before slot s due (y ∷ ys) n = elim (before y.0 due) as (λ b. key_of s (if b then y ∷ put_pair before (due, slot) ys else (due, slot) ∷ y ∷ ys) ≡ key_of s (y ∷ ys)) [
    | true ↦ ap (λ r. if y.1 == s then Some y.0 else r) (other_put before slot s due ys n)
    | false ↦ let q : (slot == s) ≡ false = other_slot slot s (λ e. n (sym e)) in rw q refl
  ]

mapped : (s : ℕ) (o : Option TriggerData) (d : DueData) → option_map (due_of s) o ≡ Some d → (r : TriggerData) × (o ≡ Some r) × (due_of s r ≡ d)
mapped s None d e = absurd (cc)
mapped s (Some r) d e = (r, refl, cc)

pub own_told : (slots : List (Option TriggerData)) (pairs : List (DueData × ℕ)) (s : ℕ) (d : DueData) → IsTold slots pairs s → key_of s pairs ≡ Some d → IsOwn slots s d
own_told slots pairs s d told e =
    let m = mapped s (get_or slots s None) d (sym told ∙ e) in
    (sym (ap (λ x. x.slot) m.2), subst (λ o. IsSomeAnd o (λ r. r.spec.key ≡ d.key)) (sym m.1) (ap (λ x. x.key) m.2))

module _ (slots : List (Option TriggerData)) (pairs : List (DueData × ℕ)) (slot : ℕ) (others : IsInStepBut slots pairs slot) where
  all_own : ((d : DueData) → key_of slot pairs ≡ Some d → IsOwn slots slot d) → (s : ℕ) (d : DueData) → key_of s pairs ≡ Some d → IsOwn slots s d
  all_own here s d e = elim (cases_eq s slot) [
    | inl same ↦ subst (λ t. IsOwn slots t d) (sym same) (here d (ap (λ t. key_of t pairs) (sym same) ∙ e))
    | inr differs ↦ own_told slots pairs s d (others.each s differs) e
  ]

  pub all_known : ((d : DueData) → key_of slot pairs ≡ Some d → IsOwn slots slot d) → AreSlotsApart pairs → AreKnown (IsKeyOfRow slots) pairs
  all_known here apart x c =
      let own = all_own here x.1 x.0 (own_key pairs x apart c) in
      subst (λ t. IsSomeAnd (get_or slots t None) (λ r. r.spec.key ≡ x.0.key)) (sym own.0) own.1

  pub all_free : (due : DueData) → due.slot ≡ slot → ((d : DueData) → key_of slot pairs ≡ Some d → IsOwn slots slot d) → AreSlotsApart pairs → IsKeyFree due slot pairs
  all_free due is here apart k x p same =
      let y = get_or pairs k x in
      let own = all_own here y.1 y.0 (own_key pairs y apart (is_in pairs k x p)) in
      sym own.0 ∙ ap (λ d. d.slot) same ∙ is

  pub step_entered : (due : DueData) → option_map (due_of slot) (get_or slots slot None) ≡ Some due → key_of slot pairs ≡ None → IsInStep slots (put_pair is_sooner (due, slot) pairs)
  step_entered due is absent = record {
    each = λ s. elim (cases_eq s slot) [
      | inl same ↦ subst (IsTold slots (put_pair is_sooner (due, slot) pairs)) (sym same) (key_of_put is_sooner queue_order slot (due, slot) pairs refl (none_at slot pairs absent) ∙ sym is)
      | inr differs ↦ other_put is_sooner slot s due pairs differs ∙ others.each s differs
    ];
  }

  pub step_followed : (new : List (DueData × ℕ)) (due : DueData) → option_map (due_of slot) (get_or slots slot None) ≡ Some due → new ≡ put_pair is_sooner (due, slot) (without_slot slot pairs) → key_of slot new ≡ Some due → IsInStep slots new
  step_followed new due is e now = record {
    each = λ s. elim (cases_eq s slot) [
      | inl same ↦ subst (IsTold slots new) (sym same) (now ∙ sym is)
      | inr differs ↦ ap (key_of s) e ∙ other_put is_sooner slot s due (without_slot slot pairs) differs ∙ other_without slot s pairs differs ∙ others.each s differs
    ];
  }

  pub step_closed : get_or slots slot None ≡ None → key_of slot pairs ≡ None → IsInStep slots pairs
  step_closed vacant absent = record {
    each = λ s. elim (cases_eq s slot) [
      | inl same ↦ subst (IsTold slots pairs) (sym same) (absent ∙ sym (ap (option_map (due_of slot)) vacant))
      | inr differs ↦ others.each s differs
    ];
  }

pub but_from : (slots : List (Option TriggerData)) (pairs : List (DueData × ℕ)) (slot : ℕ) → IsInStep slots pairs → IsInStepBut slots pairs slot
but_from slots pairs slot step = record { each = λ s differs. step.each s }

-- a queue that is in step has keys of rows alone
pub step_known : (slots : List (Option TriggerData)) (pairs : List (DueData × ℕ)) → IsInStep slots pairs → AreSlotsApart pairs → AreKnown (IsKeyOfRow slots) pairs
step_known slots pairs step apart = all_known slots pairs 0 (but_from slots pairs 0 step) (λ d e. own_told slots pairs 0 d (step.each 0) e) apart

-- the key of a trigger that is taken as waiting is that of its row
pub key_known : (slots : List (Option TriggerData)) (after : Option ℕ) → IfSome (after_key slots after) (IsKeyOfRow slots)
key_known slots None = tt
key_known slots (Some slot) = by_row (get_or slots slot None) refl
  where
    by_row : (o : Option TriggerData) → get_or slots slot None ≡ o → IfSome (option_map (λ t. record (due_of slot t) { rests = false }) o) (IsKeyOfRow slots)
    by_row None e = tt
    by_row (Some t) e = rw e refl

pub but_written : (old new : List (Option TriggerData)) (pairs : List (DueData × ℕ)) (slot : ℕ) (o : Option TriggerData) → IsInStepBut old pairs slot → IsWritten old new slot o → IsInStepBut new pairs slot
but_written old new pairs slot o others w = record { each = λ s differs. others.each s differs ∙ sym (ap (option_map (due_of s)) (w.others s differs)) }

pub step_left : (slots : List (Option TriggerData)) (pairs : List (DueData × ℕ)) (slot : ℕ) → IsInStep slots pairs → IsInStepBut slots (without_slot slot pairs) slot
step_left slots pairs slot step = record { each = λ s differs. other_without slot s pairs differs ∙ step.each s }

-- a slot that is written keeps the key of its row
pub own_written : (old new : List (Option TriggerData)) (pairs : List (DueData × ℕ)) (slot : ℕ) (r q : TriggerData) → IsInStep old pairs → get_or old slot None ≡ Some r → get_or new slot None ≡ Some q → q.spec.key ≡ r.spec.key → (d : DueData) → key_of slot pairs ≡ Some d → IsOwn new slot d
own_written old new pairs slot r q step was now same d e =
    let own = own_told old pairs slot d (step.each slot) e in
    let key : r.spec.key ≡ d.key = subst (λ o. IsSomeAnd o (λ x. x.spec.key ≡ d.key)) was own.1 in
    (own.0, subst (λ o. IsSomeAnd o (λ x. x.spec.key ≡ d.key)) (sym now) (same ∙ key))

pub some_told : (slots : List (Option TriggerData)) (pairs : List (DueData × ℕ)) (slot : ℕ) (r : TriggerData) → IsInStep slots pairs → get_or slots slot None ≡ Some r → IsSome (key_of slot pairs)
some_told slots pairs slot r step e = subst (λ o. IsSome o) (sym (step.each slot ∙ ap (option_map (due_of slot)) e)) refl

pub none_told : (slots : List (Option TriggerData)) (pairs : List (DueData × ℕ)) (slot : ℕ) → IsInStep slots pairs → get_or slots slot None ≡ None → key_of slot pairs ≡ None
none_told slots pairs slot step e = step.each slot ∙ ap (option_map (due_of slot)) e

pub due_slot : (s : ℕ) (o : Option TriggerData) (d : DueData) → option_map (due_of s) o ≡ Some d → d.slot ≡ s
due_slot s o d e = let m = mapped s o d e in sym (ap (λ x. x.slot) m.2)

pub due_known : (slots : List (Option TriggerData)) (s : ℕ) (d : DueData) → option_map (due_of s) (get_or slots s None) ≡ Some d → IsKeyOfRow slots d
due_known slots s d e =
    let m = mapped s (get_or slots s None) d e in
    let slot : d.slot ≡ s = due_slot s (get_or slots s None) d e in
    subst (λ t. IsSomeAnd (get_or slots t None) (λ r. r.spec.key ≡ d.key)) (sym slot) (subst (λ o. IsSomeAnd o (λ r. r.spec.key ≡ d.key)) (sym m.1) (ap (λ x. x.key) m.2))

pub absent_own : (slots : List (Option TriggerData)) (pairs : List (DueData × ℕ)) (slot : ℕ) → key_of slot pairs ≡ None → (d : DueData) → key_of slot pairs ≡ Some d → IsOwn slots slot d
absent_own slots pairs slot n d e = absurd (cc)
