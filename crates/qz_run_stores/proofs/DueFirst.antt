-- The first waiting trigger in due order has the least next time.
use Rattle.std.proofs.Common.{◌≡◌, ℤ, ◌≤ℤ◌, ◌<ℤ◌, int_le, Bool, true, false, ◌&&◌, ◌||◌, List, [], ◌∷◌, filter, count_by, Option, Some, None, IsSomeAnd, refl, sym, ap, ◌∙◌, subst, arith}
use Rattle.std.specs.Prelude.{⊤, IsSome}
use Rattle.std.specs.List.{AllByRecursion, list_any, slice_get}
use Rattle.std.specs.Ordering.{MatchOrdering, int_cmp, ordering_then, is_gt}
use Rattle.std.specs.declared.cmp.Ordering.{Ordering}
use Rattle.std.specs.declared.cmp.Ordering.TheVariants.{Less, Equal, Greater}
use Rattle.std.proofs.lemmas.Bool.{and_parts}
use Rattle.std.proofs.lemmas.Cmp.{int_ranked}
use Rattle.std.proofs.lemmas.Int.{ints}
use Rattle.qz_types.specs.Due.{is_waiting, next_cmp, due_cmp, in_due_order}
use Rattle.qz_types.specs.Rows.{TriggerData}
use Rattle.qz_types.specs.Tables.{SchedulerTables}
use Rattle.qz_model.specs.Due.{is_up_to, IsInDueOrder}
use Rattle.qz_model.specs.Invariant.{is_live_state, TablesValid}
use Rattle.qz_model.proofs.DueLaws.{All-in_due_order, waiting_from}
use Rattle.qz_model.proofs.RowPoints.{All-weaker, All-filter, any-filter, any-alike, any_from_counts, any_none}
use Rattle.qz_tables.specs.Due.{waits_after, waiting, due_first}
use Rattle.qz_run.specs.Stores.{IsNextDue}
use Rattle.qz_seen.specs.Seen.{is_due_by, some_due, seen}

-- it has a next time that isn't before this one
abbrev IsLater : ℤ → TriggerData → Type 0
IsLater m t = IsSomeAnd t.next (λ n. m ≤ℤ n)

abbrev HasNext : TriggerData → Type 0
HasNext t = IsSomeAnd t.next (λ n. ⊤)

abbrev is_by : ℤ → TriggerData → Bool
is_by time t = is_up_to time t.next

first_not_after : (o p : Ordering) → is_gt (ordering_then o p) ≡ false → is_gt o ≡ false
first_not_after Less p e = refl
first_not_after Equal p e = refl
first_not_after Greater p e = e

not_after : (a b : ℤ) (o : Ordering) → MatchOrdering o (a <ℤ b) (a ≡ b) (b <ℤ a) → is_gt o ≡ false → a ≤ℤ b
not_after a b Less is e = omega (arith, ints)
not_after a b Equal is e = omega (arith, ints)
not_after a b Greater is e = absurd (cc)

next_later : (a b : Option ℤ) (m : ℤ) → a ≡ Some m → IsSomeAnd b (λ n. ⊤) → is_gt (next_cmp a b) ≡ false → IsSomeAnd b (λ n. m ≤ℤ n)
next_later None b m is has e = absurd (cc)
next_later (Some a) None m is has e = absurd has
next_later (Some a) (Some b) m is has e = let same : a ≡ m = cc in subst (λ (x : ℤ). x ≤ℤ b) same (not_after a b (int_cmp a b) (int_ranked a b (int_cmp a b) refl) e)

one_later : (t u : TriggerData) (m : ℤ) → t.next ≡ Some m → HasNext u → is_gt (due_cmp t u) ≡ false → IsLater m u
unfolding due_cmp
one_later t u m is has e = next_later t.next u.next m is has (first_not_after (next_cmp t.next u.next) _ e)

weaker : (m : ℤ) (o : Option ℤ) (n : ℤ) → o ≡ Some n → IsSomeAnd o (λ k. m ≤ℤ k) → m ≤ℤ n
weaker m None n is later = absurd later
weaker m (Some k) n is later = let same : k ≡ n = cc in subst (λ (x : ℤ). m ≤ℤ x) same later

later_still : (m n : ℤ) (o : Option ℤ) → m ≤ℤ n → IsSomeAnd o (λ k. n ≤ℤ k) → IsSomeAnd o (λ k. m ≤ℤ k)
later_still m n None first later = later
later_still m n (Some k) first later = omega (arith, ints)

-- none of the others has an earlier next time than the first
all_later : (m : ℤ) (t : TriggerData) (us : List TriggerData) → t.next ≡ Some m → IsInDueOrder (t ∷ us) → AllByRecursion HasNext us → AllByRecursion (IsLater m) us
all_later m t [] is ordered has = tt
all_later m t (u ∷ us) is ordered has =
    let later : IsLater m u = one_later t u m is has.0 ordered.0 in (
      later,
      elim u.next as (λ o. u.next ≡ o → AllByRecursion (IsLater m) us) [
        | None ↦ λ none. absurd (subst (λ o. IsSomeAnd o (λ n. ⊤)) none has.0)
        | Some n ↦ λ next. All-weaker (IsLater n) (IsLater m) us (λ v is_later. later_still m n v.next (weaker m u.next n next later) is_later) (all_later n u us next ordered.1 has.1)
      ] refl,
    )

past_one : (m time : ℤ) (o : Option ℤ) → int_le m time ≡ false → IsSomeAnd o (λ n. m ≤ℤ n) → is_up_to time o ≡ false
past_one m time None past later = absurd later
past_one m time (Some n) past later = grind (arith, ints)

-- whether one is due is whether the first is
past_all : (m time : ℤ) (us : List TriggerData) → int_le m time ≡ false → AllByRecursion (IsLater m) us → list_any (is_by time) us ≡ false
past_all m time us past later = any_none (is_by time) us (All-weaker (IsLater m) (λ u. is_by time u ≡ false) us (λ u is. past_one m time u.next past is) later)

any_first : (m time : ℤ) (t : TriggerData) (us : List TriggerData) → t.next ≡ Some m → AllByRecursion (IsLater m) us → list_any (is_by time) (t ∷ us) ≡ int_le m time
any_first m time t us is later =
    rw is (elim (int_le m time) as (λ b. int_le m time ≡ b → (b || list_any (is_by time) us) ≡ b) [
      | true ↦ λ due. refl
      | false ↦ λ past. past_all m time us past later
    ] refl)

waits_same : (a b : Bool) → ((a && true) && b) ≡ (a && b)
waits_same true b = refl
waits_same false b = refl

-- the next time of the first
abbrev next_first : List TriggerData → Option ℤ
next_first [] = None
next_first (t ∷ ts) = t.next

first_none : (ts : List TriggerData) → slice_get ts 0 ≡ None → next_first ts ≡ None
first_none [] none = refl
first_none (t ∷ ts) none = absurd (cc)

first_some : (ts : List TriggerData) (t : TriggerData) → slice_get ts 0 ≡ Some t → next_first ts ≡ t.next
first_some [] t found = absurd (cc)
first_some (u ∷ us) t found = let same : u ≡ t = cc in ap (λ x. x.next) same

module _ (T : SchedulerTables) (valid : TablesValid T) (sorted : (ts : List TriggerData) → IsInDueOrder (in_due_order ts))
    (same : (p : TriggerData → Bool) (ts : List TriggerData) → count_by p (in_due_order ts) ≡ count_by p ts) where
  -- the triggers that wait, in due order, are those of which one may be due
  due_among : (time : ℤ) → some_due T time ≡ list_any (is_by time) (waiting None T.triggers)
  unfolding some_due waiting
  due_among time =
      any-alike (is_due_by time) (λ t. waits_after None t && is_by time t) T.triggers (λ t. sym (waits_same (is_waiting t.state) (is_by time t)))
      ∙ sym (any-filter (is_by time) (waits_after None) T.triggers)
      ∙ any_from_counts (is_by time) (filter (waits_after None) T.triggers) (in_due_order (filter (waits_after None) T.triggers)) (sym (same (is_by time) (filter (waits_after None) T.triggers)))

  some_next : (o : Option ℤ) → IsSome o → IsSomeAnd o (λ n. ⊤)
  some_next None is = absurd (cc)
  some_next (Some n) is = tt

  each_has : AllByRecursion HasNext (waiting None T.triggers)
  unfolding waiting
  each_has =
      All-in_due_order HasNext (filter (waits_after None) T.triggers)
      (All-filter HasNext (waits_after None) T.triggers
      (All-weaker (λ t. is_live_state t.state ≡ true → IsSome t.next) (λ t. waits_after None t ≡ true → HasNext t) T.triggers
      (λ t has waits. some_next t.next (has (ap is_live_state (waiting_from t.state (and_parts (is_waiting t.state) true waits).0)))) valid.next_times.next))

  ordered : IsInDueOrder (waiting None T.triggers)
  unfolding waiting
  ordered = sorted (filter (waits_after None) T.triggers)

  by_next : (t : TriggerData) (us : List TriggerData) (next : Option ℤ) → waiting None T.triggers ≡ t ∷ us → HasNext t → AllByRecursion HasNext us → IsInDueOrder (t ∷ us) → t.next ≡ next → IsNextDue (seen T) next
  by_next t us None is first has order next = absurd (subst (λ o. IsSomeAnd o (λ n. ⊤)) next first)
  by_next t us (Some m) is first has order next = λ time. due_among time ∙ ap (list_any (is_by time)) is ∙ any_first m time t us next (all_later m t us next order has)

  by_list : (ts : List TriggerData) → waiting None T.triggers ≡ ts → AllByRecursion HasNext ts → IsInDueOrder ts → IsNextDue (seen T) (next_first ts)
  by_list [] is has order = λ time. due_among time ∙ ap (list_any (is_by time)) is
  by_list (t ∷ us) is has order = by_next t us t.next is has.0 has.1 order refl

  next_of_first : IsNextDue (seen T) (next_first (waiting None T.triggers))
  next_of_first = by_list (waiting None T.triggers) refl each_has ordered

  -- none waits, or the first of those that wait has the least next time
  pub no_next : due_first T.triggers ≡ None → IsNextDue (seen T) None
  unfolding due_first
  no_next none = subst (λ o. IsNextDue (seen T) o) (first_none (waiting None T.triggers) none) next_of_first

  pub first_next : (t : TriggerData) → due_first T.triggers ≡ Some t → IsNextDue (seen T) t.next
  unfolding due_first
  first_next t found = subst (λ o. IsNextDue (seen T) o) (first_some (waiting None T.triggers) t found) next_of_first
