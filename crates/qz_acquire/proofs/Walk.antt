-- The walk along the triggers that wait, in due order.
use Rattle.std.proofs.Common.{◌≡◌, ℕ, zero, suc, ◌+◌, take, false, ℤ, ◌<ℤ◌, ◌≤ℤ◌, Bool, true, List, [], ◌∷◌, drop, filter, Option, Some, None, refl, sym, ap, ◌∙◌, subst, arith}
use Rattle.std.specs.List.{AllByRecursion, slice_get}
use Rattle.std.specs.Ordering.{int_cmp, ordering_then}
use Rattle.std.specs.declared.cmp.Ordering.{Ordering}
use Rattle.std.specs.declared.cmp.Ordering.TheVariants.{Less}
use Rattle.std.proofs.lemmas.Bool.{and_from}
use Rattle.std.proofs.lemmas.Int.{ints}
use Rattle.std.proofs.lemmas.List.{drop-drop}
use Rattle.std.proofs.lemmas.Cmp.{by_ranked, int_ranked}
use Rattle.qz_types.specs.Sorted.{put, IsBefore, IsAscending}
use Rattle.qz_types.specs.Rows.{TriggerData}
use Rattle.qz_types.specs.Words.{key_cmp}
use Rattle.qz_types.specs.declared.keys.Key.{Key}
use Rattle.qz_types.specs.Due.{is_waiting, next_cmp, due_cmp, in_due_order}
use Rattle.qz_tables.specs.Due.{waits_after, waiting, due_next}
use Rattle.qz_tables.proofs.SortLaws.{sorted, Apart, filter-sorted, ascending-sorted}
use Rattle.qz_tables.proofs.SortLaws.{IsAscending-filter}
use Rattle.qz_tables.proofs.DueWalk.{due_total, apart, first-passing, next-passing}
use Rattle.qz_acquire.specs.Walk.{unless_past}
use Rattle.qz_acquire.proofs.Lists.{filter-within, drop-at, none-passing, get-drop}
use Rattle.qz_acquire.proofs.Lists.{first-passing as first_of}

by_sorting : (ts : List TriggerData) → in_due_order ts ≡ sorted due_cmp ts
by_sorting [] = refl
by_sorting (t ∷ ts) = ap (put due_cmp (λ x. x) t) (by_sorting ts)

abbrev pub AreInKeyOrder : List TriggerData → Type 0
AreInKeyOrder ts = IsAscending key_cmp (λ (r : TriggerData). r.spec.key) ts

waiting_apart : (ts : List TriggerData) → AreInKeyOrder ts → Apart due_cmp (filter (waits_after None) ts)
waiting_apart ts ordered = apart (filter (waits_after None) ts) (IsAscending-filter key_cmp (λ (r : TriggerData). r.spec.key) (waits_after None) ts ordered)

-- of those that wait, the ones that pass a test, in due order
pub filter-waiting : (p : TriggerData → Bool) (ts : List TriggerData) → AreInKeyOrder ts → ((t : TriggerData) → p t ≡ true → is_waiting t.state ≡ true) → filter p (waiting None ts) ≡ in_due_order (filter p ts)
unfolding waiting
filter-waiting p ts ordered waits =
    ap (filter p) (by_sorting (filter (waits_after None) ts))
    ∙ filter-sorted due_cmp due_total p (filter (waits_after None) ts) (waiting_apart ts ordered)
    ∙ sym (by_sorting (filter p (filter (waits_after None) ts)))
    ∙ ap in_due_order (filter-within p (waits_after None) ts (λ t passes. and_from (is_waiting t.state) true (waits t passes) refl))

pub waiting_ascends : (ts : List TriggerData) → AreInKeyOrder ts → IsAscending due_cmp (λ x. x) (waiting None ts)
unfolding waiting
waiting_ascends ts ordered =
    subst (IsAscending due_cmp (λ x. x)) (sym (by_sorting (filter (waits_after None) ts))) (ascending-sorted due_cmp due_total (filter (waits_after None) ts) (waiting_apart ts ordered))

-- the walk is at this place of the list of those that wait
abbrev pub IsAt : List TriggerData → ℕ → Option TriggerData → Type 0
IsAt ts n o = o ≡ slice_get (waiting None ts) n

-- after the trigger of this key, if one is given, the walk goes on at this place
abbrev pub IsAfter : List TriggerData → Option Key → ℕ → Type 0
IsAfter ts last n = (p : TriggerData → Bool) → due_next last p ts ≡ slice_get (filter p (drop n (waiting None ts))) 0

pub begins : (ts : List TriggerData) → IsAfter ts None 0
begins ts = first-passing ts

pub goes_on : (ts : List TriggerData) (n : ℕ) (t : TriggerData) → AreInKeyOrder ts → IsAt ts n (Some t) → IsAfter ts (Some t.spec.key) (suc n)
goes_on ts n t ordered at = λ p. next-passing ts n t p ordered at

-- from this place on, this is the first that passes
pub record IsFound (ts : List TriggerData) (n : ℕ) (p : TriggerData → Bool) (t : TriggerData) : Type 0 where
  pub skipped : ℕ
  pub at : IsAt ts (n + skipped) (Some t)
  pub passes : p t ≡ true
  pub over : AllByRecursion (λ u. p u ≡ false) (take skipped (drop n (waiting None ts)))

pub found : (ts : List TriggerData) (last : Option Key) (n : ℕ) (p : TriggerData → Bool) (t : TriggerData) → IsAfter ts last n → Some t ≡ due_next last p ts → IsFound ts n p t
found ts last n p t after is =
    let f = first_of p (drop n (waiting None ts)) t (is ∙ after p) in
    record { skipped = f.skipped; at = f.at ∙ get-drop (waiting None ts) n f.skipped; passes = f.passes; over = f.over }

-- from this place on, none passes
pub none_found : (ts : List TriggerData) (last : Option Key) (n : ℕ) (p : TriggerData → Bool) → IsAfter ts last n → None ≡ due_next last p ts → AllByRecursion (λ u. p u ≡ false) (drop n (waiting None ts))
none_found ts last n p after is = none-passing p (drop n (waiting None ts)) (is ∙ after p)

-- what stands there, and those after it
pub found_here : (ts : List TriggerData) (n : ℕ) (p : TriggerData → Bool) (t : TriggerData) (f : IsFound ts n p t) → drop f.skipped (drop n (waiting None ts)) ≡ t ∷ drop (suc (n + f.skipped)) (waiting None ts)
found_here ts n p t f = drop-drop f.skipped n (waiting None ts) ∙ drop-at (waiting None ts) (n + f.skipped) t f.at

-- a time that isn't earlier
abbrev pub IsFrom : Option ℤ → Option ℤ → Type 0
IsFrom (Some a) (Some b) = a ≤ℤ b
IsFrom (Some a) None = ⊥
IsFrom None b = Unit {0}

later_next : (a b : Option ℤ) (o : Ordering) → ordering_then (next_cmp a b) o ≡ Less → IsFrom a b
later_next None b o e = tt
later_next (Some a) None o e = absurd (cc)
later_next (Some a) (Some b) o e =
    by_ranked (a <ℤ b) (a ≡ b) (b <ℤ a) (int_cmp a b) (int_ranked a b (int_cmp a b) refl)
    (λ is less. omega (arith, ints)) (λ is same. omega (arith, ints)) (λ is more. let never = rw is at e in absurd (cc))

all_later : (t : TriggerData) (us : List TriggerData) → IsBefore due_cmp (λ x. x) t us → AllByRecursion (λ u. IsFrom t.next u.next) us
unfolding due_cmp
all_later t [] before = tt
all_later t (u ∷ us) before = (later_next t.next u.next _ before.0, all_later t us before.1)

ascending-drop : (xs : List TriggerData) (n : ℕ) → IsAscending due_cmp (λ x. x) xs → IsAscending due_cmp (λ x. x) (drop n xs)
ascending-drop xs zero up = up
ascending-drop [] (suc n) up = tt
ascending-drop (x ∷ xs) (suc n) up = ascending-drop xs n up.1

from_itself : (a : Option ℤ) → IsFrom a a
from_itself None = tt
from_itself (Some a) = omega (arith, ints)

-- none from here on has an earlier next time than the one at hand
pub none_earlier : (ts : List TriggerData) (n : ℕ) (t : TriggerData) → AreInKeyOrder ts → IsAt ts n (Some t) → AllByRecursion (λ u. IsFrom t.next u.next) (drop n (waiting None ts))
none_earlier ts n t ordered at =
    let here = drop-at (waiting None ts) n t at in
    let up : IsAscending due_cmp (λ x. x) (t ∷ drop (suc n) (waiting None ts)) = subst (IsAscending due_cmp (λ x. x)) here (ascending-drop (waiting None ts) n (waiting_ascends ts ordered)) in
    subst (AllByRecursion (λ u. IsFrom t.next u.next)) (sym here) (from_itself t.next, all_later t (drop (suc n) (waiting None ts)) up.0)

-- what the walk takes of what it found
pub unless_not : (past : TriggerData → Bool) (o : Option TriggerData) (t : TriggerData) → o ≡ Some t → past t ≡ false → Some t ≡ unless_past past o
unless_not past o t is isnt = rw (is, isnt) refl

pub unless_so : (past : TriggerData → Bool) (o : Option TriggerData) (t : TriggerData) → o ≡ Some t → past t ≡ true → None ≡ unless_past past o
unless_so past o t is past_it = rw (is, past_it) refl

pub unless_none : (past : TriggerData → Bool) (o : Option TriggerData) → o ≡ None → None ≡ unless_past past o
unless_none past o is = rw is refl
