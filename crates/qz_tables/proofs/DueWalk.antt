-- The due order is a total order of triggers, and looking for the next one walks the list of those that wait.
use Rattle.std.proofs.Common.{◌≡◌, ℕ, suc, ℤ, List, [], ◌∷◌, drop, filter, Bool, true, false, Option, Some, None, refl, sym, ap, ◌∙◌}
use Rattle.std.specs.List.{AllByRecursion, slice_get}
use Rattle.std.specs.Ordering.{int_cmp, ordering_then, ordering_reverse, is_eq, is_gt}
use Rattle.std.specs.Cmp.{IsTotalOrder}
use Rattle.std.specs.declared.cmp.Ordering.{Ordering}
use Rattle.std.specs.declared.cmp.Ordering.TheVariants.{Less, Equal, Greater}
use Rattle.std.proofs.lemmas.Cmp.{int_cmp_total, then_total, on_total}
use Rattle.qz_types.specs.Sorted.{row_of, put, IsBefore, IsAscending}
use Rattle.qz_types.specs.Rows.{TriggerData}
use Rattle.qz_types.specs.Words.{key_cmp, trigger_of}
use Rattle.qz_types.specs.declared.keys.Key.{Key}
use Rattle.qz_types.specs.Due.{is_waiting, next_cmp, due_cmp, in_due_order}
use Rattle.qz_tables.specs.QueueOrder.{next_total}
use Rattle.qz_tables.specs.Due.{waits_after, waits_and, waiting, due_next}
use Rattle.qz_tables.proofs.ByIds.{own_id}
use Rattle.qz_tables.proofs.Keys.{key_total}
use Rattle.qz_tables.proofs.SortLaws.{All-filter, All-at, filter-and, filter-true, IsAscending-filter, sorted, Apart, All-sorted, filter-sorted, ascending-sorted, after-drop}

greater_first : IsTotalOrder (λ (a b : ℤ). int_cmp b a)
greater_first = record {
  antisymm = λ a b. int_cmp_total.antisymm b a;
  trans = λ a b c e f. int_cmp_total.trans c b a f e;
  congr = λ a b c e.
      let same : int_cmp a b ≡ Equal = int_cmp_total.antisymm a b ∙ ap ordering_reverse e in
      int_cmp_total.antisymm c a ∙ ap ordering_reverse (int_cmp_total.congr a b c same) ∙ sym (int_cmp_total.antisymm c b);
}

pub due_total : IsTotalOrder due_cmp
unfolding due_cmp
due_total = then_total (on_total (λ (t : TriggerData). t.next) next_total)
    (then_total (on_total (λ (t : TriggerData). t.spec.priority) greater_first) (on_total (λ (t : TriggerData). t.spec.key) key_total))

no_tie : (o p : Ordering) → is_eq (ordering_then o (ordering_then p Less)) ≡ false
no_tie Less p = refl
no_tie Equal Less = refl
no_tie Equal Equal = refl
no_tie Equal Greater = refl
no_tie Greater p = refl

keys_apart : (t : TriggerData) (us : List TriggerData) → IsBefore key_cmp (λ (r : TriggerData). r.spec.key) t.spec.key us → AllByRecursion (λ u. is_eq (due_cmp t u) ≡ false) us
unfolding due_cmp
keys_apart t [] b = tt
keys_apart t (u ∷ us) b = (rw b.0 (no_tie (next_cmp t.next u.next) (int_cmp u.spec.priority t.spec.priority)), keys_apart t us b.1)

pub apart : (ts : List TriggerData) → IsAscending key_cmp (λ (r : TriggerData). r.spec.key) ts → Apart due_cmp ts
apart [] up = tt
apart (t ∷ ts) up = (keys_apart t ts up.0, apart ts up.1)

is-sorted : (ts : List TriggerData) → in_due_order ts ≡ sorted due_cmp ts
is-sorted [] = refl
is-sorted (t ∷ ts) = ap (put due_cmp (λ x. x) t) (is-sorted ts)

all-waiting : (ts : List TriggerData) → waiting None ts ≡ sorted due_cmp (filter (λ t. is_waiting t.state) ts)
unfolding waiting
all-waiting ts = is-sorted (filter (waits_after None) ts) ∙ ap (sorted due_cmp) (filter-and (λ (t : TriggerData). is_waiting t.state) (λ _. true) ts ∙ filter-true (filter (λ (t : TriggerData). is_waiting t.state) ts))

later-waiting : (t : TriggerData) (ts : List TriggerData) → waiting (Some t) ts ≡ sorted due_cmp (filter (λ u. is_gt (due_cmp u t)) (filter (λ u. is_waiting u.state) ts))
unfolding waiting
later-waiting t ts = is-sorted (filter (waits_after (Some t)) ts) ∙ ap (sorted due_cmp) (filter-and (λ (u : TriggerData). is_waiting u.state) (λ u. is_gt (due_cmp u t)) ts)

-- of those that wait, the ones that pass, in due order
pub passing-waiting : (after : Option TriggerData) (p : TriggerData → Bool) (ts : List TriggerData) → IsAscending key_cmp (λ (r : TriggerData). r.spec.key) ts → filter p (waiting after ts) ≡ in_due_order (filter (waits_and after p) ts)
unfolding waiting
passing-waiting after p ts up =
    let few = filter (waits_after after) ts in
    ap (filter p) (is-sorted few) ∙ filter-sorted due_cmp due_total p few (apart few (IsAscending-filter key_cmp (λ (r : TriggerData). r.spec.key) (waits_after after) ts up))
    ∙ sym (is-sorted (filter p few)) ∙ ap in_due_order (sym (filter-and (waits_after after) p ts))

-- after a trigger that waits come those that follow it in due order
pub waiting-after : (ts : List TriggerData) (n : ℕ) (t : TriggerData) → IsAscending key_cmp (λ (r : TriggerData). r.spec.key) ts → Some t ≡ slice_get (waiting None ts) n → waiting (Some t) ts ≡ drop (suc n) (waiting None ts)
waiting-after ts n t up at =
    let few = filter (λ (u : TriggerData). is_waiting u.state) ts in
    let differ : Apart due_cmp few = apart few (IsAscending-filter key_cmp (λ (r : TriggerData). r.spec.key) (λ (u : TriggerData). is_waiting u.state) ts up) in
    let here : Some t ≡ slice_get (sorted due_cmp few) n = at ∙ ap (λ us. slice_get us n) (all-waiting ts) in
    later-waiting t ts ∙ sym (filter-sorted due_cmp due_total (λ u. is_gt (due_cmp u t)) few differ)
    ∙ after-drop due_cmp due_total (sorted due_cmp few) n t (ascending-sorted due_cmp due_total few differ) here
    ∙ ap (drop (suc n)) (sym (all-waiting ts))

-- each row is found by its key
equal_itself : (k : Key) → is_eq (key_cmp k k) ≡ true
equal_itself k = ap is_eq (own_id key_cmp (λ (r : TriggerData). r.spec.key) key_total k)

not_back : (x y : Key) → key_cmp x y ≡ Less → is_eq (key_cmp y x) ≡ false
not_back x y less = ap is_eq (key_total.antisymm y x ∙ ap ordering_reverse less)

pass_by : (r : TriggerData) (rs us : List TriggerData) → IsBefore key_cmp (λ (t : TriggerData). t.spec.key) r.spec.key us → AllByRecursion (λ u. row_of key_cmp (λ (t : TriggerData). t.spec.key) u.spec.key rs ≡ Some u) us
    → AllByRecursion (λ u. row_of key_cmp (λ (t : TriggerData). t.spec.key) u.spec.key (r ∷ rs) ≡ Some u) us
pass_by r rs [] b all = tt
pass_by r rs (u ∷ us) b all = (rw (not_back r.spec.key u.spec.key b.0) all.0, pass_by r rs us b.1 all.1)

pub each_found : (rs : List TriggerData) → IsAscending key_cmp (λ (t : TriggerData). t.spec.key) rs → AllByRecursion (λ u. row_of key_cmp (λ (t : TriggerData). t.spec.key) u.spec.key rs ≡ Some u) rs
each_found [] up = tt
each_found (r ∷ rs) up = (rw (equal_itself r.spec.key) refl, pass_by r rs rs up.0 (each_found rs up.1))

found_waiting : (ts : List TriggerData) (n : ℕ) (t : TriggerData) → IsAscending key_cmp (λ (r : TriggerData). r.spec.key) ts → Some t ≡ slice_get (waiting None ts) n → trigger_of t.spec.key ts ≡ Some t
unfolding trigger_of
found_waiting ts n t up at =
    let few = filter (λ (u : TriggerData). is_waiting u.state) ts in
    let here : Some t ≡ slice_get (sorted due_cmp few) n = at ∙ ap (λ us. slice_get us n) (all-waiting ts) in
    All-at (λ u. row_of key_cmp (λ (r : TriggerData). r.spec.key) u.spec.key ts ≡ Some u) (sorted due_cmp few) n t
    (All-sorted due_cmp (λ u. row_of key_cmp (λ (r : TriggerData). r.spec.key) u.spec.key ts ≡ Some u) few
    (All-filter (λ u. row_of key_cmp (λ (r : TriggerData). r.spec.key) u.spec.key ts ≡ Some u) (λ u. is_waiting u.state) ts (each_found ts up))) here

-- looking for the next one that passes walks the list of those that wait: from its first, or from the one after a place
pub first-passing : (ts : List TriggerData) (p : TriggerData → Bool) → due_next None p ts ≡ slice_get (filter p (waiting None ts)) 0
unfolding due_next
first-passing ts p = refl

pub next-passing : (ts : List TriggerData) (n : ℕ) (t : TriggerData) (p : TriggerData → Bool) → IsAscending key_cmp (λ (r : TriggerData). r.spec.key) ts → Some t ≡ slice_get (waiting None ts) n → due_next (Some t.spec.key) p ts ≡ slice_get (filter p (drop (suc n) (waiting None ts))) 0
unfolding due_next
next-passing ts n t p up at = rw (found_waiting ts n t up at) (ap (λ us. slice_get (filter p us) 0) (waiting-after ts n t up at))
