-- The due queue's order is a strict one: by the orders of its parts, each of which tells apart what differs.
use Rattle.std.proofs.Common.{◌≡◌, ℕ, ℤ, Bool, true, false, List, Option, Some, None, refl, sym, ap, subst, ◌∙◌}
use Rattle.std.specs.Ordering.{bool_cmp, int_cmp, nat_cmp, ordering_then, ordering_reverse, is_lt, is_eq}
use Rattle.std.specs.Cmp.{IsTotalOrder, bool_cmp_total, nat_cmp_total, int_cmp_total, ranked, int_ranked}
use Rattle.std.specs.Cmp.Lexicographic.{slice_cmp}
use Rattle.std.proofs.lemmas.Cmp.{then_total, on_total, back_total, nat_list_cmp_total}
use Rattle.std.proofs.lemmas.Map.Lookups.{exact_bytes}
use Rattle.std.specs.declared.cmp.Ordering.{Ordering}
use Rattle.std.specs.declared.cmp.Ordering.TheVariants.{Less, Equal, Greater}
use Rattle.qz_types.specs.Due.{next_cmp}
use Rattle.qz_types.specs.Words.{key_cmp}
use Rattle.qz_types.specs.declared.keys.Key.{Key}
use Rattle.qz_queue.specs.Order.{IsStrictOrder}
use Rattle.qz_tables.specs.DueKeys.{DueData, queue_cmp, is_sooner}

-- Keys.

equal_from : (o : Ordering) → is_eq o ≡ true → o ≡ Equal
equal_from Less e = absurd (cc)
equal_from Equal e = refl
equal_from Greater e = absurd (cc)

keys_equal : (o p : Ordering) → is_eq (ordering_then o p) ≡ true → (o ≡ Equal) × (p ≡ Equal)
keys_equal Less p e = absurd (cc)
keys_equal Equal p e = (refl, equal_from p e)
keys_equal Greater p e = absurd (cc)

the_key : List ℕ → List ℕ → Key
the_key group name = record { group = group; name = name }

key_is : (a b : Key) → a.group ≡ b.group → a.name ≡ b.name → a ≡ b
key_is a b e f = subst (λ (n : List ℕ). a ≡ record { group = b.group; name = n }) f (subst (λ (g : List ℕ). a ≡ record { group = g; name = a.name }) e refl)

pub key_exact : (a b : Key) → is_eq (key_cmp a b) ≡ true → a ≡ b
key_exact a b e =
    let both = keys_equal (slice_cmp nat_cmp a.group b.group) (slice_cmp nat_cmp a.name b.name) e in
    key_is a b (exact_bytes a.group b.group both.0) (exact_bytes a.name b.name both.1)

pub key_total : IsTotalOrder key_cmp
key_total = then_total (on_total (λ k. k.group) nat_list_cmp_total) (on_total (λ k. k.name) nat_list_cmp_total)

-- Next times.

pub next_total : IsTotalOrder next_cmp
next_total = record {
  antisymm = antisymm;
  trans = trans;
  congr = congr;
}
  where
    antisymm : (a b : Option ℤ) → next_cmp a b ≡ ordering_reverse (next_cmp b a)
    antisymm None None = refl
    antisymm None (Some b) = refl
    antisymm (Some a) None = refl
    antisymm (Some a) (Some b) = int_cmp_total.antisymm a b

    trans : (a b c : Option ℤ) → next_cmp a b ≡ Less → next_cmp b c ≡ Less → next_cmp a c ≡ Less
    trans None None c e f = absurd (cc)
    trans None (Some b) None e f = absurd (cc)
    trans None (Some b) (Some c) e f = refl
    trans (Some a) None c e f = absurd (cc)
    trans (Some a) (Some b) None e f = absurd (cc)
    trans (Some a) (Some b) (Some c) e f = int_cmp_total.trans a b c e f

    congr : (a b c : Option ℤ) → next_cmp a b ≡ Equal → next_cmp a c ≡ next_cmp b c
    congr None None c e = refl
    congr None (Some b) c e = absurd (cc)
    congr (Some a) None c e = absurd (cc)
    congr (Some a) (Some b) None e = refl
    congr (Some a) (Some b) (Some c) e = int_cmp_total.congr a b c e

-- The queue.

pub queue_total : IsTotalOrder queue_cmp
queue_total = then_total
    (then_total (on_total (λ (d : DueData). d.rests) bool_cmp_total) (then_total (on_total (λ (d : DueData). d.next) next_total) (on_total (λ (d : DueData). d.priority) (back_total int_cmp_total))))
    (then_total (on_total (λ (d : DueData). d.key) key_total) (on_total (λ (d : DueData). d.slot) nat_cmp_total))

pub both_equal : (o p : Ordering) → ordering_then o p ≡ Equal → (o ≡ Equal) × (p ≡ Equal)
both_equal Less p e = absurd (cc)
both_equal Equal p e = (refl, e)
both_equal Greater p e = absurd (cc)

bool_exact : (a b : Bool) → bool_cmp a b ≡ Equal → a ≡ b
bool_exact false false e = refl
bool_exact false true e = absurd (cc)
bool_exact true false e = absurd (cc)
bool_exact true true e = refl

int_exact : (a b : ℤ) → int_cmp a b ≡ Equal → a ≡ b
int_exact a b e = int_ranked a b Equal (sym e)

next_exact : (a b : Option ℤ) → next_cmp a b ≡ Equal → a ≡ b
next_exact None None e = refl
next_exact None (Some b) e = absurd (cc)
next_exact (Some a) None e = absurd (cc)
next_exact (Some a) (Some b) e = ap (λ z. Some z) (int_exact a b e)

data_is : (a b : DueData) → a.rests ≡ b.rests → a.next ≡ b.next → a.priority ≡ b.priority → a.key ≡ b.key → a.slot ≡ b.slot → a ≡ b
data_is a b r n p k s =
    let one : a ≡ record a { rests = b.rests } = subst (λ x. a ≡ record a { rests = x }) r refl in
    let two : a ≡ record a { rests = b.rests; next = b.next } = subst (λ x. a ≡ record a { rests = b.rests; next = x }) n one in
    let three : a ≡ record a { rests = b.rests; next = b.next; priority = b.priority } = subst (λ x. a ≡ record a { rests = b.rests; next = b.next; priority = x }) p two in
    let four : a ≡ record a { rests = b.rests; next = b.next; priority = b.priority; key = b.key } = subst (λ x. a ≡ record a { rests = b.rests; next = b.next; priority = b.priority; key = x }) k three in
    subst (λ x. a ≡ record a { rests = b.rests; next = b.next; priority = b.priority; key = b.key; slot = x }) s four

pub queue_exact : (a b : DueData) → queue_cmp a b ≡ Equal → a ≡ b
queue_exact a b e =
    let timed = both_equal _ (ordering_then (key_cmp a.key b.key) (nat_cmp a.slot b.slot)) e in
    let rest = both_equal (bool_cmp a.rests b.rests) _ timed.0 in
    let time = both_equal (next_cmp a.next b.next) (int_cmp b.priority a.priority) rest.1 in
    let named = both_equal (key_cmp a.key b.key) (nat_cmp a.slot b.slot) timed.1 in
    data_is a b (bool_exact a.rests b.rests rest.0) (next_exact a.next b.next time.0) (sym (int_exact b.priority a.priority time.1))
    (key_exact a.key b.key (ap is_eq named.0)) (ranked a.slot b.slot Equal (sym named.1))

less_from : (o : Ordering) → is_lt o ≡ true → o ≡ Less
less_from Less e = refl
less_from Equal e = absurd (cc)
less_from Greater e = absurd (cc)

pub sooner_less : (a b : DueData) → is_sooner a b ≡ true → queue_cmp a b ≡ Less
unfolding is_sooner
sooner_less a b e = less_from (queue_cmp a b) e

pub less_sooner : (a b : DueData) → queue_cmp a b ≡ Less → is_sooner a b ≡ true
unfolding is_sooner
less_sooner a b e = ap is_lt e

not_back : (o : Ordering) → o ≡ Less → is_lt (ordering_reverse o) ≡ false
not_back o e = ap (λ p. is_lt (ordering_reverse p)) e

neither : (o : Ordering) → is_lt o ≡ false → is_lt (ordering_reverse o) ≡ false → o ≡ Equal
neither Less e f = absurd (cc)
neither Equal e f = refl
neither Greater e f = absurd (cc)

pub queue_order : IsStrictOrder is_sooner
unfolding is_sooner
queue_order = record {
  one_way = λ a b e. ap is_lt (queue_total.antisymm b a) ∙ not_back (queue_cmp a b) (less_from (queue_cmp a b) e);
  chain = λ a b c e f. ap is_lt (queue_total.trans a b c (less_from (queue_cmp a b) e) (less_from (queue_cmp b c) f));
  total = λ a b e f. queue_exact a b (neither (queue_cmp a b) e (ap is_lt (sym (queue_total.antisymm b a)) ∙ f));
}
