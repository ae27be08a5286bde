-- Triggers put in due order are in it, and are the same ones.
use Rattle.std.proofs.Common.{◌≡◌, ◌+◌, ℤ, Bool, true, false, cond, List, [], ◌∷◌, count_by, Option, Some, None, refl, sym, ap, ◌∙◌, if◌then◌else◌}
use Rattle.std.specs.Ordering.{int_cmp, ordering_then, ordering_reverse, is_gt}
use Rattle.std.specs.declared.cmp.Ordering.{Ordering}
use Rattle.std.specs.declared.cmp.Ordering.TheVariants.{Less, Equal, Greater}
use Rattle.std.proofs.lemmas.Cmp.{int_cmp_total}
use Rattle.qz_types.specs.Sorted.{put}
use Rattle.qz_types.specs.Rows.{TriggerData}
use Rattle.qz_types.specs.Words.{key_cmp}
use Rattle.qz_types.specs.Due.{next_cmp, due_cmp, in_due_order}
use Rattle.qz_model.specs.Due.{IsNotAfterFirst, IsInDueOrder}
use Rattle.qz_model.proofs.RowLaws.{key_total}
use Rattle.qz_model.proofs.RowPoints.{count_by-cons, count_by-put}

next_reversed : (a b : Option ℤ) → next_cmp a b ≡ ordering_reverse (next_cmp b a)
next_reversed None None = refl
next_reversed None (Some b) = refl
next_reversed (Some a) None = refl
next_reversed (Some a) (Some b) = int_cmp_total.antisymm a b

then_reversed_by : (o p : Ordering) → ordering_then (ordering_reverse o) (ordering_reverse p) ≡ ordering_reverse (ordering_then o p)
then_reversed_by Less p = refl
then_reversed_by Equal p = refl
then_reversed_by Greater p = refl

then_reversed : (o p x y : Ordering) → x ≡ ordering_reverse o → y ≡ ordering_reverse p → ordering_then x y ≡ ordering_reverse (ordering_then o p)
then_reversed o p x y first second = rw (first, second) (then_reversed_by o p)

due_reversed : (a b : TriggerData) → due_cmp a b ≡ ordering_reverse (due_cmp b a)
unfolding due_cmp
due_reversed a b =
    then_reversed (next_cmp b.next a.next) _ (next_cmp a.next b.next) _ (next_reversed a.next b.next)
    (then_reversed (int_cmp a.spec.priority b.spec.priority) (key_cmp b.spec.key a.spec.key) (int_cmp b.spec.priority a.spec.priority) (key_cmp a.spec.key b.spec.key)
    (int_cmp_total.antisymm b.spec.priority a.spec.priority) (key_total.antisymm a.spec.key b.spec.key))

after_reversed : (o : Ordering) → is_gt o ≡ true → is_gt (ordering_reverse o) ≡ false
after_reversed Less is = absurd (cc)
after_reversed Equal is = refl
after_reversed Greater is = refl

not_both_after : (t u : TriggerData) → is_gt (due_cmp t u) ≡ true → is_gt (due_cmp u t) ≡ false
not_both_after t u is = ap is_gt (due_reversed u t) ∙ after_reversed (due_cmp t u) is

-- the first stays before what is put in after it
first_stays : (x t : TriggerData) (xs : List TriggerData) → is_gt (due_cmp x t) ≡ false → IsNotAfterFirst x xs → IsNotAfterFirst x (put due_cmp (λ y. y) t xs)
first_stays x t [] before first = before
first_stays x t (y ∷ ys) before first = elim (is_gt (due_cmp t y)) as (λ b. IsNotAfterFirst x (if b then y ∷ put due_cmp (λ z. z) t ys else t ∷ y ∷ ys)) [ true ↦ first | false ↦ before ]

ordered-put : (t : TriggerData) (xs : List TriggerData) → IsInDueOrder xs → IsInDueOrder (put due_cmp (λ y. y) t xs)
ordered-put t [] ordered = (tt, tt)
ordered-put t (x ∷ xs) ordered =
    elim (is_gt (due_cmp t x)) as (λ b. is_gt (due_cmp t x) ≡ b → IsInDueOrder (if b then x ∷ put due_cmp (λ y. y) t xs else t ∷ x ∷ xs)) [
      | true ↦ λ after. (first_stays x t xs (not_both_after t x after) ordered.0, ordered-put t xs ordered.1)
      | false ↦ λ not_after. (not_after, ordered)
    ] refl

pub ordered-in_due_order : (ts : List TriggerData) → IsInDueOrder (in_due_order ts)
ordered-in_due_order [] = tt
ordered-in_due_order (t ∷ ts) = ordered-put t (in_due_order ts) (ordered-in_due_order ts)

pub same-in_due_order : (p : TriggerData → Bool) (ts : List TriggerData) → count_by p (in_due_order ts) ≡ count_by p ts
same-in_due_order p [] = refl
same-in_due_order p (t ∷ ts) =
    count_by-put due_cmp (λ x. x) p t (in_due_order ts) ∙ ap (λ n. cond (p t) 1 0 + n) (same-in_due_order p ts) ∙ sym (count_by-cons p t ts)
