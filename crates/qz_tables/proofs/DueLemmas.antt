-- The first of the triggers in due order.
use Rattle.std.proofs.Common.{◌≡◌, ℕ, zero, suc, List, [], ◌∷◌, drop, filter, Bool, true, false, if◌then◌else◌, Option, Some, refl, sym, ap}
use Rattle.std.specs.List.{slice_get}
use Rattle.std.specs.Ordering.{is_gt}
use Rattle.qz_types.specs.Sorted.{put}
use Rattle.qz_types.specs.Rows.{TriggerData}
use Rattle.qz_types.specs.Due.{due_cmp, in_due_order, earlier}

first-put-if : (b : Bool) (t u : TriggerData) (us vs : List TriggerData)
    → slice_get (if b then u ∷ vs else t ∷ us) 0 ≡ Some (if b then u else t)
first-put-if true t u us vs = refl
first-put-if false t u us vs = refl

-- the first after one more trigger is put in
pub first-put : (t : TriggerData) (ts : List TriggerData) → slice_get (put due_cmp (λ x. x) t ts) 0 ≡ Some (earlier t (slice_get ts 0))
first-put t [] = refl
first-put t (u ∷ us) = first-put-if (is_gt (due_cmp t u)) t u (u ∷ us) (put due_cmp (λ x. x) t us)

drop-at : (rows : List TriggerData) (n : ℕ) (t : TriggerData) → slice_get rows n ≡ Some t → drop n rows ≡ t ∷ drop (suc n) rows
drop-at [] n t e = absurd (cc)
drop-at (r ∷ rs) zero t e = let same : r ≡ t = cc in ap (λ x. x ∷ rs) same
drop-at (r ∷ rs) (suc n) t e = drop-at rs n t e

-- one trigger more, from the last on
pub next-due : (p : TriggerData → Bool) (rows : List TriggerData) (n : ℕ) (t : TriggerData) (o : Option TriggerData) → slice_get rows n ≡ Some t → p t ≡ true
    → o ≡ slice_get (in_due_order (filter p (drop (suc n) rows))) 0 → Some (earlier t o) ≡ slice_get (in_due_order (filter p (drop n rows))) 0
next-due p rows n t o at passes rest =
    rw (drop-at rows n t at, passes, rest) (sym (first-put t (in_due_order (filter p (drop (suc n) rows)))))

pub skip-due : (p : TriggerData → Bool) (rows : List TriggerData) (n : ℕ) (t : TriggerData) (o : Option TriggerData) → slice_get rows n ≡ Some t → p t ≡ false
    → o ≡ slice_get (in_due_order (filter p (drop (suc n) rows))) 0 → o ≡ slice_get (in_due_order (filter p (drop n rows))) 0
skip-due p rows n t o at fails rest = rw (drop-at rows n t at, fails) rest
