-- Reading items one after the other, as a loop does.
use Rattle.std.proofs.Common.{◌≡◌, ℕ, suc, ◌-◌, ◌+◌, ◌≤◌, ◌<◌, List, [], ◌∷◌, ◌++◌, Option, Some, Ok, Err, refl, sym, ap, ◌∙◌, append_assoc, arith}
use Rattle.std.proofs.lemmas.List.{append-nil}
use Rattle.qz_values.specs.declared.faults.Fault.{Fault}
use Rattle.qz_values.specs.declared.faults.Fault.TheVariants as faults
use Rattle.qz_values.specs.Fields.{◌>>=◌, Read}
use Rattle.qz_values.specs.Reading.{Fails}
use Rattle.qz_values.specs.Lists.{items_at}

-- what was read before, and what is still read
abbrev pub with_front : {A : Type 0} → List A → Read (List A) → Read (List A)
with_front front read = read >>= λ xs. Ok (front ++ xs.0, xs.1)

regroup : {A : Type 0} (front : List A) (x : A) (read : Read (List A)) → with_front front (read >>= λ xs. Ok (x ∷ xs.0, xs.1)) ≡ with_front (front ++ x ∷ []) read
regroup {A} front x (Ok xs) = ap (λ (ys : List A). Ok (ys, xs.1)) (simp append_assoc)
regroup front x (Err left) = refl

pub goes_on : {A : Type 0} (read : Option A → List ℕ → Read A) (front : List A) (count i : ℕ) (before : Option A) (bytes : List ℕ) (x : A) (after : List ℕ) (total : Read (List A)) → i < count → read before bytes ≡ Ok (x, after)
    → with_front front (items_at read (count - i) before bytes) ≡ total → with_front (front ++ x ∷ []) (items_at read (count - (i + 1)) (Some x) after) ≡ total
goes_on read front count i before bytes x after total lt h so_far =
    let k : count - i ≡ suc (count - (i + 1)) = omega arith in
    let one : with_front front (items_at read (count - i) before bytes) ≡ with_front (front ++ x ∷ []) (items_at read (count - (i + 1)) (Some x) after) = rw (k, h) (regroup front x (items_at read (count - (i + 1)) (Some x) after)) in
    sym one ∙ so_far

pub ends : {A : Type 0} (read : Option A → List ℕ → Read A) (e : Fault) (front : List A) (count i : ℕ) (before : Option A) (bytes : List ℕ) (total : Read (List A)) → i < count → Fails e (read before bytes)
    → with_front front (items_at read (count - i) before bytes) ≡ total → Fails e total
ends read faults.NoMemory front count i before bytes total lt h so_far = tt
ends read (faults.Wrong left) front count i before bytes total lt h so_far =
    let k : count - i ≡ suc (count - (i + 1)) = omega arith in
    let one : with_front front (items_at read (count - i) before bytes) ≡ Err left = rw (k, h) refl in
    sym so_far ∙ one

pub is_done : {A : Type 0} (read : Option A → List ℕ → Read A) (front : List A) (count i : ℕ) (before : Option A) (bytes : List ℕ) (total : Read (List A)) → count ≤ i → with_front front (items_at read (count - i) before bytes) ≡ total → total ≡ Ok (front, bytes)
is_done {A} read front count i before bytes total le so_far =
    let k : count - i ≡ 0 = omega arith in
    let one : with_front front (items_at read (count - i) before bytes) ≡ Ok (front, bytes) = rw k (ap (λ (xs : List A). Ok (xs, bytes)) (append-nil front)) in
    sym so_far ∙ one
