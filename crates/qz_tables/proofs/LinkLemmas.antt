-- What linking does to the keys of each job.
use Rattle.std.proofs.Common.{◌≡◌, ◌≢◌, ℕ, zero, suc, ◌+◌, ◌<◌, ◌≤◌, List, [], ◌∷◌, ◌++◌, length, map, filter, cond, get_or, Bool, true, false, if◌then◌else◌, Option, Some, None, refl, sym, ap, subst, ◌∙◌, arith, inl, inr}
use Rattle.std.specs.Prelude.{IfSome, is_some, nat_eq, option_map}
use Rattle.std.specs.List.{insert, remove, slice_get}
use Rattle.std.specs.Ordering.{is_eq}
use Rattle.std.proofs.lemmas.Bool.{cases_eq, eq-eqb, ne_eqb}
use Rattle.qz_types.specs.Rows.{TriggerData}
use Rattle.qz_types.specs.Sorted.{row_of}
use Rattle.qz_types.specs.Words.{key_cmp, same_key}
use Rattle.qz_types.specs.declared.keys.Key.{Key}
use Rattle.qz_tables.specs.Slots.{rows_at, with_found, AreFilled, AreEdited, IsWritten}
use Rattle.qz_tables.specs.Changes.{trigger_edited}
use Rattle.qz_tables.specs.declared.edits.TriggerEdit.{TriggerEdit}
use Rattle.qz_tables.specs.declared.edits.TriggerEdit.TheVariants.{State, Fire, Move, Years}
use Rattle.qz_tables.specs.Linking.{keys_of, links_of}
use Rattle.qz_tables.specs.Once.{times, AreOnce}
use Rattle.qz_tables.specs.Links.{linked, KeepsLinks, IsTakenOut, IsLinked, IsUnlinked, IsMoved}
use Rattle.qz_tables.proofs.Filled.{Keep, keep-vacant, filled-kept, length-rows, rows-kept, rows-remove, rows-insert as rows_at-insert, nth_slot}
use Rattle.qz_tables.specs.ByJob.{AreByJob, IsBoundOf}
use Rattle.qz_tables.specs.declared.by_job.Bound.TheVariants.{Upper}
use Rattle.qz_tables.proofs.ByJobLemmas.{by_job-last, by_job-remove as by_job-removed, by_jobs, after-upper}
use Rattle.qz_tables.proofs.OnceLemmas.{once-insert as once-put, filled-once}
use Rattle.qz_tables.proofs.ByIds.{found_id}
use Rattle.qz_tables.proofs.Written.{AreApart}
use Rattle.qz_tables.proofs.Keys.{key_exact, key_itself, key_differs}

-- ---- how often a number stands in a list

times-first : (n x : ℕ) (xs : List ℕ) → times n (x ∷ xs) ≡ times n xs + times n (x ∷ [])
times-first n x xs = elim (nat_eq n x) as (λ b. (if b then suc (times n xs) else times n xs) ≡ times n xs + (if b then 1 else 0)) [
  | true ↦ omega arith
  | false ↦ omega arith
]

some_number : (n m : ℕ) → Some n ≡ Some m → n ≡ m
some_number n m e = cc

pub times-remove : (n m i : ℕ) (xs : List ℕ) → slice_get xs i ≡ Some m → times n xs ≡ times n (remove xs i) + times n (m ∷ [])
times-remove n m i [] e = absurd (cc)
times-remove n m zero (x ∷ xs) e = times-first n x xs ∙ ap (λ y. times n xs + times n (y ∷ [])) (some_number x m e)
times-remove n m (suc i) (x ∷ xs) e = omega (arith, times-first n x xs, times-first n x (remove xs i), times-remove n m i xs e)

once_here : (n : ℕ) → times n (n ∷ []) ≡ 1
once_here n = rw (eq-eqb n n refl) refl

never_here : (n m : ℕ) → n ≢ m → times n (m ∷ []) ≡ 0
never_here n m differs = rw (ne_eqb n m differs) refl

slot_in_range : (xs : List ℕ) (i m : ℕ) → slice_get xs i ≡ Some m → i < length xs
slot_in_range [] i m e = absurd (cc)
slot_in_range (x ∷ xs) zero m e = omega arith
slot_in_range (x ∷ xs) (suc i) m e = let l = slot_in_range xs i m e in omega arith

-- ---- the keys of a job

abbrev has : Key → List TriggerData → Bool
has k [] = false
has k (x ∷ xs) = if is_eq (key_cmp k x.spec.job) then true else has k xs

links-found : (k : Key) (rows xs : List TriggerData) → linked k (map (λ r. (r.spec.job, keys_of r.spec.job rows)) xs) ≡ (if has k xs then keys_of k rows else [])
links-found k rows [] = refl
links-found k rows (x ∷ xs) = elim (is_eq (key_cmp k x.spec.job)) as (λ b. is_eq (key_cmp k x.spec.job) ≡ b → (if b then keys_of x.spec.job rows else linked k (map (λ r. (r.spec.job, keys_of r.spec.job rows)) xs)) ≡ (if (if b then true else has k xs) then keys_of k rows else [])) [
  | true ↦ λ e. ap (λ j. keys_of j rows) (sym (key_exact k x.spec.job e))
  | false ↦ λ e. links-found k rows xs
] refl

keys-none : (k : Key) (xs : List TriggerData) → (if has k xs then keys_of k xs else []) ≡ keys_of k xs
keys-none k [] = refl
keys-none k (x ∷ xs) = elim (is_eq (key_cmp k x.spec.job)) as (λ b. (if (if b then true else has k xs) then map (λ r. r.spec.key) (cond b (x ∷ filter (λ r. is_eq (key_cmp k r.spec.job)) xs) (filter (λ r. is_eq (key_cmp k r.spec.job)) xs)) else []) ≡ map (λ r. r.spec.key) (cond b (x ∷ filter (λ r. is_eq (key_cmp k r.spec.job)) xs) (filter (λ r. is_eq (key_cmp k r.spec.job)) xs))) [
  | true ↦ refl
  | false ↦ keys-none k xs
]

-- the list of a job has the keys of its triggers
pub linked-links : (k : Key) (rows : List TriggerData) → linked k (links_of rows) ≡ keys_of k rows
linked-links k rows = links-found k rows rows ∙ keys-none k rows

keys-cons : (k : Key) (x : TriggerData) (xs : List TriggerData) → keys_of k (x ∷ xs) ≡ (if is_eq (key_cmp k x.spec.job) then x.spec.key ∷ keys_of k xs else keys_of k xs)
keys-cons k x xs = elim (is_eq (key_cmp k x.spec.job)) as (λ b. map (λ r. r.spec.key) (cond b (x ∷ filter (λ r. is_eq (key_cmp k r.spec.job)) xs) (filter (λ r. is_eq (key_cmp k r.spec.job)) xs)) ≡ (if b then x.spec.key ∷ keys_of k xs else keys_of k xs)) [
  | true ↦ refl
  | false ↦ refl
]

snoc_step : (b : Bool) (x : Key) (xs ys zs : List Key) → xs ≡ ys ++ zs → (if b then x ∷ xs else xs) ≡ (if b then x ∷ ys else ys) ++ zs
snoc_step true x xs ys zs e = ap (λ l. x ∷ l) e
snoc_step false x xs ys zs e = e

same_step : (b : Bool) (x : Key) (xs ys : List Key) → xs ≡ ys → (if b then x ∷ xs else xs) ≡ (if b then x ∷ ys else ys)
same_step true x xs ys e = ap (λ l. x ∷ l) e
same_step false x xs ys e = e

-- no trigger is of this job
keys-never : (k : Key) (xs : List TriggerData) → ((i : ℕ) (q : TriggerData) → slice_get xs i ≡ Some q → is_eq (key_cmp k q.spec.job) ≡ false) → keys_of k xs ≡ []
keys-never k [] h = refl
keys-never k (x ∷ xs) h = keys-cons k x xs ∙ rw (h 0 x refl) (keys-never k xs (λ i q e. h (suc i) q e))

-- a trigger that is put after all of its job
keys-last : (k : Key) (r : TriggerData) (n : ℕ) (xs : List TriggerData) → n ≤ length xs → ((i : ℕ) (q : TriggerData) → n ≤ i → slice_get xs i ≡ Some q → is_eq (key_cmp k q.spec.job) ≡ false)
    → is_eq (key_cmp k r.spec.job) ≡ true → keys_of k (insert xs n r) ≡ keys_of k xs ++ r.spec.key ∷ []
keys-last k r zero xs le h e =
    let never = keys-never k xs (λ i q at. h i q (omega arith) at) in
    keys-cons k r xs ∙ rw (e, never) refl
keys-last k r (suc n) [] le h e = absurd (omega arith)
keys-last k r (suc n) (x ∷ xs) le h e =
    keys-cons k x (insert xs n r) ∙ snoc_step (is_eq (key_cmp k x.spec.job)) x.spec.key _ _ _ (keys-last k r n xs (omega arith) (λ i q l at. h (suc i) q (omega arith) at) e) ∙ ap (λ l. l ++ r.spec.key ∷ []) (sym (keys-cons k x xs))

keys-put_other : (k : Key) (r : TriggerData) (n : ℕ) (xs : List TriggerData) → n ≤ length xs → is_eq (key_cmp k r.spec.job) ≡ false → keys_of k (insert xs n r) ≡ keys_of k xs
keys-put_other k r zero xs le e = keys-cons k r xs ∙ rw e refl
keys-put_other k r (suc n) [] le e = absurd (omega arith)
keys-put_other k r (suc n) (x ∷ xs) le e = keys-cons k x (insert xs n r) ∙ same_step (is_eq (key_cmp k x.spec.job)) x.spec.key _ _ (keys-put_other k r n xs (omega arith) e) ∙ sym (keys-cons k x xs)

taken_step : (b : Bool) (x y : Key) (xs ys : List Key) → IsTakenOut y xs ys → IsTakenOut y (if b then x ∷ xs else xs) (if b then x ∷ ys else ys)
taken_step true x y xs ys t = record { before = x ∷ t.before; after = t.after; was = ap (λ l. x ∷ l) t.was; is = ap (λ l. x ∷ l) t.is }
taken_step false x y xs ys t = t

some_trigger : (x r : TriggerData) → Some x ≡ Some r → x ≡ r
some_trigger x r e = cc

pub keys-taken : (k : Key) (r : TriggerData) (i : ℕ) (xs : List TriggerData) → slice_get xs i ≡ Some r → is_eq (key_cmp k r.spec.job) ≡ true → IsTakenOut r.spec.key (keys_of k xs) (keys_of k (remove xs i))
keys-taken k r i [] at e = absurd (cc)
keys-taken k r zero (x ∷ xs) at e =
    let same = some_trigger x r at in
    record { before = []; after = keys_of k xs; was = ap (λ y. keys_of k (y ∷ xs)) same ∙ keys-cons k r xs ∙ rw e refl; is = refl }
keys-taken k r (suc i) (x ∷ xs) at e =
    rw (keys-cons k x xs, keys-cons k x (remove xs i)) (taken_step (is_eq (key_cmp k x.spec.job)) x.spec.key r.spec.key _ _ (keys-taken k r i xs at e))

pub keys-untaken : (k : Key) (r : TriggerData) (i : ℕ) (xs : List TriggerData) → slice_get xs i ≡ Some r → is_eq (key_cmp k r.spec.job) ≡ false → keys_of k (remove xs i) ≡ keys_of k xs
keys-untaken k r i [] at e = absurd (cc)
keys-untaken k r zero (x ∷ xs) at e = sym (ap (λ y. keys_of k (y ∷ xs)) (some_trigger x r at) ∙ keys-cons k r xs ∙ rw e refl)
keys-untaken k r (suc i) (x ∷ xs) at e = keys-cons k x (remove xs i) ∙ same_step (is_eq (key_cmp k x.spec.job)) x.spec.key _ _ (keys-untaken k r i xs at e) ∙ sym (keys-cons k x xs)

-- ---- slots

keep-never : (old new : List (Option TriggerData)) (slot : ℕ) (xs : List ℕ) → times slot xs ≡ 0 → ((other : ℕ) → other ≢ slot → get_or new other None ≡ get_or old other None) → Keep old new xs
keep-never old new slot [] never others = tt
keep-never old new slot (x ∷ xs) never others =
    (others x (λ e. absurd (omega (arith, times-first slot x xs, ap (λ y. times slot (y ∷ [])) e, once_here slot))), keep-never old new slot xs (omega (arith, times-first slot x xs)) others)

some_count : (o : Option TriggerData) (r : TriggerData) (n : ℕ) → n ≡ (if is_some o then 1 else 0) → o ≡ Some r → n ≡ 1
some_count o r n e f = rw f at e

count_none : (o : Option TriggerData) (n : ℕ) → n ≡ 0 → o ≡ None → n ≡ (if is_some o then 1 else 0)
count_none o n e f = rw f e

count_some : (o : Option TriggerData) (r : TriggerData) (n : ℕ) → n ≡ 1 → o ≡ Some r → n ≡ (if is_some o then 1 else 0)
count_some o r n e f = rw f e

module _ (old new : List (Option TriggerData)) (order : List ℕ) (slot : ℕ) (r : TriggerData) (once : AreOnce old order) where
  module _ (vacant : get_or old slot None ≡ None) (written : IsWritten old new slot (Some r)) (n : ℕ) (bound : IsBoundOf (λ (t : TriggerData). t.spec.job) Upper r.spec.job (rows_at old order) n) where
    filled : AreFilled old order
    filled = filled-once old order once

    pub within_order : n ≤ length order
    within_order = let w = bound.within in omega (arith, w, length-rows old order filled)

    rows-insert : rows_at new (insert order n slot) ≡ insert (rows_at old order) n r
    rows-insert =
        let kept = keep-vacant old new order slot filled vacant written.others in
        rows_at-insert new order n slot r (filled-kept old new order kept filled) written.changed within_order ∙ ap (λ xs. insert xs n r) (rows-kept old new order kept)

    pub once-insert : AreOnce new (insert order n slot)
    once-insert = once-put old new order slot n once r vacant written.changed written.others within_order

    pub by_job-insert : AreByJob (λ (t : TriggerData). t.spec.job) (rows_at old order) → AreByJob (λ (t : TriggerData). t.spec.job) (rows_at new (insert order n slot))
    by_job-insert sorted = subst (λ xs. AreByJob (λ (t : TriggerData). t.spec.job) xs) (sym rows-insert) (by_job-last (λ (t : TriggerData). t.spec.job) (rows_at old order) n r sorted bound)

    pub links-insert : IsLinked r.spec.job r.spec.key (links_of (rows_at old order)) (links_of (rows_at new (insert order n slot)))
    links-insert = record {
      here = linked-links r.spec.job _ ∙ ap (keys_of r.spec.job) rows-insert ∙ keys-last r.spec.job r n (rows_at old order) bound.within (λ i q le at. after-upper (λ (t : TriggerData). t.spec.job) r.spec.job (rows_at old order) n bound i q le at) (key_itself r.spec.job) ∙ ap (λ xs. xs ++ r.spec.key ∷ []) (sym (linked-links r.spec.job (rows_at old order)));
      others = λ other differs. linked-links other _ ∙ ap (keys_of other) rows-insert ∙ keys-put_other other r n (rows_at old order) bound.within (key_differs other r.spec.job differs) ∙ sym (linked-links other (rows_at old order));
    }

  module _ (was : get_or old slot None ≡ Some r) (written : IsWritten old new slot None) (i : ℕ) (at : slice_get order i ≡ Some slot) where
    gone : times slot (remove order i) ≡ 0
    gone = omega (arith, times-remove slot slot i order at, some_count (get_or old slot None) r (times slot order) (once.once slot) was, once_here slot)

    pub once-remove : AreOnce new (remove order i)
    once-remove = record {
      once = λ s. elim (cases_eq s slot) [
        | inl same ↦ count_none (get_or new s None) _ (ap (λ y. times y (remove order i)) same ∙ gone) (ap (λ y. get_or new y None) same ∙ written.changed)
        | inr differs ↦ subst (λ o. times s (remove order i) ≡ (if is_some o then 1 else 0)) (sym (written.others s differs)) (omega (arith, times-remove s slot i order at, never_here s slot differs) ∙ once.once s)
      ];
    }

    rows-removed : rows_at new (remove order i) ≡ remove (rows_at old order) i
    rows-removed =
        rows-kept old new (remove order i) (keep-never old new slot (remove order i) gone written.others)
        ∙ rows-remove old order i (filled-once old order once) (slot_in_range order i slot at)

    pub by_job-remove : AreByJob (λ (t : TriggerData). t.spec.job) (rows_at old order) → AreByJob (λ (t : TriggerData). t.spec.job) (rows_at new (remove order i))
    by_job-remove sorted = subst (λ xs. AreByJob (λ (t : TriggerData). t.spec.job) xs) (sym rows-removed) (by_job-removed (λ (t : TriggerData). t.spec.job) (rows_at old order) i sorted)

    at_row : slice_get (rows_at old order) i ≡ Some r
    at_row = nth_slot old order i slot (filled-once old order once) at ∙ was

    pub links-remove : IsUnlinked r.spec.job r.spec.key (links_of (rows_at old order)) (links_of (rows_at new (remove order i)))
    links-remove = record {
      here = rw (linked-links r.spec.job (rows_at old order), linked-links r.spec.job (rows_at new (remove order i)), rows-removed) (keys-taken r.spec.job r i (rows_at old order) at_row (key_itself r.spec.job));
      others = λ other differs. linked-links other _ ∙ ap (keys_of other) rows-removed ∙ keys-untaken other r i (rows_at old order) at_row (key_differs other r.spec.job differs) ∙ sym (linked-links other (rows_at old order));
    }

-- ---- triggers that keep their keys and jobs

abbrev pub tie : TriggerData → Key × Key
tie r = (r.spec.job, r.spec.key)

-- each slot has a trigger of the same key and job as before, or none as before
abbrev pub AreAlike : List (Option TriggerData) → List (Option TriggerData) → Type 0
AreAlike old new = (s : ℕ) → option_map tie (get_or new s None) ≡ option_map tie (get_or old s None)

some_tie : (a b : Key × Key) → Some a ≡ Some b → a ≡ b
some_tie a b e = cc

alike_step : (k : Key) (o n : Option TriggerData) (xs ys : List TriggerData) → option_map tie n ≡ option_map tie o → keys_of k ys ≡ keys_of k xs → keys_of k (with_found n ys) ≡ keys_of k (with_found o xs)
alike_step k None None xs ys e h = h
alike_step k None (Some b) xs ys e h = absurd (cc)
alike_step k (Some a) None xs ys e h = absurd (cc)
alike_step k (Some a) (Some b) xs ys e h =
    let t = some_tie (tie b) (tie a) e in
    keys-cons k b ys ∙ ap (λ p. if is_eq (key_cmp k p.0) then p.1 ∷ keys_of k ys else keys_of k ys) t ∙ same_step (is_eq (key_cmp k a.spec.job)) a.spec.key _ _ h ∙ sym (keys-cons k a xs)

keys-alike : (k : Key) (old new : List (Option TriggerData)) (order : List ℕ) → AreAlike old new → keys_of k (rows_at new order) ≡ keys_of k (rows_at old order)
keys-alike k old new [] alike = refl
keys-alike k old new (s ∷ ss) alike = alike_step k (get_or old s None) (get_or new s None) (rows_at old ss) (rows_at new ss) (alike s) (keys-alike k old new ss alike)

pub links-alike : (old new : List (Option TriggerData)) (order : List ℕ) → AreAlike old new → KeepsLinks (links_of (rows_at old order)) (links_of (rows_at new order))
links-alike old new order alike k = linked-links k (rows_at new order) ∙ keys-alike k old new order alike ∙ sym (linked-links k (rows_at old order))

jobs_step : (o n : Option TriggerData) (xs ys : List TriggerData) → option_map tie n ≡ option_map tie o → map (λ (t : TriggerData). t.spec.job) ys ≡ map (λ (t : TriggerData). t.spec.job) xs
    → map (λ (t : TriggerData). t.spec.job) (with_found n ys) ≡ map (λ (t : TriggerData). t.spec.job) (with_found o xs)
jobs_step None None xs ys e h = h
jobs_step None (Some b) xs ys e h = absurd (cc)
jobs_step (Some a) None xs ys e h = absurd (cc)
jobs_step (Some a) (Some b) xs ys e h =
    let t = some_tie (tie b) (tie a) e in
    ap (λ (p : Key × Key). p.0 ∷ map (λ (x : TriggerData). x.spec.job) ys) t ∙ ap (λ ks. a.spec.job ∷ ks) h

jobs-alike : (old new : List (Option TriggerData)) (order : List ℕ) → AreAlike old new → map (λ (t : TriggerData). t.spec.job) (rows_at new order) ≡ map (λ (t : TriggerData). t.spec.job) (rows_at old order)
jobs-alike old new [] alike = refl
jobs-alike old new (s ∷ ss) alike = jobs_step (get_or old s None) (get_or new s None) (rows_at old ss) (rows_at new ss) (alike s) (jobs-alike old new ss alike)

pub by_job-alike : (old new : List (Option TriggerData)) (order : List ℕ) → AreAlike old new → AreByJob (λ (t : TriggerData). t.spec.job) (rows_at old order) → AreByJob (λ (t : TriggerData). t.spec.job) (rows_at new order)
by_job-alike old new order alike sorted = by_jobs (λ (t : TriggerData). t.spec.job) (rows_at old order) (rows_at new order) (jobs-alike old new order alike) sorted

some_alike : (o n : Option TriggerData) → option_map tie n ≡ option_map tie o → is_some n ≡ is_some o
some_alike None None e = refl
some_alike None (Some b) e = absurd (cc)
some_alike (Some a) None e = absurd (cc)
some_alike (Some a) (Some b) e = refl

pub once-alike : (old new : List (Option TriggerData)) (order : List ℕ) → AreAlike old new → AreOnce old order → AreOnce new order
once-alike old new order alike once = record { once = λ s. once.once s ∙ ap (λ b. if b then 1 else 0) (sym (some_alike (get_or old s None) (get_or new s None) (alike s))) }

pub edited_tie : (e : TriggerEdit) (o : Option TriggerData) → option_map tie (option_map (trigger_edited e) o) ≡ option_map tie o
edited_tie (State state) None = refl
edited_tie (State state) (Some r) = refl
edited_tie (Fire next state) None = refl
edited_tie (Fire next state) (Some r) = refl
edited_tie (Move moved) None = refl
edited_tie (Move moved) (Some r) = refl
edited_tie (Years change) None = refl
edited_tie (Years change) (Some r) = refl

-- an edit of a trigger keeps its key and its job
pub alike-edited : (e : TriggerEdit) (old new : List (Option TriggerData)) → AreEdited (λ o n. n ≡ option_map (trigger_edited e) o) old new → AreAlike old new
alike-edited e old new edited s = elim (edited s) [
  | inl same ↦ ap (option_map tie) same
  | inr is ↦ ap (option_map tie) is ∙ edited_tie e (get_or old s None)
]

-- so does a trigger of the same key and job in its place
pub alike-replaced : (a b : TriggerData) (old new : List (Option TriggerData)) → tie b ≡ tie a → AreEdited (λ o n. (o ≡ Some a) × (n ≡ Some b)) old new → AreAlike old new
alike-replaced a b old new same edited s = elim (edited s) [
  | inl kept ↦ ap (option_map tie) kept
  | inr is ↦ ap (option_map tie) is.1 ∙ ap Some same ∙ sym (ap (option_map tie) is.0)
]

-- a key that is taken out of the list of one job and then put last in that of another
pub moved : (from to key : Key) (old mid new : List (Key × List Key)) → from ≢ to → IsUnlinked from key old mid → IsLinked to key mid new → IsMoved from to key old new
moved from to key old mid new differ out in_ = record {
  here = rw (in_.others from differ) out.here;
  there = in_.here ∙ ap (λ xs. xs ++ key ∷ []) (out.others to (λ e. differ (sym e)));
  others = λ other f t. in_.others other t ∙ out.others other f;
}

-- ---- the trigger of a key

pub trigger_key : (k : Key) (r : TriggerData) (rows : List TriggerData) → row_of key_cmp (λ (t : TriggerData). t.spec.key) k rows ≡ Some r → k ≡ r.spec.key
trigger_key k r rows e = key_exact k r.spec.key (found_id key_cmp (λ (t : TriggerData). t.spec.key) k r rows e)

pub if_found : (o : Option TriggerData) (r : TriggerData) (P : TriggerData → Type 0) → Some r ≡ o → IfSome o P → P r
if_found o r P e h = rw (← e) at h

pub same_job : (job : Key) (o : Option TriggerData) → IfSome o (λ r. true ≡ is_eq (key_cmp r.spec.job job)) → IfSome o (λ r. r.spec.job ≡ job)
same_job job None h = tt
same_job job (Some r) h = key_exact r.spec.job job (sym h)

true_false : (b : Bool) → false ≡ b → b ≡ true → ⊥
true_false b e f = cc

pub other_job : (job : Key) (o : Option TriggerData) → IfSome o (λ r. false ≡ is_eq (key_cmp r.spec.job job)) → IfSome o (λ r. r.spec.job ≢ job)
other_job job None h = tt
other_job job (Some r) h = λ e. true_false (is_eq (key_cmp r.spec.job job)) h (ap (λ j. is_eq (key_cmp j job)) e ∙ key_itself job)

pub tie_is : (a b : TriggerData) → b.spec.job ≡ a.spec.job → b.spec.key ≡ a.spec.key → tie b ≡ tie a
tie_is a b e f = ap (λ (j : Key). (j, b.spec.key)) e ∙ ap (λ (k : Key). (a.spec.job, k)) f

-- a trigger of one job is of no other
pub other_job_only : (job other : Key) (row : TriggerData) → other ≢ job → same_key job row.spec.job ≡ true → row.spec.job ≢ other
unfolding same_key
other_job_only job other row differs e = λ q. differs (sym q ∙ sym (key_exact job row.spec.job e))

-- a trigger stands in one slot, so that its place is that of the slot which it was found in
pub taken-place : (slots : List (Option TriggerData)) (linked : List ℕ) (s t place : ℕ) (r : TriggerData) (o : Option TriggerData) → AreApart slots → get_or slots s None ≡ o → Some r ≡ o → get_or slots t None ≡ Some r
    → slice_get linked place ≡ Some s → slice_get linked place ≡ Some t
taken-place slots linked s t place r o apart here is there at = at ∙ ap Some (apart s t r r (here ∙ sym is) there (key_itself r.spec.key))

pub place_within : (xs : List ℕ) (i m : ℕ) → slice_get xs i ≡ Some m → i < length xs
place_within = slot_in_range
