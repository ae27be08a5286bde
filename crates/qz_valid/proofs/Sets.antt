-- Sets of keys, and the keys for which rows are counted.
use Rattle.std.proofs.Common.{◌≡◌, ℕ, ◌+◌, ◌≤◌, ◌||◌, Bool, true, false, cond, List, [], ◌∷◌, map, take, count_by, if◌then◌else◌, Option, Some, None, IfSome, IfNone, refl, sym, ap, subst, ◌∙◌, arith, nat_lt}
use Rattle.std.proofs.lemmas.Bool.Decides.{nat_tests}
use Rattle.std.specs.List.{slice_get, list_any}
use Rattle.qz_types.specs.States.{is_acquired_for}
use Rattle.qz_types.specs.Words.{same_key}
use Rattle.qz_types.specs.declared.keys.Key.{Key}
use Rattle.qz_types.specs.Rows.{FiredData}
use Rattle.qz_model.specs.Executions.{is_exclusive_of, is_busy}
use Rattle.qz_model.proofs.RowLaws.{same_key_laws, same_key-exact}
use Rattle.qz_model.proofs.RowPoints.{any_is_count}
use Rattle.qz_valid.specs.Keys.{has, counts, IsTwice}
use Rattle.qz_valid.specs.declared.keys.Counted.{Counted}
use Rattle.qz_valid.specs.declared.keys.Counted.TheVariants.{Acquired, Exclusive}
use Rattle.qz_valid.proofs.Walks.{count_yes, count_no, count_by-take-le}

pub any-map : {R K : Type 0} (p : K → Bool) (f : R → K) (xs : List R) → list_any p (map f xs) ≡ list_any (λ x. p (f x)) xs
any-map p f [] = refl
any-map p f (x ∷ xs) = ap (λ b. p (f x) || b) (any-map p f xs)

pub cond_or : (b c : Bool) → cond b true c ≡ (b || c)
cond_or true c = refl
cond_or false c = refl

-- The keys are those for which a row is counted, and none is counted twice.
abbrev pub Counts : Counted → List FiredData → List Key → Type 0
Counts of rows keys = (k : Key) → count_by (counts of k) rows ≡ (if has k keys then 1 else 0)

pub none_counted : (of : Counted) (rows : List FiredData) (keys : List Key) → keys ≡ [] → Counts of (take 0 rows) keys
unfolding has
none_counted of rows keys none k = rw none refl

has_alike : (a b : Key) (keys : List Key) → same_key a b ≡ true → has a keys ≡ has b keys
has_alike a b keys same = ap (λ (k : Key). has k keys) (same_key-exact a b same)

same_other : (a b : Key) (c : Bool) → same_key a b ≡ c → same_key b a ≡ c
same_other a b c e = same_key_laws.symm b a ∙ e

module _ (of : Counted) (rows : List FiredData) (place : ℕ) (row : FiredData) (at : slice_get rows place ≡ Some row) where
  -- a row of a new key
  pub counted_new : (key : Key) (old new : List Key) → ((k : Key) → counts of k row ≡ same_key k key) → has key old ≡ false → ((k : Key) → has k new ≡ (same_key key k || has k old))
      → Counts of (take place rows) old → Counts of (take (place + 1) rows) new
  counted_new key old new is absent added before k = rw (added k) (elim (same_key key k) as (λ b. same_key key k ≡ b → count_by (counts of k) (take (place + 1) rows) ≡ (if (b || has k old) then 1 else 0)) [
    | true ↦ λ e.
        let none : has k old ≡ false = sym (has_alike key k old e) ∙ absent in
        let was : count_by (counts of k) (take place rows) ≡ 0 = before k ∙ ap (λ (b : Bool). if b then 1 else 0) none in
        count_yes (counts of k) rows place row at (is k ∙ same_other key k true e) ∙ ap (λ (n : ℕ). n + 1) was
    | false ↦ λ e. count_no (counts of k) rows place row at (is k ∙ same_other key k false e) ∙ before k
  ] refl)

  -- a row that isn't counted
  pub counted_none : (keys : List Key) → ((k : Key) → counts of k row ≡ false) → Counts of (take place rows) keys → Counts of (take (place + 1) rows) keys
  counted_none keys is before k = count_no (counts of k) rows place row at (is k) ∙ before k

  -- a row of a key that is there
  pub counted_twice : (key : Key) (old : List Key) → ((k : Key) → counts of k row ≡ same_key k key) → has key old ≡ true → Counts of (take place rows) old → IsTwice of rows
  counted_twice key old is present before =
      let was : count_by (counts of key) (take place rows) ≡ 1 = before key ∙ ap (λ (b : Bool). if b then 1 else 0) present in
      let two : count_by (counts of key) (take (place + 1) rows) ≡ 2 = count_yes (counts of key) rows place row at (is key ∙ same_key_laws.refl key) ∙ ap (λ (n : ℕ). n + 1) was in
      (key, omega (arith, count_by-take-le (counts of key) (place + 1) rows))

-- what the call that makes a set says
pub counts_of : (of : Counted) (rows : List FiredData) (o : Option (List Key)) (keys : List Key) → IfSome o (λ ks. Counts of rows ks) → o ≡ Some keys → Counts of rows keys
counts_of of rows None keys set is = absurd (cc)
counts_of of rows (Some ks) keys set is = let alike : ks ≡ keys = cc in subst (λ (js : List Key). Counts of rows js) alike set

pub twice_of : (of : Counted) (rows : List FiredData) (o : Option (List Key)) → IfNone o (IsTwice of rows) → o ≡ None → IsTwice of rows
twice_of of rows None twice is = twice
twice_of of rows (Some ks) twice is = absurd (cc)

-- What the sets say.

one_where : (b : Bool) (n : ℕ) → n ≡ (if b then 1 else 0) → n ≡ 1 → b ≡ true
one_where true n e one = refl
one_where false n e one = absurd (omega arith)

some_where : (b : Bool) (n : ℕ) → n ≡ (if b then 1 else 0) → nat_lt 0 n ≡ b
some_where true n e = grind (arith, nat_tests)
some_where false n e = grind (arith, nat_tests)

pub at_most_one : (b : Bool) (n : ℕ) → n ≡ (if b then 1 else 0) → n ≤ 1
at_most_one true n e = omega arith
at_most_one false n e = omega arith

module _ (fired : List FiredData) (keys : List Key) where
  -- a key of the first set has just one acquired row
  pub one_acquired : Counts Acquired fired keys → (k : Key) → has k keys ≡ true → count_by (is_acquired_for k) fired ≡ 1
  unfolding counts
  one_acquired set k is = set k ∙ ap (λ (b : Bool). if b then 1 else 0) is

  pub acquired_one : Counts Acquired fired keys → (k : Key) → count_by (is_acquired_for k) fired ≡ 1 → has k keys ≡ true
  unfolding counts
  acquired_one set k one = one_where (has k keys) _ (set k) one

  -- the second set has the jobs with an exclusive execution, each of which has one
  pub busy_is : Counts Exclusive fired keys → (k : Key) → is_busy k fired ≡ has k keys
  unfolding counts is_busy
  busy_is set k = any_is_count (is_exclusive_of k) fired ∙ some_where (has k keys) _ (set k)

  pub one_exclusive : Counts Exclusive fired keys → (k : Key) → count_by (is_exclusive_of k) fired ≤ 1
  unfolding counts
  one_exclusive set k = at_most_one (has k keys) _ (set k)
