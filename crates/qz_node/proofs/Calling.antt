-- The job at the place of a class is the first one of it. The crate that has the jobs as a list executes by these lemmas.
use Rattle.std.proofs.Common.{◌≡◌, ℕ, zero, suc, ◌+◌, ◌<◌, Bool, true, false, ◌||◌, if◌then◌else◌, List, [], ◌∷◌, ◌≤◌, length, map, set, drop, get_or, position, refl, sym, ap, ◌∙◌, arith, rules, subst}
use Rattle.std.specs.Prelude.{Option, Some, None}
use Rattle.std.specs.List.{list_any, position_from}
use Rattle.std.proofs.lemmas.List.{drop_all}
use Rattle.std.proofs.lemmas.List.Quantifiers.{position-Some}
use Rattle.std.proofs.lemmas.Iterator.Adapters.{position_from-zero}
use Rattle.qz_types.specs.declared.commands.Code.{Code}
use Rattle.qz_node.specs.declared.contexts.JobContext.{JobContext}
use Rattle.qz_node.specs.Jobs.{JobMeaning, is_of_class, IsCounted, CallsFirst}

neither : (a b : Bool) → a ≡ false → b ≡ false → (a || b) ≡ false
neither true b first second = first
neither false b first second = second

none_of : (b : Bool) (o : Option ℕ) (j : ℕ) (rest : Bool) → (o ≡ None → rest ≡ false) → (if b then Some j else o) ≡ None → (b || rest) ≡ false
none_of true o j rest goes is = search rules
none_of false o j rest goes is = goes is

module _ {A : Type 0} (means : A → JobMeaning) where
  none_from : (class : List ℕ) (xs : List A) (j : ℕ) → position_from (λ x. is_of_class class (means x)) j xs ≡ None → list_any (is_of_class class) (map means xs) ≡ false
  none_from class [] j is = refl
  none_from class (x ∷ xs) j is = none_of (is_of_class class (means x)) (position_from (λ y. is_of_class class (means y)) (j + 1) xs) j (list_any (is_of_class class) (map means xs)) (none_from class xs (j + 1)) is

  none_past : (class : List ℕ) (xs ys : List A) (n : ℕ) → ys ≡ [] → position (λ x. is_of_class class (means x)) xs ≡ position_from (λ x. is_of_class class (means x)) n ys → list_any (is_of_class class) (map means xs) ≡ false
  none_past class xs ys n empty found =
      none_from class xs 0 (sym (position_from-zero (λ x. is_of_class class (means x)) xs) ∙ found ∙ ap (λ l. position_from (λ x. is_of_class class (means x)) n l) empty)

  -- where the search has come to the end, no job is of the class
  pub no_job : (class : List ℕ) (xs : List A) (n : ℕ) → length xs ≤ n → position (λ x. is_of_class class (means x)) xs ≡ position_from (λ x. is_of_class class (means x)) n (drop n xs) → list_any (is_of_class class) (map means xs) ≡ false
  no_job class xs n past found = none_past class xs (drop n xs) n (drop_all n xs past) found

module _ {A : Type 0} (means : A → JobMeaning) (context : JobContext) (code : Code) where
  called_at : (xs : List A) (n : ℕ) (a b : A) → n < length xs → a ≡ get_or xs n a → is_of_class context.job.class (means (get_or xs n a)) ≡ true → ((k : ℕ) → k < n → is_of_class context.job.class (means (get_or xs k a)) ≡ false) → IsCounted context code (means a) (means b) → CallsFirst context code (map means xs) (map means (set xs n b))
  called_at [] n a b within at is others counts = absurd (omega (arith, within))
  called_at (x ∷ xs) zero a b within at is others counts =
      record { others = []; job = means x; called = means b; further = map means xs; jobs_are = refl; is_first = refl; is_of = is; counts = subst (λ (y : A). IsCounted context code (means y) (means b)) at counts; after_are = refl }
  called_at (x ∷ xs) (suc n) a b within at is others counts =
      let r = called_at xs n a b (omega (arith, within)) at is (λ k below. others (suc k) (omega (arith, below))) counts in
      record { others = means x ∷ r.others; job = r.job; called = r.called; further = r.further; jobs_are = ap (λ l. means x ∷ l) r.jobs_are; is_first = neither (is_of_class context.job.class (means x)) (list_any (is_of_class context.job.class) r.others) (others zero (omega arith)) r.is_first; is_of = r.is_of; counts = r.counts; after_are = ap (λ l. means x ∷ l) r.after_are }

  -- where the job at the place that is found is called, the first job of the class is
  pub calls_first : (xs : List A) (n : ℕ) (a b : A) → position (λ x. is_of_class context.job.class (means x)) xs ≡ Some n → a ≡ get_or xs n a → IsCounted context code (means a) (means b) → CallsFirst context code (map means xs) (map means (set xs n b))
  calls_first xs n a b found at counts =
      let p = position-Some (λ x. is_of_class context.job.class (means x)) xs n a found in
      called_at xs n a b p.0 at p.1 p.2 counts
