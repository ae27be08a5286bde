-- Triggers that the scheduler added have fresh numbers, from the tests of names and back.
use Rattle.std.proofs.Common.{◌≡◌, ℕ, ◌<◌, ◌≤◌, ◌^◌, true, false, nat_lt, is_none, List, [], ◌∷◌, Option, Some, None, if◌then◌else◌, refl, ap, subst, ◌∙◌, arith}
use Rattle.std.specs.List.{AllByRecursion}
use Rattle.std.specs.Bool.{Decides}
use Rattle.std.proofs.lemmas.Bool.Decides.{Decides-and, Decides-eqb, Decides-ltb}
use Rattle.qz_types.specs.Rows.{TriggerData}
use Rattle.qz_types.specs.Sorted.{IsAscending}
use Rattle.qz_types.specs.Tables.{SchedulerTables}
use Rattle.qz_types.specs.Words.{key_cmp, fired_of}
use Rattle.qz_types.specs.declared.limits.TheConstants.{NUMBER_LIMIT}
use Rattle.qz_model.specs.Triggers.{is_reserved}
use Rattle.qz_model.specs.Invariant.{EndsIn, IsNumbered}
use Rattle.qz_model.proofs.RowPoints.{All-weaker, All-both}
use Rattle.qz_model.proofs.RowLaws.{key_total}
use Rattle.qz_valid.specs.Names.{number_of, added_number, is_number, is_spent, name_fits, AreApart}
use Rattle.qz_valid.proofs.Apart.{has_number, one_passes, few_pass}
use Rattle.qz_valid.proofs.Deciding.{itself, implied, none_decided}
use Rattle.qz_valid.proofs.NameNumbers.{number_is_read, read_is_number}

-- each trigger that the scheduler added is named by a number that nothing else has
abbrev pub Named : SchedulerTables → Type 0
Named T = AllByRecursion (λ t. is_reserved t.spec.key.group ≡ true → (number : ℕ) × IsNumbered T t number) T.triggers

all_for : {R I : Type 0} (P : I → R → Type 0) (xs : List R) → ((i : I) → AllByRecursion (P i) xs) → AllByRecursion (λ x. (i : I) → P i x) xs
all_for P [] f = tt
all_for P (x ∷ xs) f = (λ i. (f i).0, all_for P xs (λ i. (f i).1))

small : (n next : ℕ) → n < next → next ≤ NUMBER_LIMIT → n < 2 ^ 64
small n next lt le = omega arith

-- The number of a name.

added_is : (t : TriggerData) (n : ℕ) → is_reserved t.spec.key.group ≡ true → number_of t.spec.key.name ≡ Some n → added_number t ≡ Some n
unfolding added_number
added_is t n reserved number = rw reserved number

added_parts : (t : TriggerData) (n : ℕ) → added_number t ≡ Some n → (is_reserved t.spec.key.group ≡ true) × (number_of t.spec.key.name ≡ Some n)
unfolding added_number
added_parts t n is = elim (is_reserved t.spec.key.group) as (λ b. (if b then number_of t.spec.key.name else None) ≡ Some n → (b ≡ true) × (number_of t.spec.key.name ≡ Some n)) [
  | true ↦ λ e. (refl, e)
  | false ↦ λ e. absurd (cc)
] is

number_decided : (n : ℕ) (o : Option ℕ) → Decides (is_number n o) (o ≡ Some n)
number_decided n None = (λ h. absurd (cc), λ e. absurd (cc))
number_decided n (Some m) = (λ h. ap Some ((Decides-eqb m n).0 h), λ e. let same : m ≡ n = cc in (Decides-eqb m n).1 same)

-- the number of an added trigger, by the definition and as it is read
added_named : (t : TriggerData) (n : ℕ) → n < 2 ^ 64 → is_reserved t.spec.key.group ≡ true → EndsIn t.spec.key.name n → added_number t ≡ Some n
added_named t n below reserved ends = added_is t n reserved (number_is_read t.spec.key.name n below ends)

spent_decided : (T : SchedulerTables) (n : ℕ) → Decides (is_spent T (Some n)) ((n < T.next_entry) × (fired_of n T.fired ≡ None))
spent_decided T n = Decides-and (nat_lt n T.next_entry) (is_none (fired_of n T.fired)) (Decides-ltb n T.next_entry) (none_decided (fired_of n T.fired))

fits_decided : (T : SchedulerTables) (t : TriggerData) → Decides (name_fits T t) (is_reserved t.spec.key.group ≡ true → is_spent T (added_number t) ≡ true)
unfolding name_fits
fits_decided T t = implied (is_reserved t.spec.key.group) (is_spent T (added_number t)) (itself _) (itself _)

module _ (T : SchedulerTables) (limit : T.next_entry ≤ NUMBER_LIMIT) where
  -- From the tests.

  numbered : (t : TriggerData) (o : Option ℕ) → added_number t ≡ o → is_spent T o ≡ true
      → ((n : ℕ) → has_number n t ≡ true → AllByRecursion (λ u. has_number n u ≡ true → u ≡ t) T.triggers) → (number : ℕ) × IsNumbered T t number
  numbered t None is spent only = absurd (cc)
  numbered t (Some n) is spent only =
      let parts = (spent_decided T n).0 spent in
      let below : n < T.next_entry = parts.0 in
      let read = added_parts t n is in (
        n,
        record {
          named = (read_is_number t.spec.key.name n read.1).0;
          below = below;
          no_row = parts.1;
          alone = All-weaker (λ u. has_number n u ≡ true → u ≡ t) (λ u. is_reserved u.spec.key.group ≡ true → EndsIn u.spec.key.name n → u.spec.key ≡ t.spec.key) T.triggers
              (λ u same added ends. ap (λ (x : TriggerData). x.spec.key) (same ((number_decided n (added_number u)).1 (added_named u n (small n T.next_entry below limit) added ends))))
              (only n ((number_decided n (added_number t)).1 is));
        },
      )

  pub named_from : AllByRecursion (λ t. name_fits T t ≡ true) T.triggers → AreApart T.triggers → Named T
  named_from fit apart = All-both (λ t. name_fits T t ≡ true) (λ t. (n : ℕ) → has_number n t ≡ true → AllByRecursion (λ u. has_number n u ≡ true → u ≡ t) T.triggers)
      (λ t. is_reserved t.spec.key.group ≡ true → (number : ℕ) × IsNumbered T t number) T.triggers
      (λ t fits only reserved. numbered t (added_number t) refl ((fits_decided T t).0 fits reserved) only)
      fit
      (all_for (λ n t. has_number n t ≡ true → AllByRecursion (λ u. has_number n u ≡ true → u ≡ t) T.triggers) T.triggers (λ n. one_passes (has_number n) T.triggers (apart n)))

  -- And back.

  fit_one : (t : TriggerData) → (is_reserved t.spec.key.group ≡ true → (number : ℕ) × IsNumbered T t number) → name_fits T t ≡ true
  fit_one t is = (fits_decided T t).1 (λ reserved.
      let x = is reserved in
      let number : added_number t ≡ Some x.0 = added_named t x.0 (small x.0 T.next_entry x.1.below limit) reserved x.1.named in
      ap (is_spent T) number ∙ (spent_decided T x.0).1 (x.1.below, x.1.no_row))

  alone_from : (n : ℕ) (t : TriggerData) → (is_reserved t.spec.key.group ≡ true → (number : ℕ) × IsNumbered T t number) → has_number n t ≡ true
      → AllByRecursion (λ u. has_number n u ≡ true → u.spec.key ≡ t.spec.key) T.triggers
  alone_from n t is has =
      let own : added_number t ≡ Some n = (number_decided n (added_number t)).0 has in
      let reserved : is_reserved t.spec.key.group ≡ true = (added_parts t n own).0 in
      let x = is reserved in
      let number : added_number t ≡ Some x.0 = added_named t x.0 (small x.0 T.next_entry x.1.below limit) reserved x.1.named in
      let same : n ≡ x.0 = cc in
      All-weaker (λ u. is_reserved u.spec.key.group ≡ true → EndsIn u.spec.key.name x.0 → u.spec.key ≡ t.spec.key) (λ u. has_number n u ≡ true → u.spec.key ≡ t.spec.key) T.triggers
      (λ u alike h. let q = added_parts u n ((number_decided n (added_number u)).0 h) in alike q.0 (subst (λ (m : ℕ). EndsIn u.spec.key.name m) same (read_is_number u.spec.key.name n q.1).0)) x.1.alone

  pub fit_from : Named T → AllByRecursion (λ t. name_fits T t ≡ true) T.triggers
  fit_from named = All-weaker (λ t. is_reserved t.spec.key.group ≡ true → (number : ℕ) × IsNumbered T t number) (λ t. name_fits T t ≡ true) T.triggers fit_one named

  pub apart_from : IsAscending key_cmp (λ r. r.spec.key) T.triggers → Named T → AreApart T.triggers
  apart_from ascending named n = few_pass (has_number n) key_cmp (λ r. r.spec.key) key_total T.triggers ascending
      (All-weaker (λ t. is_reserved t.spec.key.group ≡ true → (number : ℕ) × IsNumbered T t number) (λ t. has_number n t ≡ true → AllByRecursion (λ u. has_number n u ≡ true → u.spec.key ≡ t.spec.key) T.triggers) T.triggers
      (alone_from n) named)
