-- What holds of triggers whose states are changed, and of fired rows without acquired ones.
use Rattle.std.proofs.Common.{◌≡◌, ℕ, ◌≤◌, Bool, true, false, not, ◌&&◌, List, [], ◌∷◌, length, filter, count_by, None, option_map, refl, ap, cond, if◌then◌else◌}
use Rattle.std.specs.List.{AllByRecursion}
use Rattle.std.specs.Ordering.{nat_cmp}
use Rattle.std.proofs.lemmas.Bool.{and_parts, and_left, and_right}
use Rattle.std.proofs.lemmas.Cmp.{nat_cmp_total}
use Rattle.std.proofs.lemmas.List.{length-map}
use Rattle.qz_types.specs.Sorted.{IsAscending}
use Rattle.qz_types.specs.Rows.{TriggerData, FiredData}
use Rattle.qz_types.specs.declared.keys.Key.{Key}
use Rattle.qz_types.specs.declared.triggers.TriggerState.{TriggerState}
use Rattle.qz_types.specs.Changes.{with_state, with_states, without_acquired}
use Rattle.qz_types.specs.States.{is_acquired}
use Rattle.qz_types.specs.Words.{key_cmp, same_key, trigger_of, with_trigger, fired_of}
use Rattle.qz_model.specs.Executions.{is_exclusive_of, is_busy}
use Rattle.qz_model.proofs.Changes.{busy-same}
use Rattle.qz_model.proofs.LookUps.{row_of-map, row_of-filter_none, IsAscending-map, IsAscending-filter}
use Rattle.qz_model.proofs.RowLaws.{key_total}
use Rattle.qz_model.proofs.RowPoints.{All-from, All-changed, All-left, changed_keeps, count_by-left, length-filter_le}

-- the state of one trigger, by its key
pub with_state-states : (key : Key) (change : TriggerState → TriggerState) (rows : List TriggerData) → with_trigger key (with_state change) rows ≡ with_states change (λ t. same_key key t.spec.key) rows
unfolding with_trigger with_states
with_state-states key change rows = refl

module _ (change : TriggerState → TriggerState) (p : TriggerData → Bool) where
  pub ordered-with_states : (rows : List TriggerData) → IsAscending key_cmp (λ r. r.spec.key) rows → IsAscending key_cmp (λ r. r.spec.key) (with_states change p rows)
  unfolding with_states
  ordered-with_states rows ordered = IsAscending-map key_cmp (λ r. r.spec.key) key_total _ rows (changed_keeps (λ r. r.spec.key) (with_state change) (λ t. refl) p) ordered

  pub length-with_states : (rows : List TriggerData) → length (with_states change p rows) ≡ length rows
  unfolding with_states
  length-with_states rows = length-map rows _

  pub All-with_states : (P Q : TriggerData → Type 0) (rows : List TriggerData) → AllByRecursion P rows
      → ((t : TriggerData) → p t ≡ true → P t → Q (with_state change t)) → ((t : TriggerData) → p t ≡ false → P t → Q t)
      → AllByRecursion Q (with_states change p rows)
  unfolding with_states
  All-with_states P Q rows all changed left = All-changed P Q p (with_state change) rows all changed left

  pub trigger_of-with_states : (k : Key) (rows : List TriggerData) → trigger_of k (with_states change p rows) ≡ option_map (λ t. if p t then with_state change t else t) (trigger_of k rows)
  unfolding trigger_of with_states
  trigger_of-with_states k rows = row_of-map key_cmp (λ r. r.spec.key) k _ rows (changed_keeps (λ r. r.spec.key) (with_state change) (λ t. refl) p)

module _ (q : FiredData → Bool) where
  pub ordered-without_acquired : (rows : List FiredData) → IsAscending nat_cmp (λ r. r.entry) rows → IsAscending nat_cmp (λ r. r.entry) (without_acquired q rows)
  unfolding without_acquired
  ordered-without_acquired rows ordered = IsAscending-filter nat_cmp (λ r. r.entry) nat_cmp_total _ rows ordered

  pub length-without_acquired : (rows : List FiredData) → length (without_acquired q rows) ≤ length rows
  unfolding without_acquired
  length-without_acquired rows = length-filter_le _ rows

  pub All-without_acquired : (P Q : FiredData → Type 0) (rows : List FiredData) → AllByRecursion P rows
      → ((f : FiredData) → (is_acquired f.state && q f) ≡ false → P f → Q f) → AllByRecursion Q (without_acquired q rows)
  unfolding without_acquired
  All-without_acquired P Q rows all left = All-left P Q (λ f. is_acquired f.state && q f) rows all left

  pub count_by-without_acquired : (p : FiredData → Bool) (rows : List FiredData) → AllByRecursion (λ f. (is_acquired f.state && q f) ≡ true → p f ≡ false) rows
      → count_by p (without_acquired q rows) ≡ count_by p rows
  unfolding without_acquired
  count_by-without_acquired p rows outside = count_by-left p (λ f. is_acquired f.state && q f) rows outside

  pub fired_of-without_acquired : (n : ℕ) (rows : List FiredData) → fired_of n rows ≡ None → fired_of n (without_acquired q rows) ≡ None
  unfolding fired_of without_acquired
  fired_of-without_acquired n rows absent = row_of-filter_none nat_cmp (λ r. r.entry) n _ rows absent

  -- an execution is of no acquired row
  pub exclusive-without_acquired : (key : Key) (rows : List FiredData) → count_by (is_exclusive_of key) (without_acquired q rows) ≡ count_by (is_exclusive_of key) rows
  unfolding is_exclusive_of
  exclusive-without_acquired key rows =
      count_by-without_acquired (is_exclusive_of key) rows
      (All-from (λ f. (is_acquired f.state && q f) ≡ true → is_exclusive_of key f ≡ false) rows
      (λ f goes. let taken = (and_parts (is_acquired f.state) (q f) goes).0 in
      and_left (not (is_acquired f.state) && f.no_concurrent) (same_key key f.job) (and_left (not (is_acquired f.state)) f.no_concurrent (ap not taken))))

  pub busy-without_acquired : (key : Key) (rows : List FiredData) → is_busy key (without_acquired q rows) ≡ is_busy key rows
  busy-without_acquired key rows = busy-same key rows (without_acquired q rows) (exclusive-without_acquired key rows)

-- where none passes, all stay
all_stay : (rows : List FiredData) → filter (λ f. not (is_acquired f.state && false)) rows ≡ rows
all_stay [] = refl
all_stay (f ∷ rows) = elim (is_acquired f.state && false) as (λ b. (is_acquired f.state && false) ≡ b → cond (not b) (f ∷ filter (λ g. not (is_acquired g.state && false)) rows) (filter (λ g. not (is_acquired g.state && false)) rows) ≡ f ∷ rows) [
  | true ↦ λ goes. let none : (is_acquired f.state && false) ≡ false = and_right (is_acquired f.state) false refl in absurd (cc)
  | false ↦ λ stays. ap (λ (fs : List FiredData). f ∷ fs) (all_stay rows)
] refl

pub without_acquired-none : (rows : List FiredData) → without_acquired (λ f. false) rows ≡ rows
unfolding without_acquired
without_acquired-none rows = all_stay rows
