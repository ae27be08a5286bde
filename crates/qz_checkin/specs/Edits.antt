-- A transaction leaves valid rows valid. (The laws of the kind rest on this, so it stands among the definitions.)
use Rattle.std.proofs.Common.{◌≡◌, ℕ, ℤ, ◌+◌, ◌≤◌, Bool, true, false, not, cond, List, [], ◌∷◌, length, filter, refl, sym, ◌∙◌, ap, subst, arith, if◌then◌else◌}
use Rattle.std.proofs.Math.Logic.{∥∥₁_map}
use Rattle.std.proofs.lemmas.Grind.{common_steps}
use Rattle.std.proofs.lemmas.Cmp.{nat_list_cmp_total}
use Rattle.std.specs.Prelude.{Option, Some, None, nat_le}
use Rattle.std.specs.Ordering.{is_gt, is_eq}
use Rattle.std.specs.List.{AllByRecursion}
use Rattle.std.specs.declared.cmp.Ordering.{Ordering}
use Rattle.qz_civil.specs.declared.limits.TheConstants.{LAST}
use Rattle.qz_types.specs.Rows.{StateData}
use Rattle.qz_types.specs.Entries.{StateEntryData}
use Rattle.qz_types.specs.Sorted.{row_of, put, IsBefore, IsAscending}
use Rattle.qz_types.specs.Tables.{IsMoment}
use Rattle.qz_types.specs.Words.{text_cmp, same_text}
use Rattle.qz_types.specs.declared.limits.TheConstants.{STATE_LIMIT}
use Rattle.qz_types.specs.declared.replies.Refusal.{Refusal}
use Rattle.qz_types.specs.declared.replies.Refusal.TheVariants.{RowsFull}
use Rattle.qz_types.specs.declared.states.StateCommand.{StateCommand}
use Rattle.qz_types.specs.declared.states.StateCommand.TheVariants.{CheckIn, Forget}
use Rattle.qz_types.proofs.Ascending.{IsAscending-put}
use Rattle.qz_checkin.specs.Rows.{StateTables, new_state_tables, state_of, without_state, with_state, state_moment, StateOutcome, accepted, refused, IsAccepted, unless, check_in_refusal, forget_refusal, by_command, state_transaction}
use Rattle.qz_checkin.specs.Valid.{HasMoment, StatesValid, node_of, row_by, edited}

-- ---- lists of rows

module _ {R : Type 0} where
  All-filter : (P : R → Type 0) (q : R → Bool) (xs : List R) → AllByRecursion P xs → AllByRecursion P (filter q xs)
  All-filter P q [] all = tt
  All-filter P q (x ∷ xs) all = elim (q x) as (λ b. AllByRecursion P (cond b (x ∷ filter q xs) (filter q xs))) [
    | true ↦ (all.0, All-filter P q xs all.1)
    | false ↦ All-filter P q xs all.1
  ]

  length-filter_le : (q : R → Bool) (xs : List R) → length (filter q xs) ≤ length xs
  length-filter_le q [] = omega arith
  length-filter_le q (x ∷ xs) = elim (q x) as (λ b. length (cond b (x ∷ filter q xs) (filter q xs)) ≤ length (x ∷ xs)) [
    | true ↦ omega (arith, length-filter_le q xs)
    | false ↦ omega (arith, length-filter_le q xs)
  ]

module _ {R K : Type 0} (cmp : K → K → Ordering) (id : R → K) where
  All-put : (P : R → Type 0) (r : R) (xs : List R) → P r → AllByRecursion P xs → AllByRecursion P (put cmp id r xs)
  All-put P r [] new all = (new, tt)
  All-put P r (x ∷ xs) new all = elim (is_gt (cmp (id r) (id x))) as (λ b. AllByRecursion P (if b then x ∷ put cmp id r xs else r ∷ x ∷ xs)) [
    | true ↦ (all.0, All-put P r xs new all.1)
    | false ↦ (new, all)
  ]

  length-put : (r : R) (xs : List R) → length (put cmp id r xs) ≡ length xs + 1
  length-put r [] = refl
  length-put r (x ∷ xs) = elim (is_gt (cmp (id r) (id x))) as (λ b. length (if b then x ∷ put cmp id r xs else r ∷ x ∷ xs) ≡ length (x ∷ xs) + 1) [
    | true ↦ omega (arith, length-put r xs)
    | false ↦ omega arith
  ]

  before-filter : (k : K) (q : R → Bool) (xs : List R) → IsBefore cmp id k xs → IsBefore cmp id k (filter q xs)
  before-filter k q [] before = tt
  before-filter k q (x ∷ xs) before = elim (q x) as (λ b. IsBefore cmp id k (cond b (x ∷ filter q xs) (filter q xs))) [
    | true ↦ (before.0, before-filter k q xs before.1)
    | false ↦ before-filter k q xs before.1
  ]

  IsAscending-filter : (q : R → Bool) (xs : List R) → IsAscending cmp id xs → IsAscending cmp id (filter q xs)
  IsAscending-filter q [] ascending = tt
  IsAscending-filter q (x ∷ xs) ascending = elim (q x) as (λ b. IsAscending cmp id (cond b (x ∷ filter q xs) (filter q xs))) [
    | true ↦ (before-filter (id x) q xs ascending.0, IsAscending-filter q xs ascending.1)
    | false ↦ IsAscending-filter q xs ascending.1
  ]

  -- a row that was left out isn't found
  without_none : (k : K) (xs : List R) → row_of cmp id k (filter (λ r. not (is_eq (cmp k (id r)))) xs) ≡ None
  without_none k [] = refl
  without_none k (x ∷ xs) = elim (is_eq (cmp k (id x))) as (λ b. is_eq (cmp k (id x)) ≡ b → row_of cmp id k (cond (not b) (x ∷ filter (λ r. not (is_eq (cmp k (id r)))) xs) (filter (λ r. not (is_eq (cmp k (id r)))) xs)) ≡ None) [
    | true ↦ λ e. without_none k xs
    | false ↦ λ e. rw e (without_none k xs)
  ] refl

  -- leaving out a row that is there leaves fewer
  without_fewer : (k : K) (r : R) (xs : List R) → row_of cmp id k xs ≡ Some r → length (filter (λ r. not (is_eq (cmp k (id r)))) xs) + 1 ≤ length xs
  without_fewer k r [] found = absurd (cc)
  without_fewer k r (x ∷ xs) found = elim (is_eq (cmp k (id x))) as (λ b. (if b then Some x else row_of cmp id k xs) ≡ Some r → length (cond (not b) (x ∷ filter (λ r. not (is_eq (cmp k (id r)))) xs) (filter (λ r. not (is_eq (cmp k (id r)))) xs)) + 1 ≤ length (x ∷ xs)) [
    | true ↦ λ e. omega (arith, length-filter_le (λ r. not (is_eq (cmp k (id r)))) xs)
    | false ↦ λ e. omega (arith, without_fewer k r xs e)
  ] found

  -- what holds of each row holds of the one that is found
  pub All-found : (P : R → Type 0) (k : K) (r : R) (xs : List R) → AllByRecursion P xs → row_of cmp id k xs ≡ Some r → P r
  All-found P k r [] all found = absurd (cc)
  All-found P k r (x ∷ xs) all found = elim (is_eq (cmp k (id x))) as (λ b. (if b then Some x else row_of cmp id k xs) ≡ Some r → P r) [
    | true ↦ λ e. let same : x ≡ r = cc in subst P same all.0
    | false ↦ λ e. All-found P k r xs all.1 e
  ] found

-- ---- moments

pub moment-kept : (T : StateTables) (at : ℤ) → IsMoment LAST T.last_moment → IsMoment LAST (state_moment T at)
unfolding state_moment
moment-kept T at is = record { low = grind (arith, common_steps, is.low); high = grind (arith, common_steps, is.low, is.high) }

-- ---- what a command leaves

row_valid : (m : ℤ) (c : StateCommand) (xs : List StateData) → IsMoment LAST m → AllByRecursion HasMoment xs → AllByRecursion HasMoment (edited (node_of c) (row_by m c) xs)
unfolding with_state without_state
row_valid m (CheckIn node interval) xs is all = All-put text_cmp (λ r. r.node) HasMoment _ (filter (λ r. not (same_text node r.node)) xs) is (All-filter HasMoment _ xs all)
row_valid m (Forget node last) xs is all = All-filter HasMoment _ xs all

order_kept : (m : ℤ) (c : StateCommand) (xs : List StateData) → IsAscending text_cmp (λ r. r.node) xs → IsAscending text_cmp (λ r. r.node) (edited (node_of c) (row_by m c) xs)
unfolding with_state without_state same_text
order_kept m (CheckIn node interval) xs ascending =
    IsAscending-put text_cmp (λ r. r.node) nat_list_cmp_total (record { node = node; last = m; interval = interval }) (filter (λ r. not (same_text node r.node)) xs)
    (IsAscending-filter text_cmp (λ r. r.node) _ xs ascending) (without_none text_cmp (λ r. r.node) node xs)
order_kept m (Forget node last) xs ascending = IsAscending-filter text_cmp (λ r. r.node) _ xs ascending

fewer : (T : StateTables) (row : Option StateData) (node : List ℕ) → state_of node T.rows ≡ row → check_in_refusal T row ≡ None → length T.rows ≤ STATE_LIMIT → length (without_state node T.rows) + 1 ≤ STATE_LIMIT
unfolding without_state same_text state_of check_in_refusal
fewer T (Some row) node is none few = omega (arith, few, without_fewer text_cmp (λ (r : StateData). r.node) node row T.rows is)
fewer T None node is none few = elim (nat_le STATE_LIMIT (length T.rows)) as (λ b. nat_le STATE_LIMIT (length T.rows) ≡ b → (if b then Some RowsFull else None) ≡ None → length (filter (λ (r : StateData). not (same_text node r.node)) T.rows) + 1 ≤ STATE_LIMIT) [
  | true ↦ λ e x. absurd (cc)
  | false ↦ λ e x. grind (arith, common_steps, e, length-filter_le (λ (r : StateData). not (same_text node r.node)) T.rows)
] refl none

length-without : (node : List ℕ) (xs : List StateData) → length (without_state node xs) ≤ length xs
unfolding without_state
length-without node xs = length-filter_le (λ (r : StateData). not (same_text node r.node)) xs

accepted_none : (x : Option Refusal) (o : StateOutcome) → IsAccepted (unless x o) → x ≡ None
accepted_none None o is = refl
accepted_none (Some x) o is = absurd is

few_kept : (T : StateTables) (m : ℤ) (c : StateCommand) → IsAccepted (by_command T m c) → length T.rows ≤ STATE_LIMIT → length (edited (node_of c) (row_by m c) T.rows) ≤ STATE_LIMIT
unfolding with_state
few_kept T m (CheckIn node interval) is few =
    let none = accepted_none (check_in_refusal T (state_of node T.rows)) _ is in
    omega (arith, fewer T (state_of node T.rows) node refl none few, length-put text_cmp (λ (r : StateData). r.node) (record { node = node; last = m; interval = interval }) (without_state node T.rows))
few_kept T m (Forget node last) is few = omega (arith, few, length-without node T.rows)

unless_accepted : (x : Option Refusal) (o : StateOutcome) → IsAccepted (unless x o) → unless x o ≡ o
unless_accepted None o is = refl
unless_accepted (Some x) o is = absurd is

command_is : (T : StateTables) (m : ℤ) (c : StateCommand) → IsAccepted (by_command T m c) → by_command T m c ≡ accepted (record { rows = edited (node_of c) (row_by m c) T.rows; last_moment = m })
command_is T m (CheckIn node interval) is = unless_accepted (check_in_refusal T (state_of node T.rows)) _ is
command_is T m (Forget node last) is = unless_accepted (forget_refusal (state_of node T.rows) last) _ is

-- an accepted entry leaves these rows
pub accepted_as : (T : StateTables) (e : StateEntryData) (rows : List StateData) (m : ℤ) (node : List ℕ) (row : Option StateData) → IsAccepted (state_transaction T e) → m ≡ state_moment T e.at
    → node ≡ node_of e.command → row ≡ row_by (state_moment T e.at) e.command → rows ≡ edited node row T.rows → state_transaction T e ≡ accepted (record { rows = rows; last_moment = m })
accepted_as T e rows m node row is m_is node_is row_is rows_are =
    command_is T (state_moment T e.at) e.command is
    ∙ ap (λ (x : Option StateData). accepted (record { rows = edited (node_of e.command) x T.rows; last_moment = state_moment T e.at })) (sym row_is)
    ∙ ap (λ (n : List ℕ). accepted (record { rows = edited n row T.rows; last_moment = state_moment T e.at })) (sym node_is)
    ∙ ap (λ (n : ℤ). accepted (record { rows = edited node row T.rows; last_moment = n })) (sym m_is)
    ∙ ap (λ (xs : List StateData). accepted (record { rows = xs; last_moment = m })) (sym rows_are)

accepted_inj : (T U : StateTables) → accepted T ≡ accepted U → T ≡ U
accepted_inj T U same = ap (λ o. of_outcome o) same where
  of_outcome : StateOutcome → StateTables
  of_outcome (accepted V) = V
  of_outcome (refused x) = T

-- so they are valid
pub kept : (T U : StateTables) (e : StateEntryData) → state_transaction T e ≡ accepted U → StatesValid T → StatesValid U
kept T U e way v =
    let is : IsAccepted (state_transaction T e) = subst IsAccepted (sym way) tt in
    let c = e.command in
    let m = state_moment T e.at in
    let same = accepted_inj _ U (sym (command_is T m c is) ∙ way) in
    let moment : IsMoment LAST m = moment-kept T e.at v.last_moment in
    subst StatesValid same (record { order = order_kept m c T.rows v.order; few = few_kept T m c is v.few; rows = row_valid m c T.rows moment v.rows; last_moment = moment })

pub valid_after : (T U : StateTables) (e : StateEntryData) → state_transaction T e ≡ accepted U → ∥ StatesValid T ∥₁ → ∥ StatesValid U ∥₁
valid_after T U e way valid = ∥∥₁_map valid (kept T U e way)

pub valid_new : ∥ StatesValid new_state_tables ∥₁
valid_new = ∣ record { order = tt; few = omega arith; rows = tt; last_moment = record { low = omega arith; high = omega arith } } ∣₁
