-- What an accepted entry of the state store leaves, as a run sees it.
use Rattle.std.proofs.Common.{◌≡◌, ℕ, ◌<◌, ◌≤◌, ◌^◌, ℤ, true, false, not, List, [], ◌∷◌, ◌++◌, length, nat_le, Option, Some, None, is_some, if◌then◌else◌, refl, sym, ap, ◌∙◌, subst}
use Rattle.std.specs.Prelude.{⊤, Ok, Err}
use Rattle.std.specs.Ordering.{int_eq}
use Rattle.std.proofs.lemmas.Cmp.{nat_list_cmp_total, int_eq_equiv}
use Rattle.qz_types.specs.Entries.{StateEntryData}
use Rattle.qz_types.specs.Rows.{StateData}
use Rattle.qz_types.specs.Words.{text_cmp, same_text}
use Rattle.qz_types.specs.declared.errors.SubmitError.{SubmitError}
use Rattle.qz_types.specs.declared.errors.SubmitError.TheVariants as submit
use Rattle.qz_types.specs.declared.limits.TheConstants.{STATE_LIMIT}
use Rattle.qz_types.specs.declared.replies.Refusal.{Refusal}
use Rattle.qz_types.specs.declared.replies.Refusal.TheVariants as refusal
use Rattle.qz_types.specs.declared.states.StateCommand.TheVariants.{CheckIn, Forget}
use Rattle.qz_model.proofs.LookUps.{row_of_none, row_of-filter, row_of-put, row_of-put_own}
use Rattle.qz_model.proofs.NamedRows.{same_text_laws, other_text}
use Rattle.qz_model.proofs.RowPoints.{All-from, All-left}
use Rattle.qz_stores.specs.Stores.{Appends, Submits}
use Rattle.qz_checkin.specs.Entries.{StatesState, answer_of, of_states, state_record_of}
use Rattle.qz_checkin.specs.History.{replay_from, replay_states, rows_left}
use Rattle.qz_checkin.specs.Rows.{StateTables, accepted, unless, state_of, with_state, without_state, state_moment, check_in_refusal, forget_refusal, state_transaction}
use Rattle.qz_run.specs.declared.stores.TheConstants.{CHECK_IN_INTERVAL}
use Rattle.qz_run.specs.Stores.{View, Event, checks_in, forgets, RowAsked}
use Rattle.qz_seen.specs.Seen.{node_name}
use Rattle.qz_seen.proofs.Names.{other_name}
use Rattle.qz_run_stores.specs.Declining.{DeclinesRow, HasDeclined, IsDeclinable, declined_of}
use Rattle.qz_run_stores.specs.Logs.{has_row, row_log_of}
use Rattle.qz_run_stores.proofs.Declining.{lacks, still_passes}
use Rattle.qz_run_stores.proofs.Logs.{row-log-more}
use Rattle.qz_run_stores.proofs.NodeNames.{number_of}

-- rows with one removed, and with one put in its place
without_own : (name : List ℕ) (rows : List StateData) → state_of name (without_state name rows) ≡ None
unfolding state_of without_state same_text
without_own name rows =
    row_of_none text_cmp (λ r. r.node) name (without_state name rows)
    (All-left (λ r. ⊤) (λ r. same_text name r.node ≡ false) (λ r. same_text name r.node) rows (All-from (λ r. ⊤) rows (λ r. tt)) (λ r differ x. differ))

without_other : (name k : List ℕ) (rows : List StateData) → same_text name k ≡ false → state_of k (without_state name rows) ≡ state_of k rows
unfolding state_of without_state same_text
without_other name k rows differ =
    row_of-filter text_cmp (λ r. r.node) k (λ r. not (same_text name r.node)) rows
    (All-from (λ r. same_text k r.node ≡ true → not (same_text name r.node) ≡ true) rows (λ r same. ap not (other_text name k r.node differ same)))

with_own : (row : StateData) (rows : List StateData) → state_of row.node (with_state row rows) ≡ Some row
unfolding state_of with_state
with_own row rows = row_of-put_own text_cmp (λ r. r.node) nat_list_cmp_total row (without_state row.node rows) (without_own row.node rows)

with_other : (k : List ℕ) (row : StateData) (rows : List StateData) → same_text row.node k ≡ false → state_of k (with_state row rows) ≡ state_of k rows
unfolding state_of with_state same_text
with_other k row rows differ =
    row_of-put text_cmp (λ r. r.node) k row (without_state row.node rows) (same_text_laws.symm k row.node ∙ differ)
    ∙ without_other row.node k rows differ

-- the rows after an accepted entry
accepted_rows : (T : StateTables) (x : Option Refusal) (next : StateTables) → answer_of (unless x (accepted next)) ≡ Ok tt → rows_left T (unless x (accepted next)) ≡ next
accepted_rows T None next is = refl
accepted_rows T (Some x) next is = absurd (cc)

replay-more : (T : StateTables) (es : List StateEntryData) (e : StateEntryData) → replay_from T (es ++ e ∷ []) ≡ rows_left (replay_from T es) (state_transaction (replay_from T es) e)
replay-more T [] e = refl
replay-more T (f ∷ es) e = replay-more (rows_left T (state_transaction T f)) es e

-- the entries of node n
abbrev pub check_in_entry : ℤ → ℕ → StateEntryData
check_in_entry at n = record { at = at; seat = 0; command = CheckIn (node_name n) CHECK_IN_INTERVAL }

abbrev pub forget_entry : ℤ → ℕ → ℤ → StateEntryData
forget_entry at n last = record { at = at; seat = 0; command = Forget (node_name n) last }

module _ (before : ℕ) (s t : StatesState) (view : View) (log : List Event) (at : ℤ) (n : ℕ) (within : before ≤ length s.history.entries) (small : n < 2 ^ 32) where
  abbrev rows : StateTables
  rows = replay_states s.history

  abbrev row_then : StateData
  row_then = record { node = node_name n; last = state_moment rows at; interval = CHECK_IN_INTERVAL }

  pub checked_in : Appends of_states (check_in_entry at n) tt s t
      → RowAsked at n (checks_in CHECK_IN_INTERVAL) true (record { view = view; log = log; states = record { has = has_row rows; log = row_log_of before s } })
      (record { view = view; log = log; states = record { has = has_row (replay_states t.history); log = row_log_of before t } })
  checked_in appends =
      let after : replay_states t.history ≡ record { rows = with_state row_then rows.rows; last_moment = state_moment rows at } =
      ap replay_states appends.history ∙ replay-more s.history.base s.history.entries (check_in_entry at n)
      ∙ accepted_rows rows (check_in_refusal rows (state_of (node_name n) rows.rows)) (record { rows = with_state row_then rows.rows; last_moment = state_moment rows at }) appends.accepted_as in
      record {
        rest = refl;
        states_log = row-log-more before s t (check_in_entry at n) within appends.history ∙ ap (λ k. record { node = k; command = checks_in CHECK_IN_INTERVAL; at = at } ∷ row_log_of before s) (number_of n small);
        has = ap (λ U. has_row U n) after ∙ ap is_some (with_own row_then rows.rows);
        others = λ k differ. ap (λ U. has_row U k) after ∙ ap is_some (with_other (node_name k) row_then rows.rows (other_name n k small differ));
      }

  module _ (last : ℤ) where
    pub forgot : Appends of_states (forget_entry at n last) tt s t
        → RowAsked at n forgets false (record { view = view; log = log; states = record { has = has_row rows; log = row_log_of before s } })
        (record { view = view; log = log; states = record { has = has_row (replay_states t.history); log = row_log_of before t } })
    forgot appends =
        let after : replay_states t.history ≡ record { rows = without_state (node_name n) rows.rows; last_moment = state_moment rows at } =
        ap replay_states appends.history ∙ replay-more s.history.base s.history.entries (forget_entry at n last)
        ∙ accepted_rows rows (forget_refusal (state_of (node_name n) rows.rows) last) (record { rows = without_state (node_name n) rows.rows; last_moment = state_moment rows at }) appends.accepted_as in
        record {
          rest = refl;
          states_log = row-log-more before s t (forget_entry at n last) within appends.history ∙ ap (λ k. record { node = k; command = forgets; at = at } ∷ row_log_of before s) (number_of n small);
          has = ap (λ U. has_row U n) after ∙ ap is_some (without_own (node_name n) rows.rows);
          others = λ k differ. ap (λ U. has_row U k) after ∙ ap is_some (without_other (node_name n) (node_name k) rows.rows (other_name n k small differ));
        }

-- Why the state store declines.
module _ (e : StateEntryData) (s t : StatesState) (full : (r : Refusal) → of_states.answer s.history e ≡ Err r → r ≡ refusal.RowsFull) where
  row_declinable : (x : SubmitError) → Submits of_states e (Err x) s t → IsDeclinable x
  row_declinable (submit.Closed at) is = tt
  row_declinable (submit.Refused r) is = subst (λ r. IsDeclinable (submit.Refused r)) (sym (full r is.refused_as)) tt
  row_declinable (submit.JournalFull need room) is = tt
  row_declinable submit.NoMemory is = tt
  row_declinable submit.Fault is = tt

  row_declines : (x : SubmitError) → Submits of_states e (Err x) s t → DeclinesRow t e (declined_of x)
  row_declines (submit.Closed at) is = is.0.same.is_open ∙ is.0.was_closed
  row_declines (submit.Refused r) is =
      subst (λ r. DeclinesRow t e (declined_of (submit.Refused r))) (sym (full r is.refused_as))
      (record { refused_as = ap (λ h. of_states.answer h e) is.same.history ∙ is.refused_as ∙ ap Err (full r is.refused_as); limit = refl })
  row_declines (submit.JournalFull need room) is = (still_passes of_states e s t is.same is.passes, lacks (length (state_record_of e)) need room s t is.same is.full)
  row_declines submit.NoMemory is = tt
  row_declines submit.Fault is = is.is_open

-- a check-in is refused where there are as many rows as there may be
full_by : (T : StateTables) (o : Option StateData) (next : StateTables) (r : Refusal) → answer_of (unless (check_in_refusal T o) (accepted next)) ≡ Err r → r ≡ refusal.RowsFull
unfolding check_in_refusal
full_by T (Some row) next r is = absurd (cc)
full_by T None next r is = elim (nat_le STATE_LIMIT (length T.rows)) as (λ b. answer_of (unless (if b then Some refusal.RowsFull else None) (accepted next)) ≡ Err r → r ≡ refusal.RowsFull) [
  | true ↦ λ e. cc
  | false ↦ λ e. absurd (cc)
] is

-- nothing refuses that a row is removed that has this last check-in
never_refused : (o : Option StateData) (row : StateData) (next : StateTables) (r : Refusal) → o ≡ Some row → answer_of (unless (forget_refusal o row.last) (accepted next)) ≡ Err r → ⊥
unfolding forget_refusal
never_refused None row next r found is = absurd (cc)
never_refused (Some x) row next r found is =
    let same : x ≡ row = cc in
    let equal : int_eq x.last row.last ≡ true = ap (λ y. int_eq y.last row.last) same ∙ int_eq_equiv.refl row.last in
    let none : answer_of (accepted next) ≡ Err r = subst (λ b. answer_of (unless (if b then None else Some (refusal.Renewed x.last)) (accepted next)) ≡ Err r) equal is in
    cc

-- why the state store declines a check-in, or that a row is removed
module _ (s t : StatesState) (at : ℤ) (n : ℕ) where
  check_in_full : (r : Refusal) → of_states.answer s.history (check_in_entry at n) ≡ Err r → r ≡ refusal.RowsFull
  check_in_full r is = full_by (replay_states s.history) (state_of (node_name n) (replay_states s.history).rows) _ r is

  pub check_in_declinable : (x : SubmitError) → Submits of_states (check_in_entry at n) (Err x) s t → IsDeclinable x
  check_in_declinable x is = row_declinable (check_in_entry at n) s t check_in_full x is

  pub check_in_declines : (x : SubmitError) → Submits of_states (check_in_entry at n) (Err x) s t → HasDeclined t (node_name n) at (checks_in CHECK_IN_INTERVAL) (declined_of x)
  check_in_declines x is = (check_in_entry at n, (refl, row_declines (check_in_entry at n) s t check_in_full x is))

  module _ (row : StateData) (found : state_of (node_name n) (replay_states s.history).rows ≡ Some row) where
    forget_full : (r : Refusal) → of_states.answer s.history (forget_entry at n row.last) ≡ Err r → r ≡ refusal.RowsFull
    forget_full r is = absurd (never_refused (state_of (node_name n) (replay_states s.history).rows) row _ r found is)

    pub forget_declinable : (x : SubmitError) → Submits of_states (forget_entry at n row.last) (Err x) s t → IsDeclinable x
    forget_declinable x is = row_declinable (forget_entry at n row.last) s t forget_full x is

    pub forget_declines : (x : SubmitError) → Submits of_states (forget_entry at n row.last) (Err x) s t → HasDeclined t (node_name n) at forgets (declined_of x)
    forget_declines x is = (forget_entry at n row.last, ((row.last, refl), row_declines (forget_entry at n row.last) s t forget_full x is))
