-- What the stores have to keep, so that they can lie under rows.
use Rattle.std.proofs.Common.{◌≡◌, ℕ, ℤ, true, false, List, [], length, Option, Some, None, refl, sym, subst, append-nil, if◌then◌else◌}
use Rattle.std.proofs.Props.{props}
use Rattle.std.specs.Prelude.{Err, nat_le}
use Rattle.qz_disk.specs.declared.disk.Disk.{Ghosts}
use Rattle.qz_disk.specs.Disk.{IsLawful}
use Rattle.qz_model.specs.History.{History}
use Rattle.qz_trigger_store.specs.View.{view}
use Rattle.qz_trigger_store.specs.declared.stores.TriggerStore.{TriggerStore}
use Rattle.qz_types.specs.Entries.{StateEntryData}
use Rattle.qz_types.specs.Rows.{StateData}
use Rattle.qz_types.specs.declared.limits.TheConstants.{STATE_LIMIT}
use Rattle.qz_types.specs.declared.replies.Refusal.{Refusal}
use Rattle.qz_types.specs.declared.replies.Refusal.TheVariants.{RowsFull}
use Rattle.qz_types.specs.declared.states.StateCommand.{StateCommand}
use Rattle.qz_types.specs.declared.states.StateCommand.TheVariants.{CheckIn}
use Rattle.qz_checkin.specs.Entries.{answer_of, of_states}
use Rattle.qz_checkin.specs.History.{StateHistory, replay_states}
use Rattle.qz_checkin.specs.Rows.{StateTables, accepted, unless, state_of, with_state, state_moment, check_in_refusal, by_command}
use Rattle.qz_checkin.specs.View.{view as states_view}
use Rattle.qz_checkin.specs.declared.stores.StateStore.{StateStore}
use Rattle.qz_run_stores.proofs.Going.{went_nowhere}
use Rattle.qz_run_stores.proofs.Ways.{triggers_begin, states_begin}
use Rattle.qz_run_stores.specs.Going.{StatesWent}
use Rattle.qz_shared_stores.specs.Going.{TriggersWentOn}

pub histories_once : (h i : History) → IsProp (h ≡ i)
histories_once h i = hlevel props

pub state_histories_once : (h i : StateHistory) → IsProp (h ≡ i)
state_histories_once h i = hlevel props

-- a store that did nothing yet has kept all
module _ {D : Type 0} {g : Ghosts D} (lawful : (disk : D) → g.honest → IsLawful (g.state disk)) where
  pub triggers_begun : (s : TriggerStore D g) → TriggersWentOn s s
  triggers_begun s = record {
    went = went_nowhere (view s);
    version = refl;
    base = (refl, refl);
    found = refl;
    keeps = refl;
    added = [];
    entries = sym (append-nil (view s).history.entries);
    kept = triggers_begin lawful s;
  }

  pub states_begun : (s : StateStore D g) → StatesWent s s
  states_begun s = record {
    kept = states_begin lawful s;
    went = went_nowhere (states_view s);
    added = [];
    entries = sym (append-nil (states_view s).history.entries);
  }

-- a check-in is refused where there are as many rows as there may be
full_at : (T : StateTables) (o : Option StateData) (next : StateTables) (r : Refusal) → answer_of (unless (check_in_refusal T o) (accepted next)) ≡ Err r → r ≡ RowsFull
unfolding check_in_refusal
full_at T (Some row) next r is = absurd (cc)
full_at T None next r is = elim (nat_le STATE_LIMIT (length T.rows)) as (λ b. answer_of (unless (if b then Some RowsFull else None) (accepted next)) ≡ Err r → r ≡ RowsFull) [
  | true ↦ λ e. cc
  | false ↦ λ e. absurd (cc)
] is

pub check_in_refused : (h : StateHistory) (e : StateEntryData) (node : List ℕ) (interval : ℤ) (refusal : Refusal) → e.command ≡ CheckIn node interval → of_states.answer h e ≡ Err refusal → refusal ≡ RowsFull
check_in_refused h e node interval refusal is refused =
    let T : StateTables = replay_states h in
    full_at T (state_of node T.rows) (record { rows = with_state (record { node = node; last = state_moment T e.at; interval = interval }) T.rows; last_moment = state_moment T e.at }) refusal
    (subst (λ (c : StateCommand). answer_of (by_command T (state_moment T e.at) c) ≡ Err refusal) is refused)
