-- What a run sees of its stores.
use Rattle.std.specs.Prelude.{ℕ, ℤ}
use Rattle.qz_disk.specs.declared.disk.Disk.{Ghosts}
use Rattle.qz_model.specs.History.{replay}
use Rattle.qz_trigger_store.specs.View.{view}
use Rattle.qz_trigger_store.specs.declared.stores.TriggerStore.{TriggerStore}
use Rattle.qz_checkin.specs.History.{replay_states}
use Rattle.qz_checkin.specs.View.{view as states_view}
use Rattle.qz_checkin.specs.declared.stores.StateStore.{StateStore}
use Rattle.qz_run.specs.declared.commands.Declined.{Declined}
use Rattle.qz_run.specs.declared.commands.NodeCommand.{NodeCommand}
use Rattle.qz_run.specs.Stores.{RunState, RowCommand}
use Rattle.qz_seen.specs.Asking.{entry_of}
use Rattle.qz_seen.specs.Seen.{node_name, seen}
use Rattle.qz_run_stores.specs.Declining.{DeclinesEntry, HasDeclined}
use Rattle.qz_run_stores.specs.Logs.{log_of, row_log_of, has_row}
use Rattle.qz_run_stores.specs.declared.stores.RunStores.{RunStores}

-- the stores
abbrev pub triggers_of : {D : Type 0} {g : Ghosts D} → RunStores D g → TriggerStore D g
triggers_of s = s.triggers

abbrev pub states_of : {D : Type 0} {g : Ghosts D} → RunStores D g → StateStore D g
states_of s = s.states

-- how many entries their histories had when the run began
abbrev pub entries_before : {D : Type 0} {g : Ghosts D} → RunStores D g → ℕ
entries_before s = s.entries_before

abbrev pub rows_before : {D : Type 0} {g : Ghosts D} → RunStores D g → ℕ
rows_before s = s.rows_before

-- Both stores as a run found them.
pub record Origin {D : Type 0} (g : Ghosts D) : Type 0 where
  pub triggers : TriggerStore D g
  pub states : StateStore D g

abbrev pub origin : {D : Type 0} {g : Ghosts D} → RunStores D g → Origin g
origin s = record { triggers = s.triggers_begun.value; states = s.states_begun.value }

-- what a run sees
abbrev pub run_state : {D : Type 0} {g : Ghosts D} → RunStores D g → RunState
run_state s = record {
  view = seen (replay (view s.triggers).history);
  log = log_of s.entries_before (view s.triggers);
  states = record { has = has_row (replay_states (states_view s.states).history); log = row_log_of s.rows_before (states_view s.states) };
}

-- why the trigger store declines what node n asks
abbrev pub Declines : {D : Type 0} {g : Ghosts D} → RunStores D g → ℕ → ℤ → NodeCommand → Declined → Type 0
Declines s n at command why = DeclinesEntry (view s.triggers) (entry_of (replay (view s.triggers).history) at n command) why

-- why it declines what is asked of the row of node n; or memory is wanted
abbrev pub DeclinesRowOf : {D : Type 0} {g : Ghosts D} → RunStores D g → ℕ → ℤ → RowCommand → Declined → Type 0
DeclinesRowOf s n at command why = HasDeclined (states_view s.states) (node_name n) at command why
