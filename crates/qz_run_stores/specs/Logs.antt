-- The part of both histories that a run has made, and the state rows of its nodes.
use Rattle.std.specs.Prelude.{ℕ, Bool, List, [], take, drop, is_some}
use Rattle.qz_model.specs.History.{replay_from}
use Rattle.qz_trigger_store.specs.Entries.{TriggerState}
use Rattle.qz_checkin.specs.Entries.{StatesState}
use Rattle.qz_checkin.specs.Rows.{StateTables, state_of}
use Rattle.qz_run.specs.Stores.{Event, RowEvent}
use Rattle.qz_seen.specs.Seen.{node_name}
use Rattle.qz_run_stores.specs.Accounts.{events_onto, row_events_onto}

-- the run's part of a history: after so many entries
abbrev pub log_of : ℕ → TriggerState → List Event
log_of before s = events_onto [] (replay_from s.history.base (take before s.history.entries)) (drop before s.history.entries)

abbrev pub row_log_of : ℕ → StatesState → List RowEvent
row_log_of before s = row_events_onto [] (drop before s.history.entries)

-- which nodes have a state row
abbrev pub has_row : StateTables → ℕ → Bool
has_row T i = is_some (state_of (node_name i) T.rows)
