-- Histories of the state store: what was accepted, in order, from the rows with which the history begins.
use Rattle.std.specs.Prelude.{⊤, ℕ, List, [], ◌∷◌, ◌++◌}
use Rattle.qz_types.specs.Entries.{StateEntryData}
use Rattle.qz_checkin.specs.Rows.{StateTables, new_state_tables, StateOutcome, accepted, refused, IsAccepted, state_transaction}

-- A history begins with a base: how many entries came before those that it lists, and the rows that they left.
pub record StateHistory : Type 0 where
  pub base_count : ℕ
  pub base : StateTables
  pub entries : List StateEntryData

-- the history of a new store
abbrev pub new_state_history : StateHistory
new_state_history = record { base_count = 0; base = new_state_tables; entries = [] }

abbrev pub with_state_entry : StateEntryData → StateHistory → StateHistory
with_state_entry e h = record h { entries = h.entries ++ e ∷ [] }

-- the rows that an outcome leaves
abbrev pub rows_left : StateTables → StateOutcome → StateTables
rows_left T (accepted next) = next
rows_left T (refused refusal) = T

-- each entry is accepted at the rows that those before it leave
abbrev pub IsLegalFrom : StateTables → List StateEntryData → Type 0
IsLegalFrom T [] = ⊤
IsLegalFrom T (e ∷ es) = IsAccepted (state_transaction T e) × IsLegalFrom (rows_left T (state_transaction T e)) es

-- the rows after the last entry
abbrev pub replay_from : StateTables → List StateEntryData → StateTables
replay_from T [] = T
replay_from T (e ∷ es) = replay_from (rows_left T (state_transaction T e)) es

abbrev pub IsLegal : StateHistory → Type 0
IsLegal h = IsLegalFrom h.base h.entries

abbrev pub replay_states : StateHistory → StateTables
replay_states h = replay_from h.base h.entries
