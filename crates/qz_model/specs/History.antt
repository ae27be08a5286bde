-- Histories: what was accepted, in order, from the tables with which the history begins.
use Rattle.std.specs.Prelude.{⊤, ℕ, ℤ, List, [], ◌∷◌, ◌++◌}
use Rattle.qz_types.specs.Entries.{EntryData}
use Rattle.qz_types.specs.declared.replies.Reply.{Reply}
use Rattle.qz_types.specs.Tables.{SchedulerTables, empty, new_tables, recorded_moment}
use Rattle.qz_types.specs.Outcomes.{Outcome, accepted, refused, IsAccepted}
use Rattle.qz_model.specs.Transaction.{transaction}

-- A history begins with a base: how many entries came before those that it lists, and the tables that they left.
pub record History : Type 0 where
  pub base_count : ℕ
  pub base : SchedulerTables
  pub entries : List EntryData

-- the history of a new store of a format version
abbrev pub history_of_version : ℕ → History
history_of_version version = record { base_count = 0; base = empty version; entries = [] }

-- and of the version that is written today
abbrev pub new_history : History
new_history = record { base_count = 0; base = new_tables; entries = [] }

abbrev pub with_entry : EntryData → History → History
with_entry e h = record h { entries = h.entries ++ e ∷ [] }

-- the tables that an outcome leaves
abbrev pub tables_left : SchedulerTables → Outcome → SchedulerTables
tables_left T (accepted next reply) = next
tables_left T (refused refusal) = T

-- the reply of an outcome, if it has one, before these
abbrev pub onto_replies : Outcome → List Reply → List Reply
onto_replies (accepted next reply) replies = reply ∷ replies
onto_replies (refused refusal) replies = replies

-- each entry is accepted at the tables that those before it leave
abbrev pub IsLegalFrom : SchedulerTables → List EntryData → Type 0
IsLegalFrom T [] = ⊤
IsLegalFrom T (e ∷ es) = IsAccepted (transaction T e) × IsLegalFrom (tables_left T (transaction T e)) es

-- the tables after the last entry
abbrev pub replay_from : SchedulerTables → List EntryData → SchedulerTables
replay_from T [] = T
replay_from T (e ∷ es) = replay_from (tables_left T (transaction T e)) es

abbrev pub replies_from : SchedulerTables → List EntryData → List Reply
replies_from T [] = []
replies_from T (e ∷ es) = onto_replies (transaction T e) (replies_from (tables_left T (transaction T e)) es)

abbrev pub moments_from : SchedulerTables → List EntryData → List ℤ
moments_from T [] = []
moments_from T (e ∷ es) = recorded_moment T e.at ∷ moments_from (tables_left T (transaction T e)) es

abbrev pub IsLegal : History → Type 0
IsLegal h = IsLegalFrom h.base h.entries

abbrev pub replay : History → SchedulerTables
replay h = replay_from h.base h.entries

abbrev pub replies : History → List Reply
replies h = replies_from h.base h.entries

abbrev pub moments : History → List ℤ
moments h = moments_from h.base h.entries
