-- What a board shows of a trigger store: its history at a glance.
use Rattle.std.specs.Prelude.{ℕ, ◌+◌, List, length, count_by, not, option_and_then}
use Rattle.qz_types.specs.Entries.{EntryData}
use Rattle.qz_types.specs.States.{is_acquired}
use Rattle.qz_types.specs.Tables.{SchedulerTables}
use Rattle.qz_tables.specs.Due.{due_first}
use Rattle.qz_model.specs.History.{History, replay}
use Rattle.qz_board.specs.declared.glance.Glance.{Glance}

-- What a history begins with: how many entries came before those that it lists, and the tables that they left.
pub record Base : Type 0 where
  pub count : ℕ
  pub tables : SchedulerTables

abbrev pub base_of : History → Base
base_of h = record { count = h.base_count; tables = h.base }

-- the history of these entries on such a base
abbrev pub history_on : Base → List EntryData → History
history_on b entries = record { base_count = b.count; base = b.tables; entries = entries }

-- how many executions have begun, and go on
abbrev pub executing : SchedulerTables → ℕ
executing T = count_by (λ f. not (is_acquired f.state)) T.fired

-- Tables after so many entries. The next time is that of the first trigger that waits, in due order.
abbrev pub tables_at_a_glance : ℕ → SchedulerTables → Glance
tables_at_a_glance entries T = record {
  entries = entries;
  jobs = length T.jobs;
  triggers = length T.triggers;
  executing = executing T;
  last = T.last_moment;
  next = option_and_then (λ t. t.next) (due_first T.triggers);
}

-- A history shows all its entries, those before the base counted, and the tables that they leave.
abbrev pub at_a_glance : History → Glance
at_a_glance h = tables_at_a_glance (h.base_count + length h.entries) (replay h)
