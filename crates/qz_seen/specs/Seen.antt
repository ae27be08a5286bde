-- What a run of nodes sees of the scheduler's tables.
use Rattle.std.specs.Prelude.{ℕ, ◌+◌, ◌^◌, nat_lt, if◌then◌else◌, ℤ, List, [], ◌++◌, codes, Bool, not, ◌&&◌, filter, map, is_some}
use Rattle.std.specs.Fmt.{decimal}
use Rattle.std.specs.List.{list_any}
use Rattle.qz_types.specs.Due.{is_waiting}
use Rattle.qz_types.specs.Rows.{TriggerData, FiredData}
use Rattle.qz_types.specs.States.{is_acquired}
use Rattle.qz_types.specs.Tables.{SchedulerTables}
use Rattle.qz_types.specs.Words.{same_text, member_of}
use Rattle.qz_model.specs.Due.{is_up_to, is_misfired}
use Rattle.qz_run.specs.Stores.{Row, View}

-- The names of a run's nodes: n1, n2 and so on. A number of more than 32 bits names none.
unfoldable pub node_name : ℕ → List ℕ
node_name i = if nat_lt i (2 ^ 32) then codes "n" ++ decimal (i + 1) else []

-- a fired row, as a run sees it
abbrev pub row_seen : FiredData → Row
row_seen f = record { entry = f.entry; executing = not (is_acquired f.state); scheduled = f.scheduled }

-- the rows of the node of this name
unfoldable pub rows_of : List ℕ → List FiredData → List Row
rows_of node fired = map row_seen (filter (λ f. same_text node f.node) fired)

-- a trigger waits, and its next time isn't past this one
abbrev pub is_due_by : ℤ → TriggerData → Bool
is_due_by time t = is_waiting t.state && is_up_to time t.next

unfoldable pub some_due : SchedulerTables → ℤ → Bool
some_due T time = list_any (is_due_by time) T.triggers

-- a trigger waits, and a Misfires at this moment moves it
abbrev pub waits_misfired : SchedulerTables → ℤ → TriggerData → Bool
waits_misfired T m t = is_waiting t.state && is_misfired T m t

unfoldable pub some_misfired : SchedulerTables → ℤ → Bool
some_misfired T m = list_any (waits_misfired T m) T.triggers

-- what a run sees of the tables
abbrev pub seen : SchedulerTables → View
seen T = record {
  rows = λ i. rows_of (node_name i) T.fired;
  due = some_due T;
  misfired = some_misfired T;
  member = λ i. is_some (member_of (node_name i) T.members);
  last = T.last_moment;
}
