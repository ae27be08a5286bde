-- What becomes of a member that is recovered, if there is one.
use Rattle.std.specs.Prelude.{ℕ, List, Bool, not, ◌&&◌, length, Option, Some, None}
use Rattle.qz_types.specs.Rows.{JobData, MemberData, FiredData}
use Rattle.qz_types.specs.States.{is_acquired}
use Rattle.qz_types.specs.Tables.{SchedulerTables}
use Rattle.qz_model.specs.Recovery.{asks, lost_of, recoveries, recovered}
use Rattle.qz_model.specs.Tests.{is_of}

-- the row is an execution of the member
abbrev pub is_execution_of : MemberData → FiredData → Bool
is_execution_of member f = not (is_acquired f.state) && is_of member f

-- a trigger is added for the row
abbrev pub is_recovered_by : List JobData → MemberData → FiredData → Bool
is_recovered_by jobs member f = is_execution_of member f && asks jobs f

-- the tables without the member, if there is one
abbrev pub taken_over : SchedulerTables → Option MemberData → SchedulerTables
taken_over T None = T
taken_over T (Some member) = recovered T member

-- how many executions it has
abbrev pub executions_of : SchedulerTables → Option MemberData → ℕ
executions_of T None = 0
executions_of T (Some member) = length (lost_of member T.fired)

-- how many triggers are added for it
abbrev pub triggers_for : SchedulerTables → Option MemberData → ℕ
triggers_for T None = 0
triggers_for T (Some member) = length (recoveries T member)
