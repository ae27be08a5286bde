-- What a command on members has ready before it changes the tables.
use Rattle.std.specs.Prelude.{◌≡◌, ⊤, ℕ, ◌≤◌, List, map, length, Option, Some, None, IfSome}
use Rattle.qz_types.specs.Entries.{EntryData}
use Rattle.qz_types.specs.Outcomes.{IsAccepted}
use Rattle.qz_types.specs.Rows.{MemberData}
use Rattle.qz_types.specs.Tables.{SchedulerTables}
use Rattle.qz_types.specs.Words.{member_of}
use Rattle.qz_types.specs.declared.commands.Command.{Command}
use Rattle.qz_types.specs.declared.commands.Command.TheVariants.{Join, Leave, Recover}
use Rattle.qz_model.specs.Recovery.{lost_of, recoveries}
use Rattle.qz_model.specs.Transaction.{transaction}
use Rattle.qz_tables.specs.Contents.{Spare, TablesData}
use Rattle.qz_recover.specs.declared.changes.Change.{Change}
use Rattle.qz_recover.specs.declared.changes.Change.TheVariants as change
use Rattle.qz_recover.specs.declared.changes.Recovery.{Recovery}

-- What is collected for the recovery of a member: the triggers that are added, and the keys of those that executed.
pub record IsCollected (T : SchedulerTables) (r : Recovery) : Type 0 where
  pub added : r.added ≡ recoveries T r.member
  pub ended : r.ended ≡ map (λ f. f.trigger) (lost_of r.member T.fired)

-- the member that is recovered, if there is one
abbrev pub member_in : Option Recovery → Option MemberData
member_in None = None
member_in (Some r) = Some r.member

-- how many triggers are added for it
abbrev pub added_by : Option Recovery → ℕ
added_by None = 0
added_by (Some r) = length r.added

-- the node joins, and what the member of its name had is collected, if there is one
pub record IsJoin (T : SchedulerTables) (c : Command) (name : List ℕ) (former : Option Recovery) : Type 0 where
  pub command : c ≡ Join name
  pub member : member_of name T.members ≡ member_in former
  pub collected : IfSome former (IsCollected T)

-- what the member had that is to be recovered is collected
pub record IsRecover (T : SchedulerTables) (c : Command) (r : Recovery) : Type 0 where
  pub node : List ℕ
  pub command : c ≡ Recover node
  pub member : member_of node T.members ≡ Some r.member
  pub collected : IsCollected T r

-- the change is that of the command at these tables
abbrev pub IsChangeOf : SchedulerTables → Command → Change → Type 0
IsChangeOf T c (change.Join name former) = IsJoin T c name former
IsChangeOf T c change.Leave = c ≡ Leave
IsChangeOf T c (change.Recover r) = IsRecover T c r

-- there is room for the rows that it adds
abbrev pub HasRoomFor : Spare → Change → Type 0
HasRoomFor spare (change.Join name former) = (1 ≤ spare.members) × (added_by former ≤ spare.triggers)
HasRoomFor spare change.Leave = ⊤
HasRoomFor spare (change.Recover r) = length r.added ≤ spare.triggers

-- The entry's transaction is accepted at these tables, and all the memory that it needs is taken.
pub record Prepares (D : TablesData) (e : EntryData) (c : Change) : Type 0 where
  pub accepted : IsAccepted (transaction D.tables e)
  pub change : IsChangeOf D.tables e.command c
  pub room : HasRoomFor D.spare c
