-- What is prepared of a Complete, and what comes of it.
use Rattle.std.specs.Prelude.{◌≡◌, ℕ, ℤ, Option, Some, None}
use Rattle.qz_types.specs.Rows.{FiredData}
use Rattle.qz_types.specs.Entries.{EntryData}
use Rattle.qz_types.specs.declared.commands.Code.{Code}
use Rattle.qz_types.specs.declared.commands.Code.TheVariants.{ReExecuteJob}
use Rattle.qz_types.specs.declared.replies.Reply.TheVariants as reply
use Rattle.qz_types.specs.Tables.{SchedulerTables, recorded_moment}
use Rattle.qz_types.specs.Outcomes.{Outcome, accepted}
use Rattle.qz_types.specs.Words.{fired_of}
use Rattle.qz_model.specs.Transaction.{transaction}
use Rattle.qz_complete.specs.Ended.{ended, without_row}
use Rattle.qz_complete.specs.declared.changes.Change.{Change}
use Rattle.qz_complete.specs.declared.changes.Change.TheVariants.{GoOn, End}

-- the change that a code asks for
abbrev pub change_for : ℕ → Code → Change
change_for entry ReExecuteJob = GoOn entry
change_for entry code = End entry code

-- the tables once the execution of this row has ended, if there is one
abbrev pub ended_row : Code → SchedulerTables → Option FiredData → SchedulerTables
ended_row code T None = T
ended_row code T (Some f) = ended code T f

-- what the change comes to when it is committed at this moment
abbrev pub committed : SchedulerTables → ℤ → Change → Outcome
committed T m (GoOn entry) = accepted (record T { last_moment = m }) (reply.Again entry)
committed T m (End entry code) = accepted (record (ended_row code (without_row entry T) (fired_of entry T.fired)) { last_moment = m }) (reply.Completed entry)

-- the entry's transaction is accepted, and comes to just that
abbrev pub Prepares : SchedulerTables → EntryData → Change → Type 0
Prepares T e change = transaction T e ≡ committed T (recorded_moment T e.at) change
