-- What the end of an execution makes of the tables, once its row is taken out.
use Rattle.std.specs.Prelude.{ℕ, Bool, true, false}
use Rattle.qz_types.specs.Rows.{FiredData}
use Rattle.qz_types.specs.declared.commands.Code.{Code}
use Rattle.qz_types.specs.declared.commands.Code.TheVariants.{Noop, ReExecuteJob}
use Rattle.qz_types.specs.Tables.{SchedulerTables}
use Rattle.qz_types.specs.Words.{without_fired}
use Rattle.qz_model.specs.Completing.{with_code, with_unblocked, without_finished}

-- the node executes the job once more
abbrev pub is_again : Code → Bool
is_again ReExecuteJob = true
is_again code = false

abbrev pub is_noop : Code → Bool
is_noop Noop = true
is_noop code = false

-- the triggers of the row's job unblocked, if its execution excluded others
abbrev pub unblocked_after : SchedulerTables → FiredData → SchedulerTables
unblocked_after T f = record T { triggers = with_unblocked f.no_concurrent f.job T.triggers }

-- the code is applied, the triggers are unblocked, and a trigger that is finished then goes
abbrev pub ended : Code → SchedulerTables → FiredData → SchedulerTables
ended code T f = without_finished code (unblocked_after (with_code code T f) f) f.trigger

-- the tables without the row of this entry number
abbrev pub without_row : ℕ → SchedulerTables → SchedulerTables
without_row entry T = record T { fired = without_fired entry T.fired }
