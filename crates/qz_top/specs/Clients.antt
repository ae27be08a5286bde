-- Commands that are done in turn, as steps of a client, and answered.
use Rattle.std.specs.Prelude.{◌≡◌, ℤ, List, [], ◌∷◌, ◌++◌, length, Option, Some, None, Result, Ok, Err, IsTrue}
use Rattle.std.specs.List.{AllByRecursion}
use Rattle.std.specs.Io.KnownBytes.{Appends}
use Rattle.qz_io.specs.Clocks.{Tells}
use Rattle.qz_io.specs.Outside.{Outside}
use Rattle.qz_types.specs.declared.commands.Command.{Command}
use Rattle.qz_steps.specs.Steps.{is_step}
use Rattle.qz_steps.specs.declared.steps.Step.TheVariants.{Client}
use Rattle.qz_steps.specs.declared.steps.StepReply.{StepReply}
use Rattle.qz_job_json.specs.declared.lines.Given.{Given}
use Rattle.qz_cluster.specs.Script.{TimedStep}
use Rattle.qz_top.specs.LineOutcomes.{IsOwn, StepDone}
use Rattle.qz_top.specs.Trails.{texts, RunState, RanSteps}
use Rattle.qz_top.specs.declared.line_handler.LineEnd.{LineEnd}

-- a command that a client gives, within its limits
abbrev pub IsOfClient : Command → Type 0
IsOfClient c = IsTrue (is_step (Client c))

-- each command as a step of a client, at the moment in its place
abbrev pub client_steps : List Command → List ℤ → List TimedStep
client_steps [] moments = []
client_steps (c ∷ commands) [] = []
client_steps (c ∷ commands) (m ∷ moments) = record { step = Client c; at = m } ∷ client_steps commands moments

-- the readings of the clock that were taken: each of these, or none where all are the one that was given
abbrev pub taken_readings : Option ℤ → List ℤ → List ℤ
taken_readings None moments = moments
taken_readings (Some at) moments = []

-- The commands were done in turn and answered: each at the moment that was given or, without one, at a reading of the
-- clock of its own.
pub record DidCommands (honest : Type 0) (at : Option ℤ) (commands : List Command) (before after : RunState) (old new : Outside) : Type 0 where
  pub moments : List ℤ
  pub count : length moments ≡ length commands
  pub own : AllByRecursion (IsOwn at) moments
  pub told : Tells old.readings new.readings (taken_readings at moments)
  pub replies : List StepReply
  pub steps : RanSteps honest (client_steps commands moments) replies before after
  pub written : Appends old.held new.held (texts replies)

abbrev pub given_command : Option ℤ → Command → Given
given_command at c = record { at = at; step = Client c }

-- The first of the commands were done and answered, and the next one ended it so.
pub record DidSome (honest : Type 0) (end : LineEnd) (at : Option ℤ) (commands : List Command) (before after : RunState) (old new : Outside) : Type 0 where
  pub done : List Command
  pub next : Command
  pub left : List Command
  pub all : commands ≡ done ++ next ∷ left
  pub between : RunState
  pub then : Outside
  pub did : DidCommands honest at done before between old then
  pub ended : StepDone honest (Err end) (given_command at next) between after then new

-- all of them were done, or the first ones
abbrev pub CommandsDone : Type 0 → Result (Unit {0}) LineEnd → Option ℤ → List Command → RunState → RunState → Outside → Outside → Type 0
CommandsDone honest (Ok x) at commands before after old new = DidCommands honest at commands before after old new
CommandsDone honest (Err end) at commands before after old new = DidSome honest end at commands before after old new
