-- What a node's round comes to.
use Rattle.std.specs.Prelude.{◌≡◌, ◌⊎◌, ℕ, ◌+◌, ◌≤◌, ℤ, List, [], ◌∷◌, Bool, true, false, Some}
use Rattle.std.specs.Int.{int_min}
use Rattle.qz_node.specs.declared.contexts.JobContext.{JobContext}
use Rattle.qz_node.specs.declared.executing.TheConstants.{REFIRE_LIMIT}
use Rattle.qz_node.specs.Jobs.{JobMeaning}
use Rattle.qz_run.specs.declared.commands.Plan.{Plan}
use Rattle.qz_run.specs.Stores.{RunState, executing}
use Rattle.qz_run.specs.Laws.{Ran, RanOrMore, fires, context_in, again}
use Rattle.qz_run.specs.Working.{Ready, Moves, IsLawfulRun}
use Rattle.qz_run.specs.Steps.{AtWork}

-- The calls of the jobs go on as the log does.
abbrev pub GoesOn : RunState → RunState → List JobMeaning → List JobMeaning → Type 0
GoesOn s t jobs news = (before : List JobMeaning) → Ran s.log before jobs → Ran t.log before news

-- How a run is left at an error.
pub record BreaksOff (p : Plan) (s t : RunState) (jobs news : List JobMeaning) : Type 0 where
  pub lawful : IsLawfulRun p t
  pub calls : (before : List JobMeaning) → Ran s.log before jobs → RanOrMore t.log before news

-- A node executes what it holds.
pub record IsExecuting (p : Plan) (n : ℕ) (now : ℤ) (context : JobContext) (s : RunState) : Type 0 where
  pub ready : Ready p now s
  pub member : s.view.member n ≡ true
  pub row : s.view.rows n ≡ executing context.entry context.scheduled ∷ []
  pub told : context_in context.entry s.log ≡ Some context
  pub within : context.refires ≤ REFIRE_LIMIT

-- It has ended what it held.
pub record Finishes (p : Plan) (n : ℕ) (now : ℤ) (s t : RunState) : Type 0 where
  pub moves : Moves p n now s t
  pub work : AtWork n now t
  pub fires : fires t.log ≡ fires s.log

-- It is to be executed again.
pub record Continues (p : Plan) (n : ℕ) (now : ℤ) (context : JobContext) (s t : RunState) : Type 0 where
  pub moves : Moves p n now s t
  pub executes : IsExecuting p n now (again context) t
  pub fires : fires t.log ≡ fires s.log

abbrev pub HasExecuted : Plan → ℕ → ℤ → JobContext → Bool → RunState → RunState → Type 0
HasExecuted p n now context true s t = Finishes p n now s t
HasExecuted p n now context false s t = Continues p n now context s t

-- It held an entry.
pub record RoundFires (p : Plan) (n : ℕ) (now : ℤ) (s t : RunState) : Type 0 where
  pub moves : Moves p n now s t
  pub work : AtWork n now t
  pub fires : fires t.log ≡ fires s.log + 1

-- Nothing was due.
pub record RoundRests (p : Plan) (n : ℕ) (now : ℤ) (s t : RunState) : Type 0 where
  pub moves : Moves p n now s t
  pub free : t.view.rows n ≡ []
  pub none_due : t.view.due (int_min p.until now) ≡ false
  pub fires : fires t.log ≡ fires s.log

abbrev pub HasRounded : Plan → ℕ → ℤ → Bool → RunState → RunState → Type 0
HasRounded p n now true s t = RoundFires p n now s t
HasRounded p n now false s t = RoundRests p n now s t

-- nothing yet, or some moves without a Fire
pub record Goes (p : Plan) (n : ℕ) (now : ℤ) (s t : RunState) : Type 0 where
  pub moves : Moves p n now s t
  pub fires : fires t.log ≡ fires s.log

abbrev pub Went : Plan → ℕ → ℤ → RunState → RunState → Type 0
Went p n now s t = (t ≡ s) ⊎ Goes p n now s t
