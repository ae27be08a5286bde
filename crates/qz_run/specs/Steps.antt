-- What each call of the store comes to, in a run that is at work.
use Rattle.std.specs.Prelude.{◌≡◌, ℕ, ◌+◌, ℤ, ◌≤ℤ◌, List, [], ◌∷◌, Bool, true, false, Option, Some, None}
use Rattle.std.specs.Int.{int_min}
use Rattle.qz_types.specs.declared.commands.Code.{Code}
use Rattle.qz_types.specs.declared.commands.Code.TheVariants.{ReExecuteJob}
use Rattle.qz_node.specs.declared.contexts.JobContext.{JobContext}
use Rattle.qz_node.specs.Jobs.{JobMeaning, Executes}
use Rattle.qz_run.specs.declared.commands.Plan.{Plan}
use Rattle.qz_run.specs.declared.commands.Grip.{Grip}
use Rattle.qz_run.specs.Stores.{RunState, acquired, executing}
use Rattle.qz_run.specs.Laws.{Ran, fresh, fires, context_in, again}
use Rattle.qz_run.specs.Working.{MayAsk, Moves, CallsNone}

-- A node that is at work.
pub record AtWork (n : ℕ) (now : ℤ) (s : RunState) : Type 0 where
  pub member : s.view.member n ≡ true
  pub free : s.view.rows n ≡ []
  pub may_ask : MayAsk n now s

-- Some triggers were misfired.
pub record HasMoved (p : Plan) (n : ℕ) (now : ℤ) (s t : RunState) : Type 0 where
  pub moves : Moves p n now s t
  pub work : AtWork n now t
  pub fires : fires t.log ≡ fires s.log
  pub calls : CallsNone s t

-- None is misfired.
pub record HasSettled (p : Plan) (n : ℕ) (now : ℤ) (s t : RunState) : Type 0 where
  pub moves : Moves p n now s t
  pub member : t.view.member n ≡ true
  pub free : t.view.rows n ≡ []
  pub settled : t.view.misfired now ≡ false
  pub may_acquire : fresh n now false t.log ≡ true
  pub fires : fires t.log ≡ fires s.log
  pub calls : CallsNone s t

abbrev pub HasAsked : Plan → ℕ → ℤ → Bool → RunState → RunState → Type 0
HasAsked p n now true s t = HasSettled p n now s t
HasAsked p n now false s t = HasMoved p n now s t

-- Nothing was due.
pub record TookNone (p : Plan) (n : ℕ) (now : ℤ) (s t : RunState) : Type 0 where
  pub moves : Moves p n now s t
  pub free : t.view.rows n ≡ []
  pub none_due : t.view.due (int_min p.until now) ≡ false
  pub fires : fires t.log ≡ fires s.log
  pub calls : CallsNone s t

-- An entry is held.
pub record Took (p : Plan) (n : ℕ) (now : ℤ) (grip : Grip) (s t : RunState) : Type 0 where
  pub moves : Moves p n now s t
  pub member : t.view.member n ≡ true
  pub row : t.view.rows n ≡ acquired grip.entry grip.next ∷ []
  pub due : grip.next ≤ℤ now
  pub may_ask : MayAsk n now t
  pub fires : fires t.log ≡ fires s.log
  pub calls : CallsNone s t

abbrev pub HasTaken : Plan → ℕ → ℤ → Option Grip → RunState → RunState → Type 0
HasTaken p n now None s t = TookNone p n now s t
HasTaken p n now (Some grip) s t = Took p n now grip s t

-- It fires.
pub record HasFired (p : Plan) (n : ℕ) (now : ℤ) (x : ℕ) (context : JobContext) (s t : RunState) : Type 0 where
  pub moves : Moves p n now s t
  pub member : t.view.member n ≡ true
  pub row : t.view.rows n ≡ executing x context.scheduled ∷ []
  pub may_ask : MayAsk n now t
  pub fires : fires t.log ≡ fires s.log + 1
  pub calls : CallsNone s t
  pub told : context_in x t.log ≡ Some context
  pub first : context.refires ≡ 0
  pub entry : context.entry ≡ x

-- one call more
abbrev pub CallsOnce : JobContext → Code → RunState → RunState → Type 0
CallsOnce context code s t = (before mid after : List JobMeaning) → Ran s.log before mid → Executes context code mid after → Ran t.log before after

-- It asks to be executed again.
pub record Repeated (p : Plan) (n : ℕ) (now : ℤ) (context : JobContext) (code : Code) (s t : RunState) : Type 0 where
  pub asked : code ≡ ReExecuteJob
  pub moves : Moves p n now s t
  pub member : t.view.member n ≡ true
  pub row : t.view.rows n ≡ executing context.entry context.scheduled ∷ []
  pub may_ask : MayAsk n now t
  pub fires : fires t.log ≡ fires s.log
  pub calls : CallsOnce context code s t
  pub told : context_in context.entry t.log ≡ Some (again context)

-- It is done.
pub record Completed (p : Plan) (n : ℕ) (now : ℤ) (context : JobContext) (code : Code) (s t : RunState) : Type 0 where
  pub moves : Moves p n now s t
  pub work : AtWork n now t
  pub fires : fires t.log ≡ fires s.log
  pub calls : CallsOnce context code s t

abbrev pub HasEnded : Plan → ℕ → ℤ → JobContext → Code → Bool → RunState → RunState → Type 0
HasEnded p n now context code true s t = Completed p n now context code s t
HasEnded p n now context code false s t = Repeated p n now context code s t
