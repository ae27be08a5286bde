-- What contracts see of jobs, and what an execution of a firing does.
use Rattle.std.specs.Prelude.{◌≡◌, ◌⊎◌, ℕ, Bool, true, false, nat_lt, if◌then◌else◌, List, [], ◌∷◌, ◌++◌, Option, Some, None, IfSome}
use Rattle.std.specs.List.{list_any}
use Rattle.std.specs.Str.{bytes_eq}
use Rattle.qz_types.specs.declared.commands.Code.{Code}
use Rattle.qz_types.specs.declared.commands.Code.TheVariants.{ReExecuteJob, SetTriggerError, SetAllJobTriggersError}
use Rattle.qz_node.specs.declared.contexts.JobContext.{JobContext}
use Rattle.qz_node.specs.declared.contexts.Call.{Call}

-- A job's class; and its calls so far with their answers, where it tells them.
pub record JobMeaning : Type 0 where
  pub class : List ℕ
  pub calls : Option (List Call)

-- The calls are told with one more, or told no more. A job that doesn't tell its calls never does.
abbrev pub TellsOneMore : Call → Option (List Call) → Option (List Call) → Type 0
TellsOneMore call None after = after ≡ None
TellsOneMore call (Some before) after = IfSome after (λ calls. calls ≡ before ++ call ∷ [])

-- A job was called once with this context, and gave this answer.
pub record IsCalled (context : JobContext) (answer : Code) (before after : JobMeaning) : Type 0 where
  pub class : after.class ≡ before.class
  pub told : TellsOneMore (record { context = context; code = answer }) before.calls after.calls

-- What an answer counts as, after so many answers ReExecuteJob in its firing: the ninth counts as an error.
abbrev pub counted : ℕ → Code → Code
counted refires ReExecuteJob = if nat_lt refires 8 then ReExecuteJob else SetTriggerError
counted refires other = other

-- A job was called once, and its answer counts as this code.
pub record IsCounted (context : JobContext) (code : Code) (before after : JobMeaning) : Type 0 where
  pub answer : Code
  pub counts : code ≡ counted context.refires answer
  pub called : IsCalled context answer before after

abbrev pub is_of_class : List ℕ → JobMeaning → Bool
is_of_class class job = bytes_eq job.class class

-- The first job of the context's class is called once, and its answer counts as this code; all other jobs stay as they are.
pub record CallsFirst (context : JobContext) (code : Code) (jobs after : List JobMeaning) : Type 0 where
  pub others : List JobMeaning
  pub job : JobMeaning
  pub called : JobMeaning
  pub further : List JobMeaning
  pub jobs_are : jobs ≡ others ++ job ∷ further
  pub is_first : list_any (is_of_class context.job.class) others ≡ false
  pub is_of : is_of_class context.job.class job ≡ true
  pub counts : IsCounted context code job called
  pub after_are : after ≡ others ++ called ∷ further

-- There is no job of the context's class: this counts as an error of the job's triggers.
pub record HasNoJob (context : JobContext) (code : Code) (jobs after : List JobMeaning) : Type 0 where
  pub no_job : list_any (is_of_class context.job.class) jobs ≡ false
  pub error : code ≡ SetAllJobTriggersError
  pub same : after ≡ jobs

-- One execution of a firing, by the jobs that a node has, counts as this code.
abbrev pub Executes : JobContext → Code → List JobMeaning → List JobMeaning → Type 0
Executes context code jobs after = CallsFirst context code jobs after ⊎ HasNoJob context code jobs after
