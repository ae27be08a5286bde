-- How a firing is executed by jobs of which only their meanings are known.
use Rattle.std.specs.Prelude.{◌≡◌, ◌<◌, List}
use Rattle.std.specs.Fn.{Shared}
use denote.Ref.{Bor, MutBor}
use Rattle.qz_types.specs.declared.commands.Code.{Code}
use Rattle.qz_types.specs.declared.commands.Code.TheVariants.{ReExecuteJob}
use Rattle.qz_node.specs.declared.contexts.JobContext.{JobContext}
use Rattle.qz_node.specs.declared.executing.TheConstants.{REFIRE_LIMIT}
use Rattle.qz_node.specs.Jobs.{JobMeaning, Executes}

-- This is one execution, which counts as this code.
pub record Performs (context : JobContext) (code : Code) (before after : List JobMeaning) : Type 0 where
  pub executes : Executes context code before after
  pub within : code ≡ ReExecuteJob → context.refires < REFIRE_LIMIT

-- Each call of f is one execution by the jobs that it is given.
pub record AlwaysPerforms {F L : Type 0} (g : Shared F (MutBor L × (Bor JobContext × Unit {0})) (Code × (MutBor L × Unit {0}))) (f : F) (meanings : L → List JobMeaning) : Type 0 where
  pub does : (before : MutBor L) (context : Bor JobContext) (code : Code) (after : MutBor L) → g.post f (before, (context, tt)) (code, (after, tt)) → Performs context.now code (meanings before.now) (meanings after.now)
