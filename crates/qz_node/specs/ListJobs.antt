-- What contracts see of a job that answers a list of codes.
use Rattle.std.specs.Prelude.{ℕ, List, Option}
use Rattle.qz_types.specs.declared.commands.Code.{Code}
use Rattle.qz_node.specs.declared.contexts.Call.{Call}
use Rattle.qz_node.specs.Jobs.{JobMeaning}

-- Its class; its codes, and how many of them it has answered; and its calls so far, where it has kept them.
pub record ListJobData : Type 0 where
  pub class : List ℕ
  pub codes : List Code
  pub answered : ℕ
  pub calls : Option (List Call)

-- as a job
abbrev pub meaning_of : ListJobData → JobMeaning
meaning_of job = record { class = job.class; calls = job.calls }
