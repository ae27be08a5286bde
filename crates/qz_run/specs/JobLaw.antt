-- What the first job of a class tells after a run.
use Rattle.std.specs.Prelude.{⊤, ◌≡◌, ℕ, List, [], ◌∷◌, ◌++◌, if◌then◌else◌, Option, Some, None}
use Rattle.std.specs.Str.{bytes_eq}
use Rattle.qz_types.specs.declared.commands.Code.{Code}
use Rattle.qz_node.specs.declared.contexts.JobContext.{JobContext}
use Rattle.qz_node.specs.declared.contexts.Call.{Call}
use Rattle.qz_node.specs.Jobs.{JobMeaning, is_of_class, counted}
use Rattle.qz_run.specs.declared.commands.NodeCommand.{NodeCommand}
use Rattle.qz_run.specs.declared.commands.NodeCommand.TheVariants as asks
use Rattle.qz_run.specs.Stores.{Event}
use Rattle.qz_run.specs.Laws.{context_in}

-- what the first job of this class tells
abbrev pub told : List ℕ → List JobMeaning → Option (List Call)
told class [] = None
told class (job ∷ jobs) = if is_of_class class job then job.calls else told class jobs

-- the context of a Complete and its code, where it is of this class
abbrev pub asked_for : List ℕ → Code → Option JobContext → List (JobContext × Code)
asked_for class code None = []
asked_for class code (Some context) = if bytes_eq context.job.class class then (context, code) ∷ [] else []

abbrev pub asked_by : List ℕ → NodeCommand → List Event → List (JobContext × Code)
asked_by class (asks.Complete x code) past = asked_for class code (context_in x past)
asked_by class other past = []

-- those of all Completes, in order
abbrev pub asked : List ℕ → List Event → List (JobContext × Code)
asked class [] = []
asked class (e ∷ past) = asked class past ++ asked_by class e.command past

-- The calls have these contexts, and their answers count as these codes.
abbrev pub AreTold : List (JobContext × Code) → List Call → Type 0
AreTold [] [] = ⊤
AreTold (a ∷ rest) (call ∷ calls) = (call.context ≡ a.0) × (a.1 ≡ counted a.0.refires call.code) × AreTold rest calls
AreTold [] (call ∷ calls) = ⊥
AreTold (a ∷ rest) [] = ⊥

-- Behind the calls from before stand those of these Completes.
pub record GrowsBy (asked : List (JobContext × Code)) (before after : List Call) : Type 0 where
  pub made : List Call
  pub calls : after ≡ before ++ made
  pub told : AreTold asked made

-- Where calls are told in the end they were told before, and have grown by these.
abbrev pub Grows : List (JobContext × Code) → Option (List Call) → Option (List Call) → Type 0
Grows asked before None = ⊤
Grows asked None (Some after) = ⊥
Grows asked (Some before) (Some after) = GrowsBy asked before after
