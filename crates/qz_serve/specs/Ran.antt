-- What a node's jobs were told, by what the node did and was answered.
use Rattle.std.specs.Prelude.{⊤, ◌≡◌, ◌⊎◌, ◌+◌, ◌<◌, List, [], ◌∷◌, Option, Some, None, option_map, MatchResult}
use Rattle.std.specs.declared.result.Result.{Result}
use Rattle.qz_types.specs.declared.commands.Code.{Code}
use Rattle.qz_types.specs.declared.commands.Command.{Command}
use Rattle.qz_types.specs.declared.commands.Command.TheVariants as asks
use Rattle.qz_types.specs.declared.replies.Reply.{Reply}
use Rattle.qz_types.specs.declared.replies.Reply.TheVariants as reply
use Rattle.qz_node.specs.declared.contexts.JobContext.{JobContext}
use Rattle.qz_node.specs.declared.executing.TheConstants.{REFIRE_LIMIT}
use Rattle.qz_node.specs.Contexts.{context_of}
use Rattle.qz_node.specs.Jobs.{JobMeaning, Executes}
use Rattle.qz_serve.specs.Heard.{Deed}

-- the context of the next execution of the same firing
abbrev pub again : JobContext → JobContext
again c = record c { refires = c.refires + 1 }

-- what the job of the firing in hand is told next, after this reply
abbrev pub context_after : Option JobContext → Reply → Option JobContext
context_after c (reply.Fired entry scheduled fired next trigger job) = context_of (reply.Fired entry scheduled fired next trigger job)
context_after c (reply.Again entry) = option_map again c
context_after c (reply.Completed entry) = None
context_after c other = c

-- A job is executed again only a few times in one firing.
abbrev pub MayFollow : Option JobContext → Reply → Type 0
MayFollow (Some c) (reply.Again entry) = c.refires < REFIRE_LIMIT
MayFollow c other = ⊤

-- the same after all that was done
abbrev pub context_in : List Deed → Option JobContext
context_in [] = None
context_in (d ∷ past) = context_after (context_in past) d.reply

-- One execution was made with this context, and counts as this code.
pub record Runs (context : Option JobContext) (code : Code) (before after : List JobMeaning) : Type 0 where
  pub told : JobContext
  pub is_told : context ≡ Some told
  pub executes : Executes told code before after

-- A Complete ends an execution that was made with this context and counts as its code. No other command tells jobs anything.
abbrev pub RunsBy : Option JobContext → Command → List JobMeaning → List JobMeaning → Type 0
RunsBy context (asks.Complete entry code) before after = Runs context code before after
RunsBy context other before after = after ≡ before

-- The jobs were told one call for each Complete, in order, with the context of its firing, and nothing else.
abbrev pub Ran : List Deed → List JobMeaning → List JobMeaning → Type 0
Ran [] before after = after ≡ before
Ran (d ∷ past) before after = (mid : List JobMeaning) × Ran past before mid × RunsBy (context_in past) d.entry.command mid after

-- The same, and at most one call more, whose Complete wasn't accepted.
abbrev pub RanOrMore : List Deed → List JobMeaning → List JobMeaning → Type 0
RanOrMore past before after = (mid : List JobMeaning) × Ran past before mid × ((after ≡ mid) ⊎ ((code : Code) × Runs (context_in past) code mid after))

-- Jobs that were told what these deeds say were then told what those say. Where the thread has ended there may be a last call
-- more, whose Complete wasn't accepted.
abbrev pub TellsOn : {A X : Type 0} → Result A X → List Deed → List Deed → List JobMeaning → List JobMeaning → Type 0
TellsOn result past now jobs after = (before : List JobMeaning) → Ran past before jobs → MatchResult result (λ _. Ran now before after) (λ _. RanOrMore now before after)
