-- What a transaction comes to: new tables and a reply, or a refusal, which changes nothing.
use Rattle.std.specs.Prelude.{◌≡◌, ⊤, Option, Some, None}
use Rattle.qz_types.specs.declared.replies.Reply.{Reply}
use Rattle.qz_types.specs.declared.replies.Refusal.{Refusal}
use Rattle.qz_types.specs.declared.errors.StepRefused.{StepRefused}
use Rattle.qz_types.specs.declared.errors.StepRefused.TheVariants as step
use Rattle.qz_types.specs.Tables.{SchedulerTables}

pub data Outcome : Type 0 where
  accepted : SchedulerTables → Reply → Outcome
  refused : Refusal → Outcome

-- the refusal, if there is one
abbrev pub unless : Option Refusal → Outcome → Outcome
unless None outcome = outcome
unless (Some refusal) outcome = refused refusal

abbrev pub IsAccepted : Outcome → Type 0
IsAccepted (accepted next reply) = ⊤
IsAccepted (refused refusal) = ⊥

-- The error is right for what the transaction comes to: a refusal is the transaction's own, and memory is wanted only
-- for one that is accepted.
abbrev pub IsErrorOf : Outcome → StepRefused → Type 0
IsErrorOf outcome (step.Refused refusal) = outcome ≡ refused refusal
IsErrorOf outcome step.NoMemory = IsAccepted outcome
