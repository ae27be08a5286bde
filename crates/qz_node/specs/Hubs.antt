-- What a node asks of a store, and what it learns of the answer.
use Rattle.std.specs.Prelude.{⊤, ◌≡◌, ◌≤◌, pos, length, Option, Some, None, Result, Ok, Err}
use Rattle.qz_types.specs.declared.commands.Code.TheVariants as code
use Rattle.qz_types.specs.declared.commands.Command.{Command}
use Rattle.qz_types.specs.declared.commands.Command.TheVariants as asks
use Rattle.qz_types.specs.declared.errors.SubmitError.{SubmitError}
use Rattle.qz_types.specs.declared.errors.SubmitError.TheVariants as submit
use Rattle.qz_types.specs.declared.replies.Reply.{Reply}
use Rattle.qz_types.specs.declared.replies.Reply.TheVariants as reply
use Rattle.qz_node.specs.declared.turns.Want.{Want}
use Rattle.qz_node.specs.declared.turns.Want.TheVariants as want
use Rattle.qz_node.specs.Turns.{TurnData, learnt_reply, learnt_refusal}

-- The transaction that is wanted. An Acquire takes one trigger, with no window.
abbrev pub command_of : Want → Option Command
command_of want.Misfires = Some asks.Misfires
command_of (want.Acquire no_later) = Some (asks.Acquire no_later (pos 0) 1)
command_of (want.Fire entry) = Some (asks.Fire entry)
command_of (want.Complete entry code) = Some (asks.Complete entry code)
command_of (want.Execute entry) = None
command_of (want.Rest until) = None
command_of want.End = None

-- What a turn learns of an answer.
abbrev pub learnt_answer : TurnData → Result Reply SubmitError → TurnData
learnt_answer turn (Ok reply) = learnt_reply turn reply
learnt_answer turn (Err (submit.Refused refusal)) = learnt_refusal turn refusal
learnt_answer turn (Err other) = turn

-- The reply belongs to the command, where this is one that a turn wants: it is of that kind, an Acquired lists no more than were
-- asked for, what is told of an entry is told of that one, and a job is executed again only where it asked for that.
abbrev pub IsReplyTo : Command → Reply → Type 0
IsReplyTo asks.Misfires (reply.Misfired moved) = ⊤
IsReplyTo asks.Misfires other = ⊥
IsReplyTo (asks.Acquire no_later window max) (reply.Acquired taken) = length taken ≤ max
IsReplyTo (asks.Acquire no_later window max) other = ⊥
IsReplyTo (asks.Fire entry) (reply.Fired of scheduled fired next trigger job) = of ≡ entry
IsReplyTo (asks.Fire entry) other = ⊥
IsReplyTo (asks.Complete entry answer) (reply.Completed of) = of ≡ entry
IsReplyTo (asks.Complete entry answer) (reply.Again of) = (of ≡ entry) × (answer ≡ code.ReExecuteJob)
IsReplyTo (asks.Complete entry answer) other = ⊥
IsReplyTo command reply = ⊤
