-- Which script steps are valid.
use Rattle.std.specs.Prelude.{Bool, true, false, not, ◌&&◌}
use Rattle.qz_types.specs.Rows.{is_interval, is_key, is_node}
use Rattle.qz_types.specs.Entries.{is_command, is_of_node}
use Rattle.qz_types.specs.declared.commands.Command.{Command}
use Rattle.qz_types.specs.declared.commands.Command.TheVariants as command
use Rattle.qz_steps.specs.declared.questions.Question.{Question}
use Rattle.qz_steps.specs.declared.questions.Question.TheVariants as question
use Rattle.qz_steps.specs.declared.steps.Step.{Step}
use Rattle.qz_steps.specs.declared.steps.Step.TheVariants.{Client, Join, CheckIn, Node, Forget, Stop, Restart, Resume, Show, Checkpoint, ShowRoom}

-- a join of the trigger store alone, which scripts do by a step of its own
abbrev pub is_join : Command → Bool
is_join (command.Join node) = true
is_join c = false

-- the key that is asked for is within its limits
abbrev pub is_question : Question → Bool
is_question (question.Job key) = is_key key
is_question (question.Trigger key) = is_key key
is_question (question.Entry entry) = true
is_question question.Next = true

-- what the step asks for is within its limits, and of its actor
abbrev pub is_step : Step → Bool
is_step (Client c) = is_command c && not (is_of_node c) && not (is_join c)
is_step (Join node interval) = is_node node && is_interval interval
is_step (CheckIn node interval) = is_node node && is_interval interval
is_step (Node node c) = is_node node && is_command c && is_of_node c
is_step (Forget node failed) = is_node node && is_node failed
is_step (Stop node) = is_node node
is_step Restart = true
is_step (Resume node epoch) = is_node node
is_step (Show q) = is_question q
is_step Checkpoint = true
is_step ShowRoom = true
