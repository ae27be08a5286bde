use Rattle.std.proofs.Common.{◌≡◌, ◌+◌, ◌++◌, All, IsTrue, length}
use Rattle.qz_steps.specs.Steps.{is_step}
use Rattle.qz_steps.specs.declared.steps.Step.TheVariants.{Client}
use Rattle.qz_generator.specs.Commands.{first_triggers, state_before}
use Rattle.qz_generator.proofs.commands.push_triggers.Given as goal

abbrev pub invariant-loop-number : goal.invariant-loop-number
invariant-loop-number l = record {
  value : l.commands ≡ l.fn.commands ++ first_triggers l.number l.seed;
  state : l.draws.state ≡ state_before l.number l.seed;
  valid : All (λ c. IsTrue (is_step (Client c))) l.fn.commands → All (λ c. IsTrue (is_step (Client c))) l.commands;
  count : length l.commands ≡ length l.fn.commands + l.number;
}
