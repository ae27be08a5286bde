use Rattle.std.proofs.Common.{false}
use Rattle.qz_types.specs.declared.commands.Command.TheVariants.{AddTrigger}
use Rattle.qz_generator.proofs.Steps.{next_trigger, next_draws, all_valid, trigger_valid, one_longer}
use Rattle.qz_generator.proofs.commands.push_triggers.Goals as goal

pub loop-number-preserved : goal.loop-number-preserved
loop-number-preserved c =
    let pushed = c.in_ok-push.ensures.ok in
    let i = c.loop-number.invariant in
    record {
      value = next_trigger c.args.commands.now c.loop-number.commands c.push.new.self c.args.seed c.loop-number.number c.loop-number.draws.state c.choice-choice.result c.in_ok-spec.spec i.value i.state c.choice-choice.ensures.value c.in_ok-spec.ensures.value pushed;
      state = next_draws c.args.seed c.loop-number.number c.loop-number.draws.state c.choice-choice.new.self.state i.state c.choice-choice.ensures.state;
      valid = λ before. all_valid c.loop-number.commands c.push.new.self (AddTrigger c.in_ok-spec.spec false) pushed (trigger_valid c.in_ok-spec.spec c.in_ok-spec.ensures.valid) (i.valid before);
      count = one_longer c.args.commands.now c.loop-number.commands c.push.new.self (AddTrigger c.in_ok-spec.spec false) c.loop-number.number pushed i.count;
    }
