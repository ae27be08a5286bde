use Rattle.std.proofs.Common.{false, refl}
use Rattle.qz_types.specs.declared.commands.Command.TheVariants.{AddJob}
use Rattle.qz_generator.proofs.Steps.{next_job, next_draws, all_valid, one_longer}
use Rattle.qz_generator.proofs.commands.push_jobs.Goals as goal

pub loop-number-preserved : goal.loop-number-preserved
loop-number-preserved c =
    let pushed = c.in_ok-push.ensures.ok in
    let i = c.loop-number.invariant in
    record {
      value = next_job c.args.commands.now c.loop-number.commands c.push.new.self c.args.seed c.loop-number.number c.loop-number.draws.state c.choice-choice.result c.in_ok-job.job i.value i.state c.choice-choice.ensures.value c.in_ok-job.ensures pushed;
      state = next_draws c.args.seed c.loop-number.number c.loop-number.draws.state c.choice-choice.new.self.state i.state c.choice-choice.ensures.state;
      valid = λ before. all_valid c.loop-number.commands c.push.new.self (AddJob c.in_ok-job.job false) pushed refl (i.valid before);
      count = one_longer c.args.commands.now c.loop-number.commands c.push.new.self (AddJob c.in_ok-job.job false) c.loop-number.number pushed i.count;
    }
